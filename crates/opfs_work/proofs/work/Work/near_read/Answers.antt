use Rattle.std.proofs.Common.{arith, ◌∙◌}
use Rattle.opfs_work.proofs.Holding.{length_small}
use Rattle.opfs_work.proofs.work.Work.near_read.Goals as goal

pub is_near_between-requires : goal.is_near_between-requires
is_near_between-requires c =
    let small = length_small c.self.inside.length c.len-len.result c.room-room.result (c.len-len.ensures.len ∙ c.self.invariant.0.pages_are) (omega (arith, c.len-len.ensures.within, c.room-room.ensures.room)) c.room-room.ensures.small in
    omega (arith, c.min-end.ensures)
