use Rattle.std.proofs.Common.{◌≡◌, length, arith, ◌∙◌, ap, refl, min, unwrap_or}
use Rattle.opfs_work.proofs.Holding.{length_small, read_law, read_length}
use Rattle.opfs_work.proofs.work.Work.read.Goals as goal

pub copy_out-requires : goal.copy_out-requires
copy_out-requires c =
    let small = length_small c.self.inside.length c.len-len.result c.room-room.result (c.len-len.ensures.len ∙ c.self.invariant.0.pages_are) (omega (arith, c.len-len.ensures.within, c.room-room.ensures.room)) c.room-room.ensures.small in
    omega (arith, c.min-start.ensures, c.min-len.ensures)

pub returns-clause-bytes : goal.returns-clause-bytes
returns-clause-bytes c = λ far.
    rw (c.from_vec.ensures, ← c.self.view_is)
    (read_law far c.self.inside.table.pages c.self.inside.length _ c.args.len c.min-start.result c.min-len.result c.in_ok-bytes.bytes.items (rw (← c.self.view_is) at c.requires) (c.min-start.ensures ∙ ap (λ n. min n c.self.inside.length) c.unwrap_or.ensures) c.min-len.ensures c.in_ok-bytes.ensures)

pub returns-clause-moved : goal.returns-clause-moved
returns-clause-moved c =
    let count : length c.from_vec.result ≡ c.min-len.result = ap length c.from_vec.ensures ∙ read_length c.self.inside.table.pages c.min-start.result c.min-len.result c.in_ok-bytes.bytes.items c.in_ok-bytes.ensures in
    let start : c.min-start.result ≡ min (unwrap_or c.args.at c.self.inside.position) c.self.inside.length = c.min-start.ensures ∙ ap (λ n. min n c.self.inside.length) c.unwrap_or.ensures in
    rw (count, ← c.self.view_is, start) refl
