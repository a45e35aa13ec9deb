use Rattle.opfs_records.proofs.replay.Keeping.{kept_put}
use Rattle.opfs_records.proofs.replay.replay.Replay.with_row.Goals as goal

pub invariant_of-result : goal.invariant_of-result
invariant_of-result c =
    rw c.in_ok-add.ensures.ok (kept_put c.self.inside.tree c.self.inside.map c.self.inside.shed.buckets c.self.inside.most c.self.inside.charge (c.args.unit.now, c.args.path.now) c.args.row c.self.invariant
    (rw (← c.self.view_is) at c.requires.free) c.requires.bare (rw (← c.self.view_is) at c.requires.sound) c.requires.writable)
