use Rattle.opfs_records.specs.Replay.Built.{named}
use Rattle.opfs_records.specs.Replay.Kept.{AreMarked}
use Rattle.opfs_tree.specs.Rows.{without}
use Rattle.opfs_records.proofs.replay.Keeping.{kept_without}
use Rattle.opfs_records.proofs.replay.replay.Replay.without_row.Goals as goal

pub invariant_of-result : goal.invariant_of-result
invariant_of-result c =
    let marked : AreMarked c.remove.new.map (named (without (c.args.unit.now, c.args.path.now) c.self.inside.tree)) = rw (← c.in_ok-remove.ensures.rows) c.in_ok-remove.ensures.marked in
    rw c.in_ok-remove.ensures.rows (kept_without c.self.inside.tree c.self.inside.map c.self.inside.shed.buckets c.self.inside.most c.self.inside.charge (c.args.unit.now, c.args.path.now) c.remove.new.map c.self.invariant
    marked c.in_ok-remove.ensures.size)
