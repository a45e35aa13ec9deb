use Rattle.opfs_tree.proofs.Counts.{counted_change, counted_among}
use Rattle.opfs_tree.proofs.counted.CountedUnit.release.Goals as goal

pub recounted-self-inside-requires-clause-counted : goal.recounted-self-inside-requires-clause-counted
recounted-self-inside-requires-clause-counted c = counted_change _ _ c.self.invariant c.args.path.now _ c.release-count.ensures.before _ _ _ c.release-count.ensures.after c.release-count.ensures.rows

pub recounted-self-inside-requires-clause-among : goal.recounted-self-inside-requires-clause-among
recounted-self-inside-requires-clause-among c = counted_among _ _ c.self.invariant c.args.path.now _ c.release-count.ensures.before
