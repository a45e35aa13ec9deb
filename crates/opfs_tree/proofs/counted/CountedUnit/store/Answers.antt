use Rattle.std.proofs.Common.{refl}
use Rattle.opfs_tree.proofs.Counts.{counted_kept}
use Rattle.opfs_tree.proofs.counted.CountedUnit.store.Goals as goal

pub invariant_of-self : goal.invariant_of-self
invariant_of-self c = counted_kept _ _ c.self.invariant c.args.path.now _ _ (λ f. refl) c.store.ensures.rows
