use Rattle.std.specs.Map.Iter.{deref_pair}
use Rattle.std.proofs.lemmas.Map.Iter.{rest_more}
use Rattle.opfs_tree.proofs.Steps.{unit_first, unit_empty}
use Rattle.opfs_tree.proofs.tree.first_of.Goals as goal

pub returns-in-Some-first : goal.returns-in-Some-first
returns-in-Some-first c =
    unit_first _ _ _ _ _ (rest_more deref_pair _ _ _ _ c.in-Some.is c.next.ensures.steps) c.loop-key.invariant c.in-Some-first.ensures

pub loop-key-preserved : goal.loop-key-preserved
loop-key-preserved c =
    unit_empty _ _ _ _ (rest_more deref_pair _ _ _ _ c.in-Some.is c.next.ensures.steps) c.loop-key.invariant c.in_default.ensures
