use Rattle.std.proofs.Common.{ap, subst, ◌∙◌}
use Rattle.std.specs.List.Sorted.{IsStrictlySortedBy}
use Rattle.std.specs.Map.{keys_of}
use Rattle.opfs_tree.specs.Units.{below, front, from, path_cmp}
use Rattle.opfs_tree.proofs.Ranges.{within_front}
use Rattle.opfs_tree.proofs.unit.Unit.from.Goals as goal

pub returns-clause-rows : goal.returns-clause-rows
returns-clause-rows c = c.range.ensures.between _ ∙ ap (from c.args.path.now) c.self.view_is

pub returns-clause-within : goal.returns-clause-within
returns-clause-within c =
    ap (front c.args.path.now) (c.range.ensures.between _)
    ∙ (within_front c.args.path.now _ c.range.ensures.ordered ∙ ap (below c.args.path.now) c.self.view_is)

pub returns-clause-order : goal.returns-clause-order
returns-clause-order c = subst (λ es. IsStrictlySortedBy path_cmp (keys_of es)) c.self.view_is c.range.ensures.ordered
