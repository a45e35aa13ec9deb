use Rattle.std.proofs.Common.{ap, ◌∙◌, is_none}
use Rattle.std.specs.List.{list_all}
use Rattle.opfs_tree.specs.Rows.{taken_lock}
use Rattle.opfs_tree.proofs.Counts.{none_is}
use Rattle.opfs_tree.proofs.counted.CountedUnit.none_taken.Goals as goal

pub returns : goal.returns
returns c = none_is _ _ c.self.invariant ∙ ap (list_all (λ e. is_none (taken_lock e.1))) c.self.view_is
