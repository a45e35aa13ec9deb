use Rattle.std.proofs.Common.{◌≡◌, ◌++◌}
use Rattle.std.specs.Vec.Iter.{into_iter_items}
use Rattle.opfs_script.proofs.agents.finished.Given as goal

abbrev pub invariant-loop-draft : goal.invariant-loop-draft
invariant-loop-draft l = l.agents.items ++ into_iter_items l.draft-iterator ≡ l.fn.drafts.items
