use Rattle.std.proofs.Common.{◌≡◌, ◌++◌, ◌+◌, ◌-◌}
use Rattle.opfs_script_run.specs.Runs.Running.{entries_of}
use Rattle.opfs_gen.specs.Summing.{lines_from, summary_of}
use Rattle.opfs_gen.proofs.summing.lines_of.Given as goal

abbrev pub invariant-loop-index : goal.invariant-loop-index
invariant-loop-index l = l.text.items ++ lines_from (λ k. entries_of k l.history) (l.index + 1) (l.agents - l.index) ≡ summary_of l.agents l.history
