use Rattle.std.proofs.Common.{◌≡◌, All, map, take}
use Rattle.opfs_desk_runs.specs.Agents.{IsOwnKey}
use Rattle.opfs_books.specs.Openings.Openings.{caller_by}
use Rattle.opfs_script_run.specs.Stage.Openings.{who_of}
use Rattle.opfs_desk_runs.proofs.agents.agents_of.Given as goal

abbrev pub invariant-loop-script : goal.invariant-loop-script
invariant-loop-script l = record {
  agents : map caller_by l.agents.items ≡ map who_of (take l.script-index l.scripts);
  keys : All (λ s. IsOwnKey s.key) (take l.script-index l.scripts);
}
