use Rattle.std.proofs.Common.{◌≡◌, take, map}
use Rattle.opfs_script_kept.specs.Packed.Telling.{without_steps}
use Rattle.opfs_script_kept.proofs.packed.script.heads_of.Given as goal

abbrev pub invariant-loop-agent : goal.invariant-loop-agent
invariant-loop-agent l = l.heads.items ≡ map without_steps (take l.agent-index l.agents)
