use Rattle.std.proofs.Common.{◌≡◌, drop}
use Rattle.std.specs.List.{list_any}
use Rattle.opfs_transcripts.specs.Waiting.Fixed.{has_await}
use Rattle.opfs_judge.proofs.settling.one_packed_awaits.Given as goal

abbrev pub invariant-loop-agent : goal.invariant-loop-agent
invariant-loop-agent l = list_any has_await l.agents ≡ list_any has_await (drop l.agent-index l.agents)
