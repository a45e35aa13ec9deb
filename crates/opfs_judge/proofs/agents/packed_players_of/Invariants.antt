use Rattle.std.proofs.Common.{◌≡◌, take, map}
use Rattle.opfs_judge.specs.Players.{starting}
use Rattle.opfs_judge.proofs.agents.packed_players_of.Given as goal

abbrev pub invariant-loop-script : goal.invariant-loop-script
invariant-loop-script l = l.players.items ≡ map starting (take l.script-index l.scripts)
