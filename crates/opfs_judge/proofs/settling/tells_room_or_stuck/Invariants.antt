use Rattle.std.proofs.Common.{◌≡◌, length}
use Rattle.opfs_transcripts.specs.Told.Reading.{tells_room, tells_stuck}
use Rattle.opfs_judge.proofs.settling.tells_room_or_stuck.Given as goal

abbrev pub invariant-loop-rest : goal.invariant-loop-rest
invariant-loop-rest l = record {
  room : tells_room l.text ≡ tells_room l.rest;
  stuck : tells_stuck l.text ≡ tells_stuck l.rest;
}

abbrev pub decreases-loop-rest : goal.decreases-loop-rest
decreases-loop-rest l = length l.rest
