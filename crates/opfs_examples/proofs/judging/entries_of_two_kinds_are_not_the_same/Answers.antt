use Rattle.std.proofs.Common.{refl}
use Rattle.std.specs.Fmt.{digits}
use Rattle.hex.proofs.OnLiterals.{hex_on_literals}
use Rattle.serde_json.proofs.OnLiterals.{serde_json_on_literals}
use Rattle.opfs_machine.specs.Machine.{whole_machine}
use Rattle.opfs_examples.proofs.Answered.{answered}
use Rattle.opfs_examples.proofs.judging.entries_of_two_kinds_are_not_the_same.Goals as goal

pub returns : goal.returns
unfolding whole_machine digits hex_on_literals serde_json_on_literals
returns c = answered _ _ _ _ refl refl refl refl refl refl
