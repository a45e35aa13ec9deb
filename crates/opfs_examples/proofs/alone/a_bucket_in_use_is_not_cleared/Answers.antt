use Rattle.std.proofs.Common.{◌≡◌, true, false}
use Rattle.opfs_machine.specs.Machine.{whole_machine}
use Rattle.opfs_examples.proofs.alone.a_bucket_in_use_is_not_cleared.Goals as goal

other : false ≡ true → ⊥
other e = cc

pub returns : goal.returns
unfolding whole_machine
returns c = λ h. other h.1.1.1.0.unlocked
