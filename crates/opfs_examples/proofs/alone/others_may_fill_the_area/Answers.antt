use Rattle.std.proofs.Common.{refl}
use Rattle.opfs_machine.specs.Machine.{whole_machine}
use Rattle.opfs_examples.proofs.alone.others_may_fill_the_area.Goals as goal

pub returns : goal.returns
unfolding whole_machine
returns c = (record { live = refl; fitting = refl; agrees = (refl, refl) }, tt)
