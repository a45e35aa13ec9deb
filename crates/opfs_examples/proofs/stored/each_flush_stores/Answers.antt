use Rattle.std.proofs.Common.{refl}
use Rattle.opfs_machine.specs.Machine.{whole_machine}
use Rattle.opfs_examples.proofs.stored.each_flush_stores.Goals as goal

pub returns : goal.returns
unfolding whole_machine
returns c = refl
