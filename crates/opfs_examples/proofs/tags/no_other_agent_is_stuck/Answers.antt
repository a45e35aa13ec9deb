use Rattle.std.proofs.Common.{refl}
use Rattle.opfs_machine.specs.Machine.{whole_machine}
use Rattle.opfs_examples.proofs.Runs.{unfit}
use Rattle.opfs_examples.proofs.tags.no_other_agent_is_stuck.Goals as goal

pub returns : goal.returns
unfolding whole_machine
returns c = λ h. unfit _ _ _ refl h.1.1.1.1.0
