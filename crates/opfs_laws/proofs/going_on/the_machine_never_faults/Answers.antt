use Rattle.opfs_laws.proofs.NeverFaults.{never-faults}
use Rattle.opfs_laws.proofs.going_on.the_machine_never_faults.Goals as goal

pub returns : goal.returns
returns c = never-faults
