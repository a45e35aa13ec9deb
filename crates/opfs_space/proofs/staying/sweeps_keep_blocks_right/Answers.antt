use Rattle.std.proofs.Common.{length, refl}
use Rattle.opfs_space.proofs.Keeping.{blocks_looked, blocks_swept}
use Rattle.opfs_space.proofs.staying.sweeps_keep_blocks_right.Goals as goal

pub returns-clause-look : goal.returns-clause-look
returns-clause-look c = λ h used own then found are swept. blocks_looked h (length used) then found swept used own are refl

pub returns-clause-sweep : goal.returns-clause-sweep
returns-clause-sweep c = λ h used own then found are swept none. blocks_swept h (length used) then found swept used own are refl none
