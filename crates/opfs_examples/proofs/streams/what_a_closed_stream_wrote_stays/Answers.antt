use Rattle.std.proofs.Common.{refl}
use Rattle.opfs_machine.specs.Machine.{whole_machine}
use Rattle.opfs_examples.proofs.streams.what_a_closed_stream_wrote_stays.Goals as goal

pub returns : goal.returns
unfolding whole_machine
returns c = refl
