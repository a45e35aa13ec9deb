use Rattle.opfs_commands.proofs.dump_laws.Images.{images-read-back}
use Rattle.opfs_commands.proofs.dump_laws.laws.dumps_are_read_back.Goals as goal

pub returns : goal.returns
returns g = images-read-back
