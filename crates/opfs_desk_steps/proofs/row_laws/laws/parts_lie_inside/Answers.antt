use Rattle.opfs_desk_steps.proofs.row_laws.Inside.{lie-inside}
use Rattle.opfs_desk_steps.proofs.row_laws.laws.parts_lie_inside.Goals as goal

pub returns : goal.returns
returns g c = lie-inside c.state_laws.ensures g.D.Disk
