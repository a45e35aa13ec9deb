use Rattle.opfs_desk_steps.proofs.Acting.{are-acted}
use Rattle.opfs_desk_steps.proofs.steps.calls_are_acted.Goals as goal

pub returns : goal.returns
returns g c = are-acted g.D.Disk c.a_doubt_stays.ensures
