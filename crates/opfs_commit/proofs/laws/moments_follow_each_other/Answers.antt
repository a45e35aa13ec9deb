use Rattle.opfs_outside.specs.Moments.{elapses-trans}
use Rattle.opfs_commit.proofs.Trailing.{shows_both, shows_behind, shows_on}
use Rattle.opfs_commit.proofs.laws.moments_follow_each_other.Goals as goal

pub returns-clause-both : goal.returns-clause-both
returns-clause-both g s told o least later all more old mid new first second le was is =
    let laws = g.met.D.Disk in
    (elapses-trans g.D.Disk.moment g.D.Disk.since (laws.falls told) old mid new first second, shows_both g.D.Disk (laws.falls told) o least later all more old mid new first second le was is)

pub returns-clause-behind_a_doubt : goal.returns-clause-behind_a_doubt
returns-clause-behind_a_doubt g s told o least later all others old mid new first second le was is =
    let laws = g.met.D.Disk in
    shows_behind g.D.Disk (laws.falls told) o least later all others old mid new first second le was is

pub returns-clause-go_on : goal.returns-clause-go_on
returns-clause-go_on g s told o least later all more others old mid new first second le was is =
    let laws = g.met.D.Disk in
    shows_on g.D.Disk (laws.falls told) o least later all others old mid new first second le more was is
