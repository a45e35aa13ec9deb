use Rattle.opfs_desk_steps.proofs.iterating.Ends.{acted-ended}
use Rattle.opfs_desk_steps.proofs.iterating.Gifts.{acted-found, acted-given}
use Rattle.opfs_desk_steps.proofs.iterating.Pending.{acted-stays}
use Rattle.opfs_desk_steps.proofs.iterating.going_on.iterators_go_on.Goals as goal

pub returns : goal.returns
returns g c = record {
  found = acted-found g.D.Disk.tells;
  stays = acted-stays g.D.Disk.tells;
  given = λ o h calls new c work past answered at name whole told may acted given reach. acted-given g.D.Disk.tells o h calls new c work past answered at name whole told may acted given reach;
  ended = λ o h calls new c work past answered name may acted end ends. acted-ended g.D.Disk.tells o h calls new c work past answered name may acted end ends;
}
