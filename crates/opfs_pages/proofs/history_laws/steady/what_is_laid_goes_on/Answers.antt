use Rattle.opfs_pages.proofs.history_laws.Laying.{laid-beside, laid-in-hand}
use Rattle.opfs_pages.proofs.history_laws.steady.what_is_laid_goes_on.Goals as goal

pub returns-clause-beside : goal.returns-clause-beside
returns-clause-beside g c = laid-beside g.D.Disk.tells

pub returns-clause-in_hand : goal.returns-clause-in_hand
returns-clause-in_hand g c = λ o h e base before now m t s r old new is spaced was. laid-in-hand g.D.Disk.tells o h e base before now m t s r is old new spaced was
