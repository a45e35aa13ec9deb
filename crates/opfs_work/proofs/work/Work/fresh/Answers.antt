use Rattle.std.proofs.Common.{ap}
use Rattle.std.proofs.Common.{length, arith}
use Rattle.opfs_work.specs.Pages.{Table}
use Rattle.opfs_work.proofs.Holding.{work_fresh}
use Rattle.opfs_work.proofs.Changing.{far_none}
use Rattle.opfs_work.proofs.work.Work.fresh.Goals as goal

pub invariant_of-result : goal.invariant_of-result
invariant_of-result c = (work_fresh _ c.fresh.ensures, far_none c.fresh.result.pages _ _ (λ k below. absurd (omega (arith, ap (λ (t : Table). length t.pages) c.fresh.ensures))))
