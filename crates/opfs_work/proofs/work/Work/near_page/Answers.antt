use Rattle.std.proofs.Common.{List, ℕ, Bor}
use Rattle.opfs_work.proofs.Holding.{near_tail_some}
use Rattle.opfs_work.proofs.work.Work.near_page.Goals as goal

pub returns-clause-tail : goal.returns-clause-tail
returns-clause-tail c =
    rw (← c.self.view_is)
    (near_tail_some (λ (x : Bor (List ℕ)). x.now) c.near_page.result c.self.inside.table.pages c.self.inside.table.room c.self.inside.length c.self.inside.reserve c.args.page c.self.invariant.0 c.near_page.ensures.bytes)
