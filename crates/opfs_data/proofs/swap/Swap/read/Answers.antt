use Rattle.std.proofs.Common.{subst, ◌<◌, length, get_or}
use Rattle.opfs_data.specs.Pages.{RowSeen, LiesIn, blank}
use Rattle.opfs_data.proofs.SwapLemmas.{row_there}
use Rattle.opfs_data.proofs.swap.Swap.read.Goals as goal

pub read-requires-clause-there : goal.read-requires-clause-there
read-requires-clause-there g c = subst (λ (r : RowSeen). c.args.page < length r.pages) (row_there c.args.agent c.args.row _ _ _ c.in-Some.ensures.value c.self.view_is) c.requires.there

pub read-requires-clause-lies : goal.read-requires-clause-lies
read-requires-clause-lies g c = subst (λ (r : RowSeen). LiesIn c.args.base (g.D.Disk.size c.args.journal.now.disk) (get_or r.pages c.args.page blank).block) (row_there c.args.agent c.args.row _ _ _ c.in-Some.ensures.value c.self.view_is) c.requires.lies
