use Rattle.std.proofs.Common.{subst}
use Rattle.std.specs.List.{AllByRecursion}
use Rattle.opfs_data.specs.declared.page.Page.{Page}
use Rattle.opfs_data.specs.Pages.{RowSeen, LiesIn}
use Rattle.opfs_data.proofs.KeptLemmas.{count_same}
use Rattle.opfs_data.proofs.SwapLemmas.{row_there, row_written, others_written}
use Rattle.opfs_data.proofs.swap.Swap.prepare.Goals as goal

pub prepare-requires-clause-lies : goal.prepare-requires-clause-lies
prepare-requires-clause-lies g c = subst (λ (r : RowSeen). AllByRecursion (λ (page : Page). LiesIn c.args.base (g.D.Disk.size c.args.journal.now.disk) page.block) r.pages) (row_there c.args.agent c.args.row _ _ _ c.in-Some.ensures.value c.self.view_is) c.requires.lies

pub returns-in_err-prepare-clause-others : goal.returns-in_err-prepare-clause-others
returns-in_err-prepare-clause-others g c = others_written c.args.agent c.args.row _ _ _ _ c.in-Some.ensures.value c.self.view_is (λ some. ((c.get_mut.follows.holds _).3 some).2)

pub returns-clause-others : goal.returns-clause-others
returns-clause-others g c = others_written c.args.agent c.args.row _ _ _ _ c.in-Some.ensures.value c.self.view_is (λ some. ((c.get_mut.follows.holds _).3 some).2)

pub returns-in_err-prepare-clause-kept : goal.returns-in_err-prepare-clause-kept
returns-in_err-prepare-clause-kept g c = count_same c.args.agent c.args.row _ _ _ _ _ c.in-Some.ensures.value c.self.view_is (c.get_mut.follows.holds _).0 c.prepare.ensures.same

pub returns-clause-kept : goal.returns-clause-kept
returns-clause-kept g c = count_same c.args.agent c.args.row _ _ _ _ _ c.in-Some.ensures.value c.self.view_is (c.get_mut.follows.holds _).0 c.prepare.ensures.same

pub returns-clause-saved : goal.returns-clause-saved
returns-clause-saved g c =
    rw (row_written c.args.agent c.args.row _ _ _ c.prepare.new.self c.in-Some.ensures.value (λ some. ((c.get_mut.follows.holds c.prepare.new.self).3 some).1)) c.in_ok-prepare.ensures.saved
