use Rattle.std.proofs.Common.{subst, ◌≡◌, ◌≤◌, ◌<◌, List, length, get_or, ap, sym, ◌∙◌}
use Rattle.std.specs.Option.{MatchOption}
use Rattle.opfs_data.specs.declared.page.SavedPage.{SavedPage}
use Rattle.std.specs.List.{AllByRecursion}
use Rattle.opfs_data.specs.Writes.{page_writes}
use Rattle.opfs_data.specs.Pages.{RowSeen, page_of, blank, resized, with_writes, AreSaved, AreNow, AreOwn}
use Rattle.opfs_data.proofs.KeptLemmas.{count_changed, count_less}
use Rattle.opfs_data.proofs.SwapLemmas.{row_there, row_written, others_written, others_read, all_read, on_err}
use Rattle.opfs_data.proofs.swap.Swap.write.Goals as goal

pub write-requires-clause-room : goal.write-requires-clause-room
write-requires-clause-room g c = subst (λ (r : RowSeen). c.args.pages ≤ r.room) (row_there c.args.agent c.args.row _ _ _ c.in-Some.ensures.value c.self.view_is) c.requires.room

pub write-requires-clause-saved : goal.write-requires-clause-saved
write-requires-clause-saved g c = subst (λ (r : RowSeen). MatchOption r.saved ⊥ (λ (saved : List SavedPage). AreSaved saved r.pages (page_writes c.args.writes.now c.args.given.now))) (row_there c.args.agent c.args.row _ _ _ c.in-Some.ensures.value c.self.view_is) c.requires.saved

pub write-requires-clause-now : goal.write-requires-clause-now
write-requires-clause-now g c = λ told. subst (λ (r : RowSeen). MatchOption r.saved ⊥ (λ (saved : List SavedPage). AreNow (g.D.Disk.content c.args.journal.now.disk) c.args.base r.pages saved)) (row_there c.args.agent c.args.row _ _ _ c.in-Some.ensures.value c.self.view_is) (c.requires.now told)

pub write-requires-clause-own : goal.write-requires-clause-own
write-requires-clause-own g c = subst (λ (r : RowSeen). AreOwn r.pages (page_writes c.args.writes.now c.args.given.now)) (row_there c.args.agent c.args.row _ _ _ c.in-Some.ensures.value c.self.view_is) c.requires.own

pub returns-in_err-write-clause-others : goal.returns-in_err-write-clause-others
returns-in_err-write-clause-others g c = others_written c.args.agent c.args.row _ _ _ _ c.in-Some.ensures.value c.self.view_is (λ some. ((c.get_mut.follows.holds _).3 some).2)

pub returns-in_err-write-clause-left : goal.returns-in_err-write-clause-left
returns-in_err-write-clause-left g c = on_err c.from_residual.result _ (λ told. all_read c.args.agent c.args.row c.args.base (g.D.Disk.content c.args.journal.now.disk) (g.D.Disk.content c.write.new.journal.disk) _ _ (page_writes c.args.writes.now c.args.given.now) _ _ (row_there c.args.agent c.args.row _ _ _ c.in-Some.ensures.value c.self.view_is) (row_written c.args.agent c.args.row _ _ _ c.write.new.self c.in-Some.ensures.value (λ some. ((c.get_mut.follows.holds c.write.new.self).3 some).1)) (c.in_err-write.ensures.left told) (others_written c.args.agent c.args.row _ _ _ _ c.in-Some.ensures.value c.self.view_is (λ some. ((c.get_mut.follows.holds c.write.new.self).3 some).2)) c.requires.free (c.in_err-write.ensures.apart told))

pub returns-in_err-write-clause-blocks : goal.returns-in_err-write-clause-blocks
returns-in_err-write-clause-blocks g c = on_err c.from_residual.result _ (rw (row_there c.args.agent c.args.row _ _ _ c.in-Some.ensures.value c.self.view_is, row_written c.args.agent c.args.row _ _ _ c.write.new.self c.in-Some.ensures.value (λ some. ((c.get_mut.follows.holds c.write.new.self).3 some).1)) c.in_err-write.ensures.blocks)

pub returns-in_err-write-clause-newly : goal.returns-in_err-write-clause-newly
returns-in_err-write-clause-newly g c = on_err c.from_residual.result _ (rw (row_there c.args.agent c.args.row _ _ _ c.in-Some.ensures.value c.self.view_is, row_written c.args.agent c.args.row _ _ _ c.write.new.self c.in-Some.ensures.value (λ some. ((c.get_mut.follows.holds c.write.new.self).3 some).1)) c.in_err-write.ensures.newly)

pub returns-in_err-write-clause-others_read : goal.returns-in_err-write-clause-others_read
returns-in_err-write-clause-others_read g c = λ told. others_read c.args.agent c.args.row c.args.base (g.D.Disk.content c.args.journal.now.disk) (g.D.Disk.content c.write.new.journal.disk) _ _ (page_writes c.args.writes.now c.args.given.now) (others_written c.args.agent c.args.row _ _ _ _ c.in-Some.ensures.value c.self.view_is (λ some. ((c.get_mut.follows.holds _).3 some).2)) c.requires.free (c.in_err-write.ensures.apart told)

pub returns-clause-others : goal.returns-clause-others
returns-clause-others g c = others_written c.args.agent c.args.row _ _ _ _ c.in-Some.ensures.value c.self.view_is (λ some. ((c.get_mut.follows.holds _).3 some).2)

pub returns-clause-others_read : goal.returns-clause-others_read
returns-clause-others_read g c = λ told. others_read c.args.agent c.args.row c.args.base (g.D.Disk.content c.args.journal.now.disk) (g.D.Disk.content c.write.new.journal.disk) _ _ (page_writes c.args.writes.now c.args.given.now) (others_written c.args.agent c.args.row _ _ _ _ c.in-Some.ensures.value c.self.view_is (λ some. ((c.get_mut.follows.holds _).3 some).2)) c.requires.free (c.in_ok-write.ensures.apart told)

pub returns-clause-given : goal.returns-clause-given
returns-clause-given g c = λ told.
    subst (λ (r : RowSeen). AllByRecursion (λ w. page_of (g.D.Disk.content c.write.new.journal.disk) c.args.base (get_or r.pages w.page blank) ≡ w.bytes) (page_writes c.args.writes.now c.args.given.now))
    (sym (row_written c.args.agent c.args.row _ _ _ c.write.new.self c.in-Some.ensures.value (λ some. ((c.get_mut.follows.holds c.write.new.self).3 some).1)))
    (c.in_ok-write.ensures.given told)

pub returns-clause-rest : goal.returns-clause-rest
returns-clause-rest g c = λ told j below there none.
    ap (λ (r : RowSeen). page_of (g.D.Disk.content c.write.new.journal.disk) c.args.base (get_or r.pages j blank)) (row_written c.args.agent c.args.row _ _ _ c.write.new.self c.in-Some.ensures.value (λ some. ((c.get_mut.follows.holds c.write.new.self).3 some).1))
    ∙ c.in_ok-write.ensures.rest told j below (subst (λ (r : RowSeen). j < length r.pages) (row_there c.args.agent c.args.row _ _ _ c.in-Some.ensures.value c.self.view_is) there) none
    ∙ ap (λ (r : RowSeen). page_of (g.D.Disk.content c.args.journal.now.disk) c.args.base (get_or r.pages j blank)) (sym (row_there c.args.agent c.args.row _ _ _ c.in-Some.ensures.value c.self.view_is))

pub returns-in_err-write-clause-count : goal.returns-in_err-write-clause-count
returns-in_err-write-clause-count g c = count_changed c.args.agent c.args.row _ _ _ _ c.write.new.self c.in-Some.ensures.value c.self.view_is (c.get_mut.follows.holds c.write.new.self).0 (row_there c.args.agent c.args.row _ _ _ c.in-Some.ensures.value c.self.view_is) (row_written c.args.agent c.args.row _ _ _ c.write.new.self c.in-Some.ensures.value (λ some. ((c.get_mut.follows.holds c.write.new.self).3 some).1))

pub returns-clause-count : goal.returns-clause-count
returns-clause-count g c = count_changed c.args.agent c.args.row _ _ _ _ c.write.new.self c.in-Some.ensures.value c.self.view_is (c.get_mut.follows.holds c.write.new.self).0 (row_there c.args.agent c.args.row _ _ _ c.in-Some.ensures.value c.self.view_is) (row_written c.args.agent c.args.row _ _ _ c.write.new.self c.in-Some.ensures.value (λ some. ((c.get_mut.follows.holds c.write.new.self).3 some).1))

pub returns-clause-fewer : goal.returns-clause-fewer
returns-clause-fewer g c = count_less c.args.agent c.args.row c.args.pages _ _ _ _ c.write.new.self (page_writes c.args.writes.now c.args.given.now) c.in-Some.ensures.value c.self.view_is (c.get_mut.follows.holds c.write.new.self).0 c.in_ok-write.ensures.pages

pub returns-clause-pages : goal.returns-clause-pages
returns-clause-pages g c =
    ap (λ (r : RowSeen). r.pages) (row_written c.args.agent c.args.row _ _ _ c.write.new.self c.in-Some.ensures.value (λ some. ((c.get_mut.follows.holds c.write.new.self).3 some).1))
    ∙ c.in_ok-write.ensures.pages ∙ ap (λ (r : RowSeen). with_writes (page_writes c.args.writes.now c.args.given.now) (resized c.args.pages r.pages)) (sym (row_there c.args.agent c.args.row _ _ _ c.in-Some.ensures.value c.self.view_is))

pub returns-clause-size : goal.returns-clause-size
returns-clause-size g c = ap (λ (r : RowSeen). length r.pages) (row_written c.args.agent c.args.row _ _ _ c.write.new.self c.in-Some.ensures.value (λ some. ((c.get_mut.follows.holds c.write.new.self).3 some).1)) ∙ c.in_ok-write.ensures.size

pub returns-clause-fresh : goal.returns-clause-fresh
returns-clause-fresh g c = λ j past below none.
    ap (λ (r : RowSeen). get_or r.pages j blank) (row_written c.args.agent c.args.row _ _ _ c.write.new.self c.in-Some.ensures.value (λ some. ((c.get_mut.follows.holds c.write.new.self).3 some).1))
    ∙ c.in_ok-write.ensures.fresh j (subst (λ (r : RowSeen). length r.pages ≤ j) (row_there c.args.agent c.args.row _ _ _ c.in-Some.ensures.value c.self.view_is) past) below none
