use Rattle.std.proofs.Common.{List, [], ◌∷◌, ◌++◌, refl, sym, subst}
use Rattle.opfs_data.specs.declared.page.SavedPage.{SavedPage}
use Rattle.opfs_data.specs.Writes.{PageWrite}
use Rattle.opfs_data.specs.Pages.{AreSaved, AreNow}
use Rattle.opfs_data.proofs.RowLemmas.{saved_skip, saved_push, now_push}
use Rattle.opfs_data.proofs.row.save_page.Goals as goal

pub returns-then-not-is_again-clause-saved : goal.returns-then-not-is_again-clause-saved
returns-then-not-is_again-clause-saved g c = λ ws bytes before.
    saved_skip c.args.saved.now.items c.args.pages.now ws (record { page = c.args.page; block = c.args.block; bytes = bytes }) c.if-not-is_again.ensures.no before

pub returns-clause-saved : goal.returns-clause-saved
returns-clause-saved g c = λ ws bytes before.
    let w : PageWrite = record { page = c.args.page; block = c.args.block; bytes = bytes } in
    let s : SavedPage = record { page = c.args.page; bytes = c.in_ok-bytes.bytes } in
    subst (λ (l : List SavedPage). AreSaved l c.args.pages.now (ws ++ w ∷ [])) (sym c.in_ok-add_saved.ensures) (saved_push c.args.saved.now.items c.args.pages.now ws w s c.if-not-is_again.ensures.yes refl before)

pub returns-clause-now : goal.returns-clause-now
returns-clause-now g c = λ told before.
    let s : SavedPage = record { page = c.args.page; bytes = c.in_ok-bytes.bytes } in
    subst (λ (l : List SavedPage). AreNow (g.D.Disk.content c.args.journal.now.disk) c.args.base c.args.pages.now l) (sym c.in_ok-add_saved.ensures)
    (now_push (g.D.Disk.content c.args.journal.now.disk) c.args.base c.args.pages.now c.args.saved.now.items s c.index-pages-page.result before c.index-pages-page.is c.if-not-is_again.ensures.yes.0 (c.in_ok-bytes.ensures.read told))
