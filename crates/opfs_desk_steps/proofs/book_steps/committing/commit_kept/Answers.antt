use Rattle.std.proofs.Common.{refl, sym, ap, subst, ◌∙◌, arith}
use Rattle.opfs_books.specs.Stored.Spelled.{stored_built}
use Rattle.opfs_books.specs.Laws.Books.{AreBooksAt}
use Rattle.opfs_pages.specs.HistoryLaws.Spaced.{AreSpaced}
use Rattle.opfs_pages.specs.RowCalls.Plans.{shelf}
use Rattle.opfs_records.specs.Checkpoint.Written.{stored_rows}
use Rattle.opfs_state.specs.Applied.{StateSeen}
use Rattle.opfs_desk_steps.specs.Parts.Seen.{machine_in, tree_in, book_in}
use Rattle.opfs_desk_steps.specs.declared.parts.parts.Ledger.{Ledger}
use Rattle.opfs_desk_steps.proofs.book_steps.Evictions.{spaced-recorded}
use Rattle.opfs_desk_steps.proofs.book_steps.Held.{moved-held, untouched-held, fresh-same}
use Rattle.opfs_desk_steps.proofs.book_steps.committing.commit_kept.Goals as goal

pub returns-in-Ok-true-clause-recorded : goal.returns-in-Ok-true-clause-recorded
returns-in-Ok-true-clause-recorded g c f recorded base gone p are =
    let laws = g.met.D.Disk in
    let l = c.args.ledger.now in
    let new : Ledger g.row.D.Denot = record { journal = c.commit_kept.new.journal; books = c.commit_kept.new.self; freed = l.freed; alloc = l.alloc } in
    let done = c.in-Ok-true.ensures in
    record {
      are =
          moved-held g.D.Disk f c.what_is_laid_goes_on.ensures.beside laws.counted recorded (book_in new).rows base gone l new p are
          (subst (λ (s : StateSeen). AreBooksAt g.D.Disk f (stored_built s.store.tree s.store.machine.persistent) base gone (book_in new) new.journal) (sym done.state) (done.committed c.in-Ok-true.field-0-test f recorded base gone are.books)) done.leaves done.history done.state (omega arith)
          (subst (λ (s : StateSeen). AreSpaced (machine_in l) (shelf (stored_rows s.store.tree) (tree_in l) p.swap) p.space) (sym done.state) (spaced-recorded c.blocks_go_on.ensures (machine_in l) recorded.rows (tree_in l) p.swap p.space are.laid.spaced))
          (λ none. refl);
    }

pub returns-in-Ok-true-clause-shown : goal.returns-in-Ok-true-clause-shown
returns-in-Ok-true-clause-shown g c f recorded base gone p are = c.in-Ok-true.ensures.shown f recorded base gone are.books

pub returns-in-Ok-false-clause-recorded : goal.returns-in-Ok-false-clause-recorded
returns-in-Ok-false-clause-recorded g c f recorded base gone p are =
    let l = c.args.ledger.now in
    let same = c.in-Ok-false.ensures.untouched c.in-Ok-false.field-0-test in
    record { are = untouched-held g.D.Disk f recorded base gone l c.commit_kept.new.journal c.commit_kept.new.self p are same.0 same.1 (are.fresh (sym (ap (λ b. b.commits.count) same.0) ∙ c.in-Ok-false.ensures.none)) }

pub returns-in-Ok-false-clause-shown : goal.returns-in-Ok-false-clause-shown
returns-in-Ok-false-clause-shown g c f recorded base gone p are = c.in-Ok-false.ensures.shown f recorded base gone are.books

pub returns-in-Err-clause-failed : goal.returns-in-Err-clause-failed
returns-in-Err-clause-failed g c f recorded base gone p are =
    let laws = g.met.D.Disk in
    let l = c.args.ledger.now in
    let new : Ledger g.row.D.Denot = record { journal = c.commit_kept.new.journal; books = c.commit_kept.new.self; freed = l.freed; alloc = l.alloc } in
    let done = c.in-Err.ensures in
    moved-held g.D.Disk f c.what_is_laid_goes_on.ensures.beside laws.counted recorded recorded base gone l new p are (done.failed f recorded base gone are.books) done.leaves done.history done.state (omega arith) are.laid.spaced
    (fresh-same g.D.Disk f recorded l new are.fresh done.failed_commits (ap (λ (s : StateSeen). s.store.tree) done.state) (ap (λ (s : StateSeen). s.store.machine.persistent) done.state))

pub returns-in-Err-clause-shown : goal.returns-in-Err-clause-shown
returns-in-Err-clause-shown g c f recorded base gone p are = c.in-Err.ensures.shown f recorded base gone are.books
