use Rattle.std.proofs.Common.{◌+◌, [], ◌∷◌, ◌++◌, refl, sym, ap, subst, ◌∙◌, arith}
use Rattle.opfs_books.specs.Laws.Books.{IsPlaced}
use Rattle.opfs_books.specs.Laws.Laws.{failed, told}
use Rattle.opfs_hist.specs.Faults.{disk_faults}
use Rattle.opfs_outside.specs.Faults.{Rose, RoseBy}
use Rattle.opfs_desk_steps.specs.Parts.Held.{AreHeldAt}
use Rattle.opfs_machine.specs.Histories.{state_after}
use Rattle.opfs_state.specs.Applied.{StateSeen}
use Rattle.opfs_desk_steps.specs.Parts.Acted.{last_doubt}
use Rattle.opfs_desk_steps.specs.Parts.Seen.{book_in}
use Rattle.opfs_desk_steps.specs.declared.parts.parts.Ledger.{Ledger}
use Rattle.opfs_state.specs.Verdicts.Callers.{IsAgent}
use Rattle.opfs_desk_steps.proofs.book_steps.Held.{moved-held, fresh-same, refused-told}
use Rattle.opfs_desk_steps.proofs.book_steps.Ways.{way-settled, way-told, way-same}
use Rattle.opfs_desk_steps.proofs.book_steps.clearing.settle_doubt.Goals as goal

pub fail_call-requires : goal.fail_call-requires
fail_call-requires g c = record {
  may =
      let laws = g.met.D.Disk in
      let may = c.requires.may in
      let l = c.args.ledger.now in
      let mid : Ledger g.row.D.Denot = record { journal = c.settle.new.journal; books = c.settle.new.self; freed = l.freed; alloc = l.alloc } in
      let done = c.in-Err.ensures in
      let base = state_after may.fixed.opening l.books.history in
      record {
        fixed = may.fixed;
        recorded = may.recorded;
        base = base;
        gone = [];
        pages = may.pages;
        are =
            moved-held g.D.Disk may.fixed c.what_is_laid_goes_on.ensures.beside laws.counted may.recorded may.recorded base [] l mid may.pages may.are (done.books may.fixed may.recorded base [] may.are.books) done.leaves done.history done.state (omega arith) may.are.laid.spaced
            (fresh-same g.D.Disk may.fixed may.recorded l mid may.are.fresh done.commits (ap (λ (s : StateSeen). s.store.tree) done.state) (ap (λ (s : StateSeen). s.store.machine.persistent) done.state));
        refuses = refl;
        placed = subst (λ es. IsPlaced es c.args.last.entry.agent) (sym done.history) may.placed;
        agent = subst (λ (s : StateSeen). IsAgent s.store.machine c.args.last.entry.agent) (sym done.state) may.agent;
      };
}

pub returns-in-Ok-clause-held : goal.returns-in-Ok-clause-held
returns-in-Ok-clause-held g c f recorded p are =
    let laws = g.met.D.Disk in
    let l = c.args.ledger.now in
    let new : Ledger g.row.D.Denot = record { journal = c.settle.new.journal; books = c.settle.new.self; freed = l.freed; alloc = l.alloc } in
    let done = c.in-Ok.ensures in
    let base = state_after f.opening l.books.history in
    let held =
    moved-held g.D.Disk f c.what_is_laid_goes_on.ensures.beside laws.counted recorded recorded base [] l new p are (done.books f recorded base [] are.books) done.leaves done.history done.state (omega arith) are.laid.spaced
    (fresh-same g.D.Disk f recorded l new are.fresh done.commits (ap (λ (s : StateSeen). s.store.tree) done.state) (ap (λ (s : StateSeen). s.store.machine.persistent) done.state)) in (
      subst (λ es. AreHeldAt g.D.Disk f recorded (state_after f.opening es) [] new p) (sym done.history) held,
      way-settled g.D.Disk f l new (told f (book_in new)) done.leaves.later done.leaves.time (done.shown f recorded base [] are.books),
    )

pub returns-in-Err-clause-failed : goal.returns-in-Err-clause-failed
returns-in-Err-clause-failed g c f recorded p are fault =
    let laws = g.met.D.Disk in
    let l = c.args.ledger.now in
    let mid : Ledger g.row.D.Denot = record { journal = c.settle.new.journal; books = c.settle.new.self; freed = l.freed; alloc = l.alloc } in
    let new = c.fail_call.new.ledger in
    let done = c.in-Err.ensures in
    let base = state_after f.opening l.books.history in
    let held =
    moved-held g.D.Disk f c.what_is_laid_goes_on.ensures.beside laws.counted recorded recorded base [] l mid p are (done.books f recorded base [] are.books) done.leaves done.history done.state (omega arith) are.laid.spaced
    (fresh-same g.D.Disk f recorded l mid are.fresh done.commits (ap (λ (s : StateSeen). s.store.tree) done.state) (ap (λ (s : StateSeen). s.store.machine.persistent) done.state)) in
    let entries = c.fail_call.ensures.entries ∙ ap (λ es. es ++ failed c.args.last.entry ∷ []) done.history in
    let silent = refused-told g.D.Disk f l new (failed c.args.last.entry) refl entries in
    record {
      gone = [];
      grown = entries;
      call = fault;
      recorded = recorded;
      are =
          c.fail_call.ensures.held f recorded base [] p held
          (record {
            next = record { real = failed c.args.last.entry; call = fault; alike = refl; told = λ t. refl };
            risen = λ is.
                subst (λ es. RoseBy (disk_faults es + 1) (g.D.Disk.faults f.begun) (g.D.Disk.faults c.settle.new.journal.disk)) (sym done.history)
                (c.a_fault_is_counted.ensures.more (g.D.Disk.faults f.begun) l.journal.disk c.settle.new.journal.disk l.books.history l.journal.in_doubt are.books.counted done.cause done.leaves.later);
          });
      idle = c.fail_call.ensures.idle;
      rose = subst (λ j. Rose (g.D.Disk.faults l.journal.disk) (g.D.Disk.faults j.disk)) (sym c.fail_call.ensures.journal) done.cause;
      way =
          way-same g.D.Disk f l new _ _ (ap (λ cs. cs ++ last_doubt f.opening new.books.history) (sym silent))
          (way-told g.D.Disk f l mid new (told f (book_in l)) (last_doubt f.opening new.books.history) (way-settled g.D.Disk f l mid (told f (book_in l)) done.leaves.later done.leaves.time (done.shown f recorded base [] are.books)) c.fail_call.ensures.journal);
    }
