use Rattle.std.proofs.Common.{sym, subst}
use Rattle.opfs_hist.specs.declared.entry.Entry.{Entry}
use Rattle.opfs_desk_steps.specs.BookSteps.Refusing.{IsRefused}
use Rattle.opfs_desk_steps.proofs.book_steps.refusing.fail_call.Goals as goal

pub returns-clause-held : goal.returns-clause-held
returns-clause-held g c f recorded base gone p are is =
    c.refuse_call.ensures.held f recorded base gone p are (subst (λ (e : Entry). IsRefused g.D.Disk f base gone c.args.ledger.now e) (sym c.with_fault.ensures) is)
