use Rattle.std.proofs.Common.{List, sym, subst}
use Rattle.opfs_hist.specs.declared.entry.Entry.{Entry}
use Rattle.opfs_machine.specs.Histories.{state_after}
use Rattle.opfs_desk_steps.specs.Parts.Acted.{AreCleared, HasFailed}
use Rattle.opfs_desk_steps.specs.Parts.Seen.{units_in}
use Rattle.opfs_desk_steps.specs.declared.parts.call.Eviction.{Eviction}
use Rattle.opfs_desk_steps.specs.BookSteps.Clearing.{IsJudged}
use Rattle.opfs_desk_steps.proofs.clearing.evict_for.Goals as goal

pub returns-in-Ok-clause-cleared : goal.returns-in-Ok-clause-cleared
returns-in-Ok-clause-cleared g c f recorded p held =
    let l = c.args.ledger.now in
    subst (λ (xs : List Eviction). AreCleared g.D.Disk f (units_in xs) l c.evict_all.new.ledger p) c.call_parts-last.ensures.clearing (c.in-Ok.ensures.cleared f recorded p held)

pub returns-in-Err-clause-failed : goal.returns-in-Err-clause-failed
returns-in-Err-clause-failed g c f recorded p held judged =
    let l = c.args.ledger.now in
    let is = c.call_parts-last.ensures in
    let base = state_after f.opening l.books.history in
    let e = c.call_parts-last.result.last.entry in
    subst (λ (x : Entry). HasFailed g.D.Disk f x l c.evict_all.new.ledger p) is.entry
    (c.in-Err.ensures.failed f recorded p held
    (subst (λ (xs : List Eviction). IsJudged base e (units_in xs)) (sym is.clearing) (subst (λ (x : Entry). IsJudged base x (units_in c.args.call.clearing.items)) (sym is.entry) judged)))
