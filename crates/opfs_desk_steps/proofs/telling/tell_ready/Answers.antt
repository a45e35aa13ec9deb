use Rattle.std.proofs.Common.{sym, subst}
use Rattle.opfs_store.specs.Acts.Acting.{told_entry}
use Rattle.opfs_hist.specs.declared.entry.Entry.{Entry}
use Rattle.opfs_machine.specs.declared.state.Sizes.{Sizes}
use Rattle.opfs_desk_steps.specs.Parts.Answered.{IsAnswered}
use Rattle.opfs_desk_steps.specs.Parts.Seen.{call_in}
use Rattle.opfs_desk_steps.specs.Going.{HasTold}
use Rattle.opfs_desk_steps.proofs.telling.tell_ready.Goals as goal

pub returns-clause-told : goal.returns-clause-told
returns-clause-told g c f recorded base gone p are answered =
    let w = g.D.Disk in
    let l = c.args.ledger.now in
    let new = c.tell_last.new.ledger in
    let is = c.call_parts-last.ensures in
    let last = c.call_parts-last.result.last.entry in
    subst (λ (z : Sizes). HasTold w f recorded l new p (told_entry (call_in c.args.call) c.args.reply) z) is.sizes
    (subst (λ (e : Entry). HasTold w f recorded l new p e c.call_parts-last.result.sizes) is.entry
    (c.tell_last.ensures.told f recorded base gone p are
    (subst (λ (z : Sizes). IsAnswered w base gone l last z) (sym is.sizes) (subst (λ (e : Entry). IsAnswered w base gone l e c.args.call.sizes) (sym is.entry) answered))))
