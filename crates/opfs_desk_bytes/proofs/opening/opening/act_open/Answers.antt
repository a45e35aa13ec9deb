use Rattle.std.proofs.Common.{ℕ, ◌-◌, [], refl, sym, subst}
use Rattle.opfs_store.specs.Acts.Acting.{told_entry}
use Rattle.opfs_hist.specs.declared.entry.Entry.{Entry}
use Rattle.opfs_hist.specs.declared.reply.Reply.TheVariants as reply
use Rattle.opfs_machine.specs.Histories.{state_after}
use Rattle.opfs_machine.specs.declared.state.Sizes.{Sizes}
use Rattle.opfs_desk_steps.specs.Parts.Answered.{IsAnswered}
use Rattle.opfs_desk_steps.specs.Parts.Acted.{HasActed}
use Rattle.opfs_desk_steps.specs.Parts.Seen.{machine_in, call_in, units_in}
use Rattle.opfs_desk_steps.specs.declared.parts.parts.OpenPages.{OpenPages}
use Rattle.opfs_desk_steps.specs.declared.parts.parts.DeskParts.{DeskParts}
use Rattle.opfs_desk_steps.specs.RowLaws.Opens.{next_row}
use Rattle.opfs_desk_bytes.specs.Opening.Alike.{AreAlike}
use Rattle.opfs_tree.specs.Rows.{IsInOrder}
use Rattle.opfs_desk_steps.specs.Going.{HasTakenIn, HasMadeWay, HasTold}
use Rattle.opfs_desk_bytes.specs.Opening.Opening.{BeginsOpening, opened_act}
use Rattle.opfs_desk_bytes.proofs.opening.Alike.{alike-held}
use Rattle.opfs_desk_bytes.proofs.opening.Failed.{rows-left}
use Rattle.opfs_desk_bytes.proofs.opening.Given.{number-is, pages-are, unacted}
use Rattle.opfs_desk_bytes.proofs.opening.Undone.{undone}
use Rattle.opfs_desk_bytes.proofs.opening.Lies.{extents-below}
use Rattle.opfs_desk_bytes.proofs.opening.Opened.{answered, has-acted, ready}
use Rattle.opfs_desk_bytes.proofs.opening.Rows.{absent-at}
use Rattle.opfs_desk_bytes.proofs.opening.Words.{on-disk}
use Rattle.opfs_desk_bytes.proofs.opening.opening.act_open.Goals as goal

pub next_row-row-requires-clause-agent : goal.next_row-row-requires-clause-agent
next_row-row-requires-clause-agent g c =
    let may = c.requires.go in
    (c.opening_laws.ensures.asks.taken may.fixed may.recorded c.args.parts.now.ledger c.args.parts.now.pages c.args.pending.now c.args.call c.args.work.now [] may.are may.asked).agent

pub next_row-row-requires-clause-few : goal.next_row-row-requires-clause-few
next_row-row-requires-clause-few g c =
    let may = c.requires.go in
    (c.opening_laws.ensures.asks.taken may.fixed may.recorded c.args.parts.now.ledger c.args.parts.now.pages c.args.pending.now c.args.call c.args.work.now [] may.are may.asked).rows

pub open_pages-requires-clause-absent : goal.open_pages-requires-clause-absent
open_pages-requires-clause-absent g c =
    absent-at (machine_in c.args.parts.now.ledger) c.args.parts.now.pages.swap c.args.call.agent c.next_row-row.result _ c.requires.go.are.laid.rows c.next_row-row.ensures

pub open_pages-requires-clause-lies : goal.open_pages-requires-clause-lies
open_pages-requires-clause-lies g c =
    let may = c.requires.go in
    extents-below may.fixed.geometry _ may.are.tied.range may.are.books.stored.sound.files c.args.call.op c.requires.word

pub take_in-requires : goal.take_in-requires
take_in-requires g c = record {
  may =
      let may = c.requires.go in
      c.opening_laws.ensures.asks.taken may.fixed may.recorded c.args.parts.now.ledger c.args.parts.now.pages c.args.pending.now c.args.call c.args.work.now [] may.are may.asked;
}

pub clear_call-requires : goal.clear_call-requires
clear_call-requires g c = record {
  may =
      let may = c.requires.go in
      let l = c.args.parts.now.ledger in
      let p = c.args.parts.now.pages in
      let mid = c.take_in.new.ledger in
      let is = c.take_in.ensures in
      let held = is.held may.fixed may.recorded p may.are may.asked.may.pending in
      let then = ready g.D.Disk c.opening_laws.ensures.asks c.opening_laws.ensures.answers may.fixed may.recorded l mid l p c.args.pending.now c.args.call c.args.work.now []
      (record { held = may.are; asked = may.asked; opens = c.requires.word })
      (record { taken = record { entries = is.entries; journal = is.journal; place = is.place }; held = held; prepared = is.prepared c.args.call.op may.asked.prepared; tree = is.tree })
      in
      c.opening_laws.ensures.answers.clearing may.fixed may.recorded mid p c.args.call reply.Done held then
      (on-disk (state_after may.fixed.opening mid.books.history) c.args.call.agent c.args.call.op c.requires.word);
}

pub enter_open-requires-clause-may : goal.enter_open-requires-clause-may
enter_open-requires-clause-may g c =
    let may = c.requires.go in
    let l = c.args.parts.now.ledger in
    let p = c.args.parts.now.pages in
    let mid = c.take_in.new.ledger in
    let back = c.clear_call.new.ledger in
    let is = c.take_in.ensures in
    let held = is.held may.fixed may.recorded p may.are may.asked.may.pending in
    let cleared = c.in-Ok-clear_call.ensures.cleared may.fixed may.recorded p held in
    record {
      fixed = may.fixed;
      recorded = cleared.recorded;
      base = state_after may.fixed.opening mid.books.history;
      gone = units_in c.args.call.clearing.items;
      pages = p;
      are = cleared.are;
      answered =
          subst (λ (z : Sizes). IsAnswered g.D.Disk (state_after may.fixed.opening mid.books.history) (units_in c.args.call.clearing.items) back c.in-Ok-clear_call.last.entry z) (sym c.in-Ok-clear_call.ensures.sizes)
          (subst (λ (e : Entry). IsAnswered g.D.Disk (state_after may.fixed.opening mid.books.history) (units_in c.args.call.clearing.items) back e c.args.call.sizes) (sym c.in-Ok-clear_call.ensures.entry)
          (answered g.D.Disk c.opening_laws.ensures.asks c.opening_laws.ensures.answers may.fixed may.recorded l mid back p c.args.pending.now c.args.call c.args.work.now []
          (record { held = may.are; asked = may.asked; opens = c.requires.word })
          (record { taken = record { entries = is.entries; journal = is.journal; place = is.place }; held = held; prepared = is.prepared c.args.call.op may.asked.prepared; tree = is.tree })
          (record { entries = c.in-Ok-clear_call.ensures.entries; prepared = c.in-Ok-clear_call.ensures.prepared; tree = c.in-Ok-clear_call.ensures.tree; cleared = cleared })));
    }

pub returns-in_default-clause-idle : goal.returns-in_default-clause-idle
returns-in_default-clause-idle g c f recorded held =
    unacted g.D.Disk f recorded c.args.parts.now c.open_pages.new.swap c.in_default.ensures.err held

pub returns-in-Ok-clear_call-clause-acted : goal.returns-in-Ok-clear_call-clause-acted
returns-in-Ok-clear_call-clause-acted g c f recorded held asked =
    let w = g.D.Disk in
    let l = c.args.parts.now.ledger in
    let p = c.args.parts.now.pages in
    let call = c.args.call in
    let mid = c.take_in.new.ledger in
    let back = c.clear_call.new.ledger in
    let new = c.enter_open.new.ledger in
    let q : OpenPages = record { swap = c.open_pages.new.swap; space = p.space; base = p.base } in
    let asks = c.opening_laws.ensures.asks in
    let answers = c.opening_laws.ensures.answers in
    let is = c.take_in.ensures in
    let mid_held = is.held f recorded p held asked.may.pending in
    let cleared = c.in-Ok-clear_call.ensures.cleared f recorded p mid_held in
    let base = state_after f.opening mid.books.history in
    let begins : BeginsOpening w f recorded l p c.args.pending.now call c.args.work.now [] = record { held = held; asked = asked; opens = c.requires.word } in
    let took : HasTakenIn w f recorded l mid p c.args.pending.now call =
    record { taken = record { entries = is.entries; journal = is.journal; place = is.place }; held = mid_held; prepared = is.prepared call.op asked.prepared; tree = is.tree } in
    let way : HasMadeWay w f mid back p call =
    record { entries = c.in-Ok-clear_call.ensures.entries; prepared = c.in-Ok-clear_call.ensures.prepared; tree = c.in-Ok-clear_call.ensures.tree; cleared = cleared } in
    let row_is = number-is w asks f recorded l mid p c.args.pending.now call c.args.work.now [] held asked is.entries c.next_row-row.result c.next_row-row.ensures in
    let pages = pages-are l p q call c.next_row-row.result (next_row base call.agent) row_is c.in-Ok.ensures.others c.in-Ok.ensures.there c.in-Ok.ensures.pages refl refl c.in-Ok.ensures.kept in
    let may_come : IsAnswered w base (units_in call.clearing.items) back c.in-Ok-clear_call.last.entry c.in-Ok-clear_call.sizes =
    subst (λ (z : Sizes). IsAnswered w base (units_in call.clearing.items) back c.in-Ok-clear_call.last.entry z) (sym c.in-Ok-clear_call.ensures.sizes)
    (subst (λ (e : Entry). IsAnswered w base (units_in call.clearing.items) back e call.sizes) (sym c.in-Ok-clear_call.ensures.entry)
    (answered w asks answers f recorded l mid back p c.args.pending.now call c.args.work.now [] begins took way)) in
    let told : HasTold w f cleared.recorded back new p (told_entry (call_in call) reply.Done) call.sizes =
    subst (λ (z : Sizes). HasTold w f cleared.recorded back new p (told_entry (call_in call) reply.Done) z) c.in-Ok-clear_call.ensures.sizes
    (subst (λ (e : Entry). HasTold w f cleared.recorded back new p e c.in-Ok-clear_call.sizes) c.in-Ok-clear_call.ensures.entry
    (c.enter_open.ensures.told f cleared.recorded base (units_in call.clearing.items) p cleared.are may_come)) in
    let now : DeskParts g.row.D.Denot = record { ledger = new; pages = q } in
    subst (λ (n : ℕ). HasActed w f c.args.parts.now now c.args.pending.now (call_in call) c.args.work.now c.in-Ok.opened (opened_act n)) (sym row_is)
    (has-acted w asks answers f recorded l mid back p c.args.pending.now call c.args.work.now [] begins took way c.enter_open.ensures.tidy q pages (subst IsInOrder told.tree c.enter_open.ensures.order)
    c.opening_laws.ensures.opens c.opening_laws.ensures.laid new told c.opening_laws.ensures.states c.opening_laws.ensures.changes c.opening_laws.ensures.trees c.opening_laws.ensures.stored
    c.opening_laws.ensures.copies c.opening_laws.ensures.acts c.in-Ok.opened c.in-Ok.ensures.copy c.args.parts.now now refl refl refl)

pub returns-in-Err-clause-acted : goal.returns-in-Err-clause-acted
returns-in-Err-clause-acted g c f recorded held asked =
    let w = g.D.Disk in
    let l = c.args.parts.now.ledger in
    let p = c.args.parts.now.pages in
    let call = c.args.call in
    let mid = c.take_in.new.ledger in
    let back = c.clear_call.new.ledger in
    let q : OpenPages = record { swap = c.drop_row.new.self; space = p.space; base = p.base } in
    let asks = c.opening_laws.ensures.asks in
    let is = c.take_in.ensures in
    let mid_held = is.held f recorded p held asked.may.pending in
    let base = state_after f.opening mid.books.history in
    let begins : BeginsOpening w f recorded l p c.args.pending.now call c.args.work.now [] = record { held = held; asked = asked; opens = c.requires.word } in
    let took : HasTakenIn w f recorded l mid p c.args.pending.now call =
    record { taken = record { entries = is.entries; journal = is.journal; place = is.place }; held = mid_held; prepared = is.prepared call.op asked.prepared; tree = is.tree } in
    let then = ready w asks c.opening_laws.ensures.answers f recorded l mid l p c.args.pending.now call c.args.work.now [] begins took in
    let absent = absent-at (machine_in l) p.swap call.agent c.next_row-row.result _ held.laid.rows c.next_row-row.ensures in
    let same : AreAlike p q = undone p.swap c.open_pages.new.swap c.drop_row.new.self call.agent c.next_row-row.result absent c.in-Ok.ensures.others c.drop_row.ensures.others c.drop_row.ensures.gone p.space p.base
    c.in-Ok.ensures.kept c.drop_row.ensures.kept in
    let q_held = alike-held w c.what_is_laid_goes_on.ensures.beside c.blocks_go_on.ensures f recorded base [] mid p q same mid_held in
    let fail = c.in-Err.ensures.failed f recorded q q_held (record { live = then.live; fitting = then.fitting; judged = then.judged; disk = on-disk base call.agent call.op c.requires.word }) in
    let row_is = number-is w asks f recorded l mid p c.args.pending.now call c.args.work.now [] held asked is.entries c.next_row-row.result c.next_row-row.ensures in
    let now : DeskParts g.row.D.Denot = record { ledger = back; pages = q } in
    c.opening_laws.ensures.acts.failed f recorded c.args.parts.now now mid c.args.pending.now call reply.Done c.args.work.now c.args.work.now (c.next_row-row.result - 1) held asked.may.pending took.taken fail refl
    (rows-left w f mid back q call reply.Done c.requires.word fail c.next_row-row.result row_is)
