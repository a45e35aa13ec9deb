use Rattle.std.proofs.Common.{rules, ◌≡◌, ℕ, [], List, length, None, refl, sym, ap, subst, ◌∙◌, arith}
use Rattle.opfs_store.specs.Acts.Acting.{told_entry}
use Rattle.opfs_books.specs.Stored.Spelled.{spelled_by}
use Rattle.opfs_hist.specs.declared.entry.Entry.{Entry}
use Rattle.opfs_hist.specs.declared.reply.Reply.TheVariants as reply
use Rattle.opfs_machine.specs.Agents.{agent_of}
use Rattle.opfs_machine.specs.Histories.{state_after}
use Rattle.opfs_pages.specs.Copies.{IsPageOf}
use Rattle.opfs_machine.specs.Steps.{is_refusal}
use Rattle.opfs_machine.specs.declared.state.Sizes.{Sizes}
use Rattle.opfs_space.specs.Room.{Machine}
use Rattle.opfs_desk_steps.proofs.Counts.{own-length}
use Rattle.opfs_desk_steps.specs.Parts.Answered.{IsAnswered}
use Rattle.opfs_desk_steps.specs.Parts.Seen.{machine_in, tree_in, call_in, units_in}
use Rattle.opfs_desk_steps.specs.declared.parts.parts.DeskParts.{DeskParts}
use Rattle.opfs_desk_steps.specs.Going.{HasTakenIn, HasMadeWay, HasTold}
use Rattle.opfs_desk_bytes.specs.Reading.Reading.{BeginsRead}
use Rattle.opfs_desk_bytes.proofs.reading.Failed.{rows-failed}
use Rattle.opfs_desk_bytes.proofs.reading.Synced.{bytes-before, answered, has-acted}
use Rattle.opfs_desk_bytes.proofs.reading.Words.{as-bytes, on-disk, silent}
use Rattle.opfs_desk_bytes.proofs.reading.syncing.enter_sync_read.Goals as goal

pub take_in-requires : goal.take_in-requires
take_in-requires g c = record {
  may =
      let may = c.requires.go in
      c.reading_laws.ensures.asks.taken may.fixed may.recorded c.args.parts.now.ledger c.args.parts.now.pages c.args.pending.now c.args.call c.args.work.now [] may.are may.asked;
}

pub rows-rows-requires : goal.rows-rows-requires
rows-rows-requires g c =
    let may = c.requires.go in
    let is = c.take_in.ensures in
    let held = is.held may.fixed may.recorded c.args.parts.now.pages may.are may.asked.may.pending in
    (c.reading_laws.ensures.asks.ready may.fixed may.recorded c.args.parts.now.ledger c.take_in.new.ledger c.args.parts.now.pages c.args.pending.now c.args.call c.args.work.now []
    may.are may.asked is.entries held (is.prepared c.args.call.op may.asked.prepared)).agent

pub clear_call-requires : goal.clear_call-requires
clear_call-requires g c = record {
  may =
      let may = c.requires.go in
      let l = c.args.parts.now.ledger in
      let p = c.args.parts.now.pages in
      let mid = c.take_in.new.ledger in
      let is = c.take_in.ensures in
      let held = is.held may.fixed may.recorded p may.are may.asked.may.pending in
      let then = c.reading_laws.ensures.asks.ready may.fixed may.recorded l mid p c.args.pending.now c.args.call c.args.work.now [] may.are may.asked is.entries held (is.prepared c.args.call.op may.asked.prepared) in
      c.reading_laws.ensures.answers.clearing may.fixed may.recorded mid p c.args.call (reply.Read c.args.read.copy) held then
      (on-disk (state_after may.fixed.opening mid.books.history) c.args.call.agent c.args.call.op c.requires.word);
}

pub tell_last-requires-clause-silent : goal.tell_last-requires-clause-silent
tell_last-requires-clause-silent g c =
    let back = c.clear_call.new.ledger in
    let call = c.args.call in
    let z = c.in-Ok.sizes in
    subst (λ (e : Entry). spelled_by (machine_in back) (tree_in back) e.agent e.op z None ≡ None) (sym c.in-Ok.ensures.entry)
    (silent (machine_in back) (tree_in back) call.agent call.op z (as-bytes call.op c.requires.word))

pub tell_last-requires-clause-answered : goal.tell_last-requires-clause-answered
tell_last-requires-clause-answered g c = ap (λ (e : Entry). is_refusal e.reply) c.in-Ok.ensures.entry

pub tell_last-requires-clause-may : goal.tell_last-requires-clause-may
tell_last-requires-clause-may g c =
    let may = c.requires.go in
    let l = c.args.parts.now.ledger in
    let p = c.args.parts.now.pages in
    let call = c.args.call in
    let mid = c.take_in.new.ledger in
    let back = c.clear_call.new.ledger in
    let is = c.take_in.ensures in
    let laws = c.reading_laws.ensures in
    let held = is.held may.fixed may.recorded p may.are may.asked.may.pending in
    let cleared = c.in-Ok.ensures.cleared may.fixed may.recorded p held in
    let base = state_after may.fixed.opening mid.books.history in
    let begins : BeginsRead g.D.Disk may.fixed may.recorded l p c.args.pending.now call c.args.work.now = record { held = may.are; asked = may.asked } in
    let took : HasTakenIn g.D.Disk may.fixed may.recorded l mid p c.args.pending.now call =
    record { taken = record { entries = is.entries; journal = is.journal; place = is.place }; held = held; prepared = is.prepared call.op may.asked.prepared; tree = is.tree } in
    let way : HasMadeWay g.D.Disk may.fixed mid back p call = record { entries = c.in-Ok.ensures.entries; prepared = c.in-Ok.ensures.prepared; tree = c.in-Ok.ensures.tree; cleared = cleared } in
    let before = bytes-before g.D.Disk laws.asks laws.answers laws.goes_on may.fixed may.recorded l mid back p c.args.pending.now call c.args.work.now begins c.requires.word took in
    let read = c.requires.read may.fixed may.recorded may.are may.asked _ before in
    record {
      fixed = may.fixed;
      recorded = cleared.recorded;
      base = base;
      gone = units_in call.clearing.items;
      pages = p;
      are = cleared.are;
      answered =
          subst (λ (z : Sizes). IsAnswered g.D.Disk base (units_in call.clearing.items) back c.in-Ok.last.entry z) (sym c.in-Ok.ensures.sizes)
          (subst (λ (e : Entry). IsAnswered g.D.Disk base (units_in call.clearing.items) back e call.sizes) (sym c.in-Ok.ensures.entry)
          (answered g.D.Disk laws.asks laws.answers laws.goes_on may.fixed may.recorded l mid back p c.args.pending.now call c.args.work.now begins c.requires.word took
          c.args.read.bytes c.args.read.copy c.args.read.cursor c.args.read.beside c.args.read.page.items read way));
    }

pub returns-in-Ok-clause-acted : goal.returns-in-Ok-clause-acted
returns-in-Ok-clause-acted g c f recorded held whole asked =
    let w = g.D.Disk in
    let l = c.args.parts.now.ledger in
    let p = c.args.parts.now.pages in
    let call = c.args.call in
    let mid = c.take_in.new.ledger in
    let back = c.clear_call.new.ledger in
    let new = c.tell_last.new.ledger in
    let is = c.take_in.ensures in
    let laws = c.reading_laws.ensures in
    let then = is.held f recorded p held asked.may.pending in
    let cleared = c.in-Ok.ensures.cleared f recorded p then in
    let base = state_after f.opening mid.books.history in
    let begins : BeginsRead w f recorded l p c.args.pending.now call c.args.work.now = record { held = held; asked = asked } in
    let took : HasTakenIn w f recorded l mid p c.args.pending.now call =
    record { taken = record { entries = is.entries; journal = is.journal; place = is.place }; held = then; prepared = is.prepared call.op asked.prepared; tree = is.tree } in
    let way : HasMadeWay w f mid back p call = record { entries = c.in-Ok.ensures.entries; prepared = c.in-Ok.ensures.prepared; tree = c.in-Ok.ensures.tree; cleared = cleared } in
    let before = bytes-before w laws.asks laws.answers laws.goes_on f recorded l mid back p c.args.pending.now call c.args.work.now begins c.requires.word took in
    let read = c.requires.read f recorded held asked _ before in
    let its = answered w laws.asks laws.answers laws.goes_on f recorded l mid back p c.args.pending.now call c.args.work.now begins c.requires.word took
    c.args.read.bytes c.args.read.copy c.args.read.cursor c.args.read.beside c.args.read.page.items read way in
    let may_come : IsAnswered w base (units_in call.clearing.items) back c.in-Ok.last.entry c.in-Ok.sizes =
    subst (λ (z : Sizes). IsAnswered w base (units_in call.clearing.items) back c.in-Ok.last.entry z) (sym c.in-Ok.ensures.sizes)
    (subst (λ (e : Entry). IsAnswered w base (units_in call.clearing.items) back e call.sizes) (sym c.in-Ok.ensures.entry) its) in
    let told : HasTold w f cleared.recorded back new p (told_entry (call_in call) (reply.Read c.args.read.copy)) call.sizes =
    subst (λ (z : Sizes). HasTold w f cleared.recorded back new p (told_entry (call_in call) (reply.Read c.args.read.copy)) z) c.in-Ok.ensures.sizes
    (subst (λ (e : Entry). HasTold w f cleared.recorded back new p e c.in-Ok.sizes) c.in-Ok.ensures.entry
    (c.tell_last.ensures.told f cleared.recorded base (units_in call.clearing.items) p cleared.are may_come)) in
    let now : DeskParts g.row.D.Denot = record { ledger = new; pages = p } in
    let page_same : c.as_slice.result.now ≡ c.args.read.page.items = search rules in
    has-acted w laws.asks laws.answers laws.goes_on f recorded l mid back p c.args.pending.now call c.args.work.now begins c.requires.word took
    c.args.read.bytes c.args.read.copy c.args.read.cursor c.args.read.beside c.args.read.page.items read way laws.handles whole laws.laid laws.spaces laws.others new told
    c.copies_stand_for_their_row.ensures.handle laws.acts c.leave_cursor.new.work c.leave_cursor.ensures.rest c.leave_cursor.ensures.paged (λ t row copied is_page. c.leave_cursor.ensures.copy row copied (subst (λ (xs : List ℕ). IsPageOf row c.args.read.beside xs) (sym page_same) is_page))
    c.args.parts.now now _ refl refl refl (omega (arith, c.rows-rows.ensures.count, c.rows-rows.ensures.few))

pub returns-in-Err-clause-acted : goal.returns-in-Err-clause-acted
returns-in-Err-clause-acted g c f recorded held whole asked =
    let w = g.D.Disk in
    let l = c.args.parts.now.ledger in
    let p = c.args.parts.now.pages in
    let call = c.args.call in
    let mid = c.take_in.new.ledger in
    let back = c.clear_call.new.ledger in
    let is = c.take_in.ensures in
    let laws = c.reading_laws.ensures in
    let then = is.held f recorded p held asked.may.pending in
    let base = state_after f.opening mid.books.history in
    let ready = laws.asks.ready f recorded l mid p c.args.pending.now call c.args.work.now [] held asked is.entries then (is.prepared call.op asked.prepared) in
    let fail = c.in-Err.ensures.failed f recorded p then (record { live = ready.live; fitting = ready.fitting; judged = ready.judged; disk = on-disk base call.agent call.op c.requires.word }) in
    let now : DeskParts g.row.D.Denot = record { ledger = back; pages = p } in
    let count = ap (λ (m : Machine). length (agent_of m call.agent).own) then.books.machine ∙ own-length base call.agent ∙ sym (rows-failed w f mid back p call (reply.Read c.args.read.copy) fail) in
    laws.acts.failed f recorded c.args.parts.now now mid c.args.pending.now call (reply.Read c.args.read.copy) c.args.work.now c.args.work.now _ held asked.may.pending
    (record { entries = is.entries; journal = is.journal; place = is.place }) fail refl (omega (arith, c.rows-rows.ensures.count, c.rows-rows.ensures.few, count))
