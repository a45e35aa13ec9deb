use Rattle.std.proofs.Common.{rules, ◌≡◌, ℕ, ◌/◌, [], List, length, refl, sym, ap, subst, ◌∙◌, arith}
use Rattle.opfs_store.specs.Acts.Acting.{told_entry}
use Rattle.opfs_store.specs.declared.acts.acted.Acted.{Acted}
use Rattle.opfs_hist.specs.declared.reply.Reply.{Reply}
use Rattle.opfs_machine.specs.Agents.{agent_of}
use Rattle.opfs_machine.specs.Histories.{state_after}
use Rattle.opfs_machine.specs.Replies.{row_named}
use Rattle.opfs_pages.specs.Copies.{IsPageOf}
use Rattle.opfs_pages.specs.Stages.{changed}
use Rattle.opfs_space.specs.Room.{Machine}
use Rattle.opfs_desk_steps.specs.Parts.Acted.{HasActed}
use Rattle.opfs_desk_steps.specs.Parts.Seen.{call_in, units_in}
use Rattle.opfs_desk_steps.specs.declared.parts.parts.DeskParts.{DeskParts}
use Rattle.opfs_desk_bytes.specs.Reading.Reading.{BeginsRead}
use Rattle.opfs_desk_bytes.proofs.reading.Failed.{rows-failed}
use Rattle.opfs_desk_steps.proofs.Counts.{own-length}
use Rattle.opfs_desk_bytes.specs.Writing.Plans.{HasClearedWay, HasTakenIn}
use Rattle.opfs_desk_bytes.specs.Writing.Words.{bytes_put, reply_put}
use Rattle.opfs_desk_bytes.proofs.writing.Acted.{call-fails, enters-same, fails-same, has-acted, has-failed, is-cut, is-written, may-enter-same, put_act, reply-for}
use Rattle.opfs_desk_bytes.proofs.writing.Begun.{answered, before-is, gotten, ready, to-put}
use Rattle.opfs_desk_bytes.proofs.writing.Words.{on-disk}
use Rattle.opfs_desk_bytes.proofs.writing.acting.enter_call.Goals as goal

pub take_in-requires : goal.take_in-requires
take_in-requires g c = record {
  may =
      let may = c.requires.go in
      c.putting_laws.ensures.asks.taken may.fixed may.recorded c.args.parts.now.ledger c.args.parts.now.pages c.args.pending.now c.args.call c.args.work.now [] may.are may.asked;
}

pub rows-rows-requires : goal.rows-rows-requires
rows-rows-requires g c =
    let may = c.requires.go in
    let w = g.D.Disk in
    let l = c.args.parts.now.ledger in
    let p = c.args.parts.now.pages in
    let call = c.args.call in
    let calls = c.args.pending.now in
    let work = c.args.work.now in
    let mid = c.take_in.new.ledger in
    let laws = c.putting_laws.ensures in
    let is = c.take_in.ensures in
    let plan = c.requires.plan in
    let then = is.held may.fixed may.recorded p may.are may.asked.may.pending in
    let begins : BeginsRead w may.fixed may.recorded l p calls call work = record { held = may.are; asked = may.asked } in
    let took : HasTakenIn w may.fixed may.recorded l mid p calls call =
    record { taken = record { entries = is.entries; journal = is.journal; place = is.place }; tree = is.tree; held = then; prepared = is.prepared call.op may.asked.prepared } in
    (ready w laws.asks laws.answers may.fixed may.recorded l mid p calls call work begins c.requires.word took).agent

pub evict_for-requires : goal.evict_for-requires
evict_for-requires g c = record {
  may =
      let may = c.requires.go in
      let w = g.D.Disk in
      let l = c.args.parts.now.ledger in
      let p = c.args.parts.now.pages in
      let call = c.args.call in
      let calls = c.args.pending.now in
      let work = c.args.work.now in
      let mid = c.take_in.new.ledger in
      let laws = c.putting_laws.ensures in
      let is = c.take_in.ensures in
      let plan = c.requires.plan in
      let then = is.held may.fixed may.recorded p may.are may.asked.may.pending in
      let begins : BeginsRead w may.fixed may.recorded l p calls call work = record { held = may.are; asked = may.asked } in
      let took : HasTakenIn w may.fixed may.recorded l mid p calls call =
      record { taken = record { entries = is.entries; journal = is.journal; place = is.place }; tree = is.tree; held = then; prepared = is.prepared call.op may.asked.prepared } in
      let its-ready = ready w laws.asks laws.answers may.fixed may.recorded l mid p calls call work begins c.requires.word took in
      laws.answers.clearing may.fixed may.recorded mid p call c.reply_of.result then its-ready (on-disk _ _ _ _ c.requires.word its-ready.judged);
}

pub returns-in_default-clause-acted : goal.returns-in_default-clause-acted
returns-in_default-clause-acted g c f recorded held asked =
    let w = g.D.Disk in
    let l = c.args.parts.now.ledger in
    let p = c.args.parts.now.pages in
    let call = c.args.call in
    let calls = c.args.pending.now in
    let work = c.args.work.now in
    let mid = c.take_in.new.ledger in
    let laws = c.putting_laws.ensures in
    let is = c.take_in.ensures in
    let plan = c.requires.plan in
    let then = is.held f recorded p held asked.may.pending in
    let begins : BeginsRead w f recorded l p calls call work = record { held = held; asked = asked } in
    let took : HasTakenIn w f recorded l mid p calls call =
    record { taken = record { entries = is.entries; journal = is.journal; place = is.place }; tree = is.tree; held = then; prepared = is.prepared call.op asked.prepared } in
    let its-ready = ready w laws.asks laws.answers f recorded l mid p calls call work begins c.requires.word took in
    let base = state_after f.opening mid.books.history in
    let fail = c.in_default.ensures.failed f recorded p then (record { live = its-ready.live; fitting = its-ready.fitting; judged = its-ready.judged; disk = on-disk _ _ _ _ c.requires.word its-ready.judged }) in
    let now : DeskParts g.row.D.Denot = record { ledger = c.evict_for.new.ledger; pages = p } in
    let count = ap (λ (m : Machine). length (agent_of m call.agent).own) then.books.machine ∙ own-length base call.agent ∙ sym (rows-failed w f mid c.evict_for.new.ledger p call c.reply_of.result fail) in
    subst (λ (a : Acted). HasActed w f c.args.parts.now now calls (call_in call) work work a) (sym c.faulted.ensures)
    (laws.acts.failed f recorded c.args.parts.now now mid calls call c.reply_of.result work work _ held asked.may.pending took.taken fail refl (omega (arith, c.rows-rows.ensures.count, c.rows-rows.ensures.few, count)))

pub enter_put-requires-clause-may : goal.enter_put-requires-clause-may
enter_put-requires-clause-may g c =
    let may = c.requires.go in
    let w = g.D.Disk in
    let l = c.args.parts.now.ledger in
    let p = c.args.parts.now.pages in
    let call = c.args.call in
    let calls = c.args.pending.now in
    let work = c.args.work.now in
    let mid = c.take_in.new.ledger in
    let laws = c.putting_laws.ensures in
    let is = c.take_in.ensures in
    let plan = c.requires.plan in
    let then = is.held may.fixed may.recorded p may.are may.asked.may.pending in
    let begins : BeginsRead w may.fixed may.recorded l p calls call work = record { held = may.are; asked = may.asked } in
    let took : HasTakenIn w may.fixed may.recorded l mid p calls call =
    record { taken = record { entries = is.entries; journal = is.journal; place = is.place }; tree = is.tree; held = then; prepared = is.prepared call.op may.asked.prepared } in
    let back = c.evict_for.new.ledger in
    let cl = c.in-Ok.ensures in
    let way : HasClearedWay w may.fixed mid back p call =
    record { entries = cl.entries; tree = cl.tree; lines = sym c.know_rows_match_tree.ensures; prepared = cl.prepared; sure = cl.sure; leaves = cl.leaves; cleared = cl.cleared may.fixed may.recorded p then } in
    let base = state_after may.fixed.opening mid.books.history in
    let units = units_in call.clearing.items in
    let its = answered w laws.asks laws.answers may.fixed may.recorded l mid p calls call work begins c.requires.word took plan.small back way in
    let put_may = to-put w laws.asks laws.answers may.fixed may.recorded l mid p calls call work begins c.requires.word took plan.small back way laws.inside laws.room laws.others c.args.target c.args.planned.put c.args.planned.page.items plan in
    let got = gotten w laws.asks laws.answers may.fixed may.recorded l mid p calls call work begins c.requires.word took plan.small back way laws.inside laws.room laws.others c.args.target c.args.planned.put c.args.planned.page.items plan in
    let reply_is : c.reply_of.result ≡ reply_put call.op = reply-for call.op c.args.target c.args.given.now call.sizes c.requires.word plan.target c.requires.given c.reply_of.result c.reply_of.ensures in
    let entry_is : c.in-Ok.last.entry ≡ told_entry (call_in call) (reply_put call.op) = cl.entry ∙ ap (λ (r : Reply). told_entry (call_in call) r) reply_is in
    let start : DeskParts g.row.D.Denot = record { ledger = back; pages = p } in
    may-enter-same w start c.args.planned.put c.args.target.row (row_named call.op) c.args.given.now (bytes_put call.op) c.in-Ok.last.entry (told_entry (call_in call) (reply_put call.op)) c.in-Ok.sizes call.sizes
    plan.target.row c.requires.given entry_is cl.sizes
    (record { fixed = may.fixed; recorded = way.cleared.recorded; base = base; gone = units; to_put = put_may; gotten = got; answered = its })

pub leave_put-requires-clause-written : goal.leave_put-requires-clause-written
leave_put-requires-clause-written g c =
    let may = c.requires.go in
    is-written g.D.Disk may.fixed c.args.parts.now.ledger c.args.pending.now c.args.call c.args.work.now [] may.asked c.requires.word c.args.target (length c.args.given.now) c.requires.plan.target
    (ap (λ (xs : List ℕ). length xs) c.requires.given)

pub leave_put-requires-clause-cut : goal.leave_put-requires-clause-cut
leave_put-requires-clause-cut g c =
    let may = c.requires.go in
    is-cut g.D.Disk may.fixed c.args.parts.now.ledger c.args.pending.now c.args.call c.args.work.now [] may.asked c.requires.word c.args.target (length c.args.given.now) c.requires.plan.target
    (ap (λ (xs : List ℕ). length xs) c.requires.given)

pub returns-in-Ok-enter_put-clause-acted : goal.returns-in-Ok-enter_put-clause-acted
returns-in-Ok-enter_put-clause-acted g c f recorded held asked =
    let met = g.met.D.Disk in
    let w = g.D.Disk in
    let l = c.args.parts.now.ledger in
    let p = c.args.parts.now.pages in
    let call = c.args.call in
    let calls = c.args.pending.now in
    let work = c.args.work.now in
    let mid = c.take_in.new.ledger in
    let laws = c.putting_laws.ensures in
    let is = c.take_in.ensures in
    let plan = c.requires.plan in
    let then = is.held f recorded p held asked.may.pending in
    let begins : BeginsRead w f recorded l p calls call work = record { held = held; asked = asked } in
    let took : HasTakenIn w f recorded l mid p calls call =
    record { taken = record { entries = is.entries; journal = is.journal; place = is.place }; tree = is.tree; held = then; prepared = is.prepared call.op asked.prepared } in
    let back = c.evict_for.new.ledger in
    let cl = c.in-Ok.ensures in
    let way : HasClearedWay w f mid back p call =
    record { entries = cl.entries; tree = cl.tree; lines = sym c.know_rows_match_tree.ensures; prepared = cl.prepared; sure = cl.sure; leaves = cl.leaves; cleared = cl.cleared f recorded p then } in
    let base = state_after f.opening mid.books.history in
    let units = units_in call.clearing.items in
    let its = answered w laws.asks laws.answers f recorded l mid p calls call work begins c.requires.word took plan.small back way in
    let put_may = to-put w laws.asks laws.answers f recorded l mid p calls call work begins c.requires.word took plan.small back way laws.inside laws.room laws.others c.args.target c.args.planned.put c.args.planned.page.items plan in
    let got = gotten w laws.asks laws.answers f recorded l mid p calls call work begins c.requires.word took plan.small back way laws.inside laws.room laws.others c.args.target c.args.planned.put c.args.planned.page.items plan in
    let reply_is : c.reply_of.result ≡ reply_put call.op = reply-for call.op c.args.target c.args.given.now call.sizes c.requires.word plan.target c.requires.given c.reply_of.result c.reply_of.ensures in
    let entry_is : c.in-Ok.last.entry ≡ told_entry (call_in call) (reply_put call.op) = cl.entry ∙ ap (λ (r : Reply). told_entry (call_in call) r) reply_is in
    let start : DeskParts g.row.D.Denot = record { ledger = back; pages = p } in
    let new = c.enter_put.new.parts in
    let entered =
    enters-same w f way.cleared.recorded base units start new c.args.planned.put c.args.target.row (row_named call.op) c.args.given.now (bytes_put call.op) c.in-Ok.last.entry (told_entry (call_in call) (reply_put call.op)) c.in-Ok.sizes call.sizes
    plan.target.row c.requires.given entry_is cl.sizes (c.in-Ok-enter_put.ensures.put f way.cleared.recorded base units) put_may got its in
    let row_is = before-is w laws.asks laws.answers f recorded l mid p calls call work begins c.requires.word took in
    let planned = c.requires.planned f recorded held asked _ row_is in
    let page_same : c.as_slice.result.now ≡ c.args.planned.page.items = search rules in
    let left = c.leave_put.ensures in
    let last_is : c.reply_of-in-Ok-enter_put.result ≡ reply_put call.op =
    reply-for call.op c.args.target c.args.given.now call.sizes c.requires.word plan.target c.requires.given c.reply_of-in-Ok-enter_put.result c.reply_of-in-Ok-enter_put.ensures in
    subst (λ (r : Reply). HasActed w f c.args.parts.now new calls (call_in call) work c.leave_put.new.work (put_act r c.rows-rows.result)) (sym last_is)
    (has-acted w laws.asks laws.answers f recorded l mid p calls call work begins c.requires.word took plan.small back way laws.inside laws.room laws.others c.args.target c.args.planned.put c.args.planned.page.items plan
    planned new entered laws.changes c.leave_put.new.work left.size left.position left.reserve left.paged left.near c.args.given.now c.requires.given
    (λ bytes copied is_page. left.copy bytes c.args.given.now refl copied
    (subst (λ (xs : List ℕ). IsPageOf (changed bytes c.args.target.at c.args.given.now c.args.target.size) (c.args.target.beside / 4096) xs) (sym page_same) is_page))
    met.falls laws.spaces laws.trees laws.laid laws.spelled laws.acts c.rows-rows.result (omega (arith, c.rows-rows.ensures.count, c.rows-rows.ensures.few)))

pub returns-clause-acted : goal.returns-clause-acted
returns-clause-acted g c f recorded held asked =
    let met = g.met.D.Disk in
    let w = g.D.Disk in
    let l = c.args.parts.now.ledger in
    let p = c.args.parts.now.pages in
    let call = c.args.call in
    let calls = c.args.pending.now in
    let work = c.args.work.now in
    let mid = c.take_in.new.ledger in
    let laws = c.putting_laws.ensures in
    let is = c.take_in.ensures in
    let plan = c.requires.plan in
    let then = is.held f recorded p held asked.may.pending in
    let begins : BeginsRead w f recorded l p calls call work = record { held = held; asked = asked } in
    let took : HasTakenIn w f recorded l mid p calls call =
    record { taken = record { entries = is.entries; journal = is.journal; place = is.place }; tree = is.tree; held = then; prepared = is.prepared call.op asked.prepared } in
    let back = c.evict_for.new.ledger in
    let cl = c.in-Ok.ensures in
    let way : HasClearedWay w f mid back p call =
    record { entries = cl.entries; tree = cl.tree; lines = sym c.know_rows_match_tree.ensures; prepared = cl.prepared; sure = cl.sure; leaves = cl.leaves; cleared = cl.cleared f recorded p then } in
    let base = state_after f.opening mid.books.history in
    let units = units_in call.clearing.items in
    let its = answered w laws.asks laws.answers f recorded l mid p calls call work begins c.requires.word took plan.small back way in
    let put_may = to-put w laws.asks laws.answers f recorded l mid p calls call work begins c.requires.word took plan.small back way laws.inside laws.room laws.others c.args.target c.args.planned.put c.args.planned.page.items plan in
    let got = gotten w laws.asks laws.answers f recorded l mid p calls call work begins c.requires.word took plan.small back way laws.inside laws.room laws.others c.args.target c.args.planned.put c.args.planned.page.items plan in
    let reply_is : c.reply_of.result ≡ reply_put call.op = reply-for call.op c.args.target c.args.given.now call.sizes c.requires.word plan.target c.requires.given c.reply_of.result c.reply_of.ensures in
    let entry_is : c.in-Ok.last.entry ≡ told_entry (call_in call) (reply_put call.op) = cl.entry ∙ ap (λ (r : Reply). told_entry (call_in call) r) reply_is in
    let start : DeskParts g.row.D.Denot = record { ledger = back; pages = p } in
    let new = c.enter_put.new.parts in
    let its-ready = ready w laws.asks laws.answers f recorded l mid p calls call work begins c.requires.word took in
    let not =
    fails-same w f way.cleared.recorded base units start new c.args.planned.put c.args.target.row (row_named call.op) c.args.given.now (bytes_put call.op) c.in-Ok.last.entry (told_entry (call_in call) (reply_put call.op))
    plan.target.row c.requires.given entry_is (c.in-Err.ensures.failed f way.cleared.recorded base units) put_may got
    (call-fails base call.agent call.number call.op (reply_put call.op) units c.requires.word its-ready.live its-ready.fitting its-ready.judged) in
    let fail = has-failed w laws.asks laws.answers f recorded l mid p calls call work begins c.requires.word took plan.small back way met.falls new not in
    let count = ap (λ (m : Machine). length (agent_of m call.agent).own) then.books.machine ∙ own-length base call.agent ∙ sym (rows-failed w f mid new.ledger new.pages call (reply_put call.op) fail) in
    subst (λ (a : Acted). HasActed w f c.args.parts.now new calls (call_in call) work work a) (sym c.faulted-in-Err.ensures)
    (laws.acts.failed f recorded c.args.parts.now new mid calls call (reply_put call.op) work work _ held asked.may.pending took.taken fail refl (omega (arith, c.rows-rows.ensures.count, c.rows-rows.ensures.few, count)))
