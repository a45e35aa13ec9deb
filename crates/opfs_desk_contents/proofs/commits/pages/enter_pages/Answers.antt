use Rattle.std.proofs.Common.{rules, ◌≡◌, List, [], length, refl, sym, ap, subst, ◌∙◌, arith}
use Rattle.opfs_store.specs.Acts.Acting.{told_entry}
use Rattle.opfs_base.specs.declared.extents.Extent.{Extent}
use Rattle.opfs_hist.specs.declared.entry.Entry.{Entry}
use Rattle.opfs_hist.specs.declared.reply.Reply.TheVariants as reply
use Rattle.opfs_machine.specs.Agents.{agent_of}
use Rattle.opfs_machine.specs.Histories.{state_after}
use Rattle.opfs_machine.specs.Replies.{row_named}
use Rattle.opfs_space.specs.Room.{Machine}
use Rattle.opfs_blocks.specs.Sets.{blocks_of, AreBelow}
use Rattle.opfs_desk_contents.specs.Words.{ends_row, is_storing}
use Rattle.opfs_desk_steps.specs.Parts.Seen.{call_in, machine_in, tree_in}
use Rattle.opfs_desk_steps.specs.declared.parts.parts.DeskParts.{DeskParts}
use Rattle.opfs_desk_entries.specs.Answers.Silent.{BeginsCall}
use Rattle.opfs_desk_bytes.proofs.reading.Failed.{rows-failed}
use Rattle.opfs_desk_steps.specs.Going.{HasTakenIn}
use Rattle.opfs_desk_steps.proofs.Counts.{own-length}
use Rattle.opfs_desk_contents.proofs.commits.Asked.{small}
use Rattle.opfs_desk_contents.proofs.commits.Begun.{agent, call-planned, its-ready, may-store, reserve, stores-planned, text}
use Rattle.opfs_desk_contents.proofs.commits.Changes.{lets-go}
use Rattle.opfs_desk_contents.proofs.commits.Entered.{has-acted, runs-below}
use Rattle.opfs_desk_contents.proofs.commits.Gone.{gone-below}
use Rattle.opfs_desk_contents.proofs.Storable.{file-on}
use Rattle.opfs_desk_contents.proofs.commits.Same.{fails-same, leaves-same, may-same, stores-same}
use Rattle.opfs_desk_contents.proofs.commits.Words.{word-is}
use Rattle.opfs_desk_contents.proofs.commits.pages.enter_pages.Goals as goal

pub take_in-requires : goal.take_in-requires
take_in-requires g c =
    let go = c.requires.go in
    record { may = c.calling_laws.ensures.asks.taken go.fixed go.recorded c.args.parts.now.ledger c.args.parts.now.pages c.args.pending.now c.args.call c.args.work.now [] go.are go.asked }

pub rows-rows-requires : goal.rows-rows-requires
rows-rows-requires g c =
    let go = c.requires.go in
    let w = g.D.Disk in
    let laws = c.calling_laws.ensures in
    let l = c.args.parts.now.ledger in
    let p = c.args.parts.now.pages in
    let calls = c.args.pending.now in
    let call = c.args.call in
    let work = c.args.work.now in
    let mid = c.take_in.new.ledger in
    let is = c.take_in.ensures in
    let begins : BeginsCall w go.fixed go.recorded l p calls call work [] = record { held = go.are; asked = go.asked } in
    let took : HasTakenIn w go.fixed go.recorded l mid p calls call = record {
      taken = record { entries = is.entries; journal = is.journal; place = is.place };
      held = is.held go.fixed go.recorded p go.are go.asked.may.pending;
      prepared = is.prepared call.op go.asked.prepared;
      tree = is.tree;
    } in
    (its-ready w laws.asks laws.answers laws.decide laws.follow laws.local go.fixed go.recorded l p calls call work begins c.requires.word c.requires.fits mid took).agent

pub store_pages-requires-clause-may : goal.store_pages-requires-clause-may
store_pages-requires-clause-may g c =
    let go = c.requires.go in
    let w = g.D.Disk in
    let laws = c.calling_laws.ensures in
    let l = c.args.parts.now.ledger in
    let p = c.args.parts.now.pages in
    let calls = c.args.pending.now in
    let call = c.args.call in
    let work = c.args.work.now in
    let plan = c.args.plan in
    let mid = c.take_in.new.ledger in
    let is = c.take_in.ensures in
    let begins : BeginsCall w go.fixed go.recorded l p calls call work [] = record { held = go.are; asked = go.asked } in
    let took : HasTakenIn w go.fixed go.recorded l mid p calls call = record {
      taken = record { entries = is.entries; journal = is.journal; place = is.place };
      held = is.held go.fixed go.recorded p go.are go.asked.may.pending;
      prepared = is.prepared call.op go.asked.prepared;
      tree = is.tree;
    } in
    let start : DeskParts g.row.D.Denot = record { ledger = mid; pages = p } in
    let last = c.call_parts-last in
    may-same w go.fixed start start call.agent plan.put plan.place work last.result.last.entry (told_entry (call_in call) reply.Done) last.result.sizes call.sizes c.args.row (row_named call.op) last.ensures.entry last.ensures.sizes c.requires.row
    (may-store w laws.asks laws.answers laws.decide laws.follow laws.local go.fixed go.recorded l p calls call work begins c.requires.word c.requires.fits mid took laws.files laws.between c.know_rows_match_tree.ensures plan c.requires.plan c.requires.content)

pub store_pages-requires-clause-word : goal.store_pages-requires-clause-word
store_pages-requires-clause-word g c = ap (λ (x : Entry). is_storing x.op) c.call_parts-last.ensures.entry ∙ word-is (machine_in c.args.parts.now.ledger) c.args.call.agent c.args.call.op c.requires.word

pub store_pages-requires-clause-done : goal.store_pages-requires-clause-done
store_pages-requires-clause-done g c = ap (λ (x : Entry). x.reply) c.call_parts-last.ensures.entry

pub leave_row-requires-clause-below : goal.leave_row-requires-clause-below
leave_row-requires-clause-below g c =
    let go = c.requires.go in
    let w = g.D.Disk in
    let laws = c.calling_laws.ensures in
    let l = c.args.parts.now.ledger in
    let p = c.args.parts.now.pages in
    let calls = c.args.pending.now in
    let call = c.args.call in
    let work = c.args.work.now in
    let plan = c.args.plan in
    let mid = c.take_in.new.ledger in
    let is = c.take_in.ensures in
    let begins : BeginsCall w go.fixed go.recorded l p calls call work [] = record { held = go.are; asked = go.asked } in
    let took : HasTakenIn w go.fixed go.recorded l mid p calls call = record {
      taken = record { entries = is.entries; journal = is.journal; place = is.place };
      held = is.held go.fixed go.recorded p go.are go.asked.may.pending;
      prepared = is.prepared call.op go.asked.prepared;
      tree = is.tree;
    } in
    let start : DeskParts g.row.D.Denot = record { ledger = mid; pages = p } in
    let last = c.call_parts-last in
    let new = c.store_pages.new.parts in
    let runs = c.in-Ok.runs in
    let done =
    stores-same w go.fixed start new call.agent plan.put plan.place work runs (text w laws.asks laws.answers laws.decide laws.follow laws.local go.fixed go.recorded l p calls call work begins c.requires.word c.requires.fits mid took) last.result.last.entry (told_entry (call_in call) reply.Done) last.result.sizes call.sizes c.args.row (row_named call.op) last.ensures.entry last.ensures.sizes c.requires.row
    (c.in-Ok.ensures.stored go.fixed go.recorded (text w laws.asks laws.answers laws.decide laws.follow laws.local go.fixed go.recorded l p calls call work begins c.requires.word c.requires.fits mid took) took.held) (stores-planned w laws.asks laws.answers laws.decide laws.follow laws.local go.fixed go.recorded l p calls call work begins c.requires.word c.requires.fits mid took laws.files laws.between c.know_rows_match_tree.ensures plan c.requires.plan c.requires.content) in
    let slice_is : c.as_slice.result.now ≡ runs = search rules in
    subst (λ (xs : List Extent). AreBelow (length new.pages.space.used) (blocks_of xs)) (sym slice_is)
    (runs-below w go.fixed done.cleared.recorded (state_after go.fixed.opening mid.books.history) done.back new.pages call.agent (row_named call.op) plan.put.pages runs done.cleared.are done.runs_are)

pub leave_row-requires-clause-gone : goal.leave_row-requires-clause-gone
leave_row-requires-clause-gone g c =
    let go = c.requires.go in
    let w = g.D.Disk in
    let laws = c.calling_laws.ensures in
    let l = c.args.parts.now.ledger in
    let p = c.args.parts.now.pages in
    let calls = c.args.pending.now in
    let call = c.args.call in
    let work = c.args.work.now in
    let plan = c.args.plan in
    let mid = c.take_in.new.ledger in
    let is = c.take_in.ensures in
    let begins : BeginsCall w go.fixed go.recorded l p calls call work [] = record { held = go.are; asked = go.asked } in
    let took : HasTakenIn w go.fixed go.recorded l mid p calls call = record {
      taken = record { entries = is.entries; journal = is.journal; place = is.place };
      held = is.held go.fixed go.recorded p go.are go.asked.may.pending;
      prepared = is.prepared call.op go.asked.prepared;
      tree = is.tree;
    } in
    let start : DeskParts g.row.D.Denot = record { ledger = mid; pages = p } in
    let last = c.call_parts-last in
    let new = c.store_pages.new.parts in
    let runs = c.in-Ok.runs in
    let planned = call-planned w laws.asks laws.answers laws.decide laws.follow laws.local go.fixed go.recorded l p calls call work begins c.requires.word c.requires.fits mid took laws.files laws.between c.know_rows_match_tree.ensures plan c.requires.plan c.requires.content in
    let done =
    stores-same w go.fixed start new call.agent plan.put plan.place work runs (text w laws.asks laws.answers laws.decide laws.follow laws.local go.fixed go.recorded l p calls call work begins c.requires.word c.requires.fits mid took) last.result.last.entry (told_entry (call_in call) reply.Done) last.result.sizes call.sizes c.args.row (row_named call.op) last.ensures.entry last.ensures.sizes c.requires.row
    (c.in-Ok.ensures.stored go.fixed go.recorded (text w laws.asks laws.answers laws.decide laws.follow laws.local go.fixed go.recorded l p calls call work begins c.requires.word c.requires.fits mid took) took.held) (stores-planned w laws.asks laws.answers laws.decide laws.follow laws.local go.fixed go.recorded l p calls call work begins c.requires.word c.requires.fits mid took laws.files laws.between c.know_rows_match_tree.ensures plan c.requires.plan c.requires.content) in
    let slice_is : c.as_slice-gone.result.now ≡ new.ledger.freed.items = search rules in
    gone-below w go.fixed done.cleared.recorded (state_after go.fixed.opening mid.books.history) done.back new.pages plan.place done.file c.as_slice-gone.result.now done.cleared.are done.there
    (slice_is ∙ done.stored.freed ∙ lets-go c.storing_laws.ensures.trees (tree_in done.back) plan.place runs done.file done.there (machine_in done.back) call.agent call.op (reserve w laws.asks laws.answers laws.decide laws.follow laws.local go.fixed go.recorded l p calls call work begins c.requires.word c.requires.fits mid took)
    (file-on mid done.back (told_entry (call_in call) reply.Done) plan.place (reserve w laws.asks laws.answers laws.decide laws.follow laws.local go.fixed go.recorded l p calls call work begins c.requires.word c.requires.fits mid took) done.state planned.file))

pub leave_row-requires-clause-end : goal.leave_row-requires-clause-end
leave_row-requires-clause-end g c =
    let go = c.requires.go in
    let w = g.D.Disk in
    let laws = c.calling_laws.ensures in
    let l = c.args.parts.now.ledger in
    let p = c.args.parts.now.pages in
    let calls = c.args.pending.now in
    let call = c.args.call in
    let work = c.args.work.now in
    let plan = c.args.plan in
    let mid = c.take_in.new.ledger in
    let is = c.take_in.ensures in
    let begins : BeginsCall w go.fixed go.recorded l p calls call work [] = record { held = go.are; asked = go.asked } in
    let took : HasTakenIn w go.fixed go.recorded l mid p calls call = record {
      taken = record { entries = is.entries; journal = is.journal; place = is.place };
      held = is.held go.fixed go.recorded p go.are go.asked.may.pending;
      prepared = is.prepared call.op go.asked.prepared;
      tree = is.tree;
    } in
    let start : DeskParts g.row.D.Denot = record { ledger = mid; pages = p } in
    let last = c.call_parts-last in
    small w laws.follow laws.local go.fixed go.recorded l p calls call work begins (agent w laws.asks laws.answers laws.decide laws.follow laws.local go.fixed go.recorded l p calls call work begins c.requires.word c.requires.fits mid took) c.requires.word c.requires.fits laws.states laws.kept

pub returns-in-Ok-clause-acted : goal.returns-in-Ok-clause-acted
returns-in-Ok-clause-acted g c f recorded held asked =
    let met = g.met.D.Disk in
    let more = c.storing_laws.ensures in
    let w = g.D.Disk in
    let laws = c.calling_laws.ensures in
    let l = c.args.parts.now.ledger in
    let p = c.args.parts.now.pages in
    let calls = c.args.pending.now in
    let call = c.args.call in
    let work = c.args.work.now in
    let plan = c.args.plan in
    let mid = c.take_in.new.ledger in
    let is = c.take_in.ensures in
    let begins : BeginsCall w f recorded l p calls call work [] = record { held = held; asked = asked } in
    let took : HasTakenIn w f recorded l mid p calls call = record {
      taken = record { entries = is.entries; journal = is.journal; place = is.place };
      held = is.held f recorded p held asked.may.pending;
      prepared = is.prepared call.op asked.prepared;
      tree = is.tree;
    } in
    let start : DeskParts g.row.D.Denot = record { ledger = mid; pages = p } in
    let last = c.call_parts-last in
    let new = c.store_pages.new.parts in
    let runs = c.in-Ok.runs in
    let q = c.leave_row.new.pages in
    let made = c.leave_row.new.work in
    let ready = its-ready w laws.asks laws.answers laws.decide laws.follow laws.local f recorded l p calls call work begins c.requires.word c.requires.fits mid took in
    let done =
    stores-same w f start new call.agent plan.put plan.place work runs (text w laws.asks laws.answers laws.decide laws.follow laws.local f recorded l p calls call work begins c.requires.word c.requires.fits mid took) last.result.last.entry (told_entry (call_in call) reply.Done) last.result.sizes call.sizes c.args.row (row_named call.op) last.ensures.entry last.ensures.sizes c.requires.row
    (c.in-Ok.ensures.stored f recorded (text w laws.asks laws.answers laws.decide laws.follow laws.local f recorded l p calls call work begins c.requires.word c.requires.fits mid took) took.held) (stores-planned w laws.asks laws.answers laws.decide laws.follow laws.local f recorded l p calls call work begins c.requires.word c.requires.fits mid took laws.files laws.between c.know_rows_match_tree.ensures plan c.requires.plan c.requires.content) in
    let slice_is : c.as_slice.result.now ≡ runs = search rules in
    let left = leaves-same new.pages q call.agent c.args.row (row_named call.op) c.is_alone-alone.result c.as_slice-gone.result.now c.as_slice.result.now runs c.is_last-ends.result (ends_row call.op) work made c.requires.row slice_is c.is_last-ends.ensures c.leave_row.ensures in
    let gone_is : c.as_slice-gone.result.now ≡ new.ledger.freed.items = search rules in
    let count = ap (λ (m : Machine). length (agent_of m call.agent).own) took.held.books.machine ∙ own-length (state_after f.opening mid.books.history) call.agent in
    has-acted w f mid p call work plan.place (text w laws.asks laws.answers laws.decide laws.follow laws.local f recorded l p calls call work begins c.requires.word c.requires.fits mid took) (reserve w laws.asks laws.answers laws.decide laws.follow laws.local f recorded l p calls call work begins c.requires.word c.requires.fits mid took) (call-planned w laws.asks laws.answers laws.decide laws.follow laws.local f recorded l p calls call work begins c.requires.word c.requires.fits mid took laws.files laws.between c.know_rows_match_tree.ensures plan c.requires.plan c.requires.content)
    plan.put.pages c.requires.plan.count new runs done q made c.is_alone-alone.result c.as_slice-gone.result.now left gone_is c.is_alone-alone.ensures c.know_rows_match_tree.ensures
    more.contents more.trees more.others more.changes more.rows more.moves laws.kept more.spelled more.fails met.falls laws.acts recorded l p calls held asked.may.pending took.taken c.rows-rows.result
    (omega (arith, c.rows-rows.ensures.count, c.rows-rows.ensures.few, count))

pub returns-in-Err-clause-acted : goal.returns-in-Err-clause-acted
returns-in-Err-clause-acted g c f recorded held asked =
    let w = g.D.Disk in
    let laws = c.calling_laws.ensures in
    let l = c.args.parts.now.ledger in
    let p = c.args.parts.now.pages in
    let calls = c.args.pending.now in
    let call = c.args.call in
    let work = c.args.work.now in
    let plan = c.args.plan in
    let mid = c.take_in.new.ledger in
    let is = c.take_in.ensures in
    let begins : BeginsCall w f recorded l p calls call work [] = record { held = held; asked = asked } in
    let took : HasTakenIn w f recorded l mid p calls call = record {
      taken = record { entries = is.entries; journal = is.journal; place = is.place };
      held = is.held f recorded p held asked.may.pending;
      prepared = is.prepared call.op asked.prepared;
      tree = is.tree;
    } in
    let start : DeskParts g.row.D.Denot = record { ledger = mid; pages = p } in
    let last = c.call_parts-last in
    let new = c.store_pages.new.parts in
    let fail =
    fails-same w f start new call.agent plan.put plan.place work (text w laws.asks laws.answers laws.decide laws.follow laws.local f recorded l p calls call work begins c.requires.word c.requires.fits mid took) last.result.last.entry (told_entry (call_in call) reply.Done) last.result.sizes call.sizes c.args.row (row_named call.op) last.ensures.entry last.ensures.sizes c.requires.row
    (c.in-Err.ensures.failed f recorded (text w laws.asks laws.answers laws.decide laws.follow laws.local f recorded l p calls call work begins c.requires.word c.requires.fits mid took) took.held) (stores-planned w laws.asks laws.answers laws.decide laws.follow laws.local f recorded l p calls call work begins c.requires.word c.requires.fits mid took laws.files laws.between c.know_rows_match_tree.ensures plan c.requires.plan c.requires.content) in
    let count =
    ap (λ (m : Machine). length (agent_of m call.agent).own) took.held.books.machine ∙ own-length (state_after f.opening mid.books.history) call.agent ∙ sym (rows-failed w f mid new.ledger new.pages call reply.Done fail) in
    laws.acts.failed f recorded c.args.parts.now new mid calls call reply.Done work work _ held asked.may.pending took.taken fail refl (omega (arith, c.rows-rows.ensures.count, c.rows-rows.ensures.few, count))
