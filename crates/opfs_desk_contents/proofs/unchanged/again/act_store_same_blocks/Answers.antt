use Rattle.std.proofs.Common.{◌≡◌, ℕ, true, [], length, None, is_some, refl, sym, ap, subst, ◌∙◌, arith}
use Rattle.opfs_store.specs.Acts.Acting.{told_entry}
use Rattle.opfs_base.specs.Places.{Place}
use Rattle.opfs_books.specs.Stored.Spelled.{CanHold}
use Rattle.opfs_books.specs.Seen.{BytesStand}
use Rattle.opfs_hist.specs.declared.entry.Entry.{Entry}
use Rattle.opfs_hist.specs.declared.reply.Reply.TheVariants as reply
use Rattle.opfs_machine.specs.Agents.{agent_of}
use Rattle.opfs_machine.specs.Histories.{state_after}
use Rattle.opfs_machine.specs.Replies.{row_named}
use Rattle.opfs_state_rows.specs.Standing.Seen.{Machine}
use Rattle.opfs_machine.specs.declared.state.Sizes.{Sizes}
use Rattle.opfs_state.specs.Reading.{row_file}
use Rattle.opfs_tree.specs.Rows.{file_at as file_in_tree}
use Rattle.opfs_desk_contents.specs.Storing.{HasStored, MayStoreContent, content_now}
use Rattle.opfs_desk_contents.specs.Words.{is_storing}
use Rattle.opfs_desk_entries.specs.KeptBack.Changing.{HasNotChanged}
use Rattle.opfs_desk_steps.specs.Parts.Answered.{IsAnswered}
use Rattle.opfs_desk_steps.specs.Parts.Seen.{machine_in, tree_in, book_in, call_in, units_in}
use Rattle.opfs_desk_steps.specs.declared.parts.parts.OpenPages.{OpenPages}
use Rattle.opfs_desk_steps.specs.declared.parts.parts.DeskParts.{DeskParts}
use Rattle.opfs_desk_entries.specs.Answers.Silent.{BeginsCall}
use Rattle.opfs_desk_steps.specs.Going.{HasTakenIn, HasMadeWay}
use Rattle.opfs_desk_entries.proofs.answers.Unacted.{unacted}
use Rattle.opfs_desk_contents.proofs.unchanged.Entered.{HasDropped, SavingLaws}
use Rattle.opfs_desk_bytes.proofs.reading.Failed.{rows-failed}
use Rattle.opfs_desk_steps.proofs.Counts.{own-length}
use Rattle.opfs_desk_contents.proofs.unchanged.Reader.{CallingLaws}
use Rattle.opfs_desk_contents.proofs.unchanged.Found.{handle-file, handle-stands, one-place, stores-word}
use Rattle.opfs_desk_contents.proofs.unchanged.Stored.{ContentLaws, again-acted, answered, disk, failed-then, found, holds, may-clear, may-store, ready-now, stands, there}
use Rattle.opfs_desk_contents.proofs.unchanged.again.act_store_same_blocks.Goals as goal

pub row_of-row-requires : goal.row_of-row-requires
row_of-row-requires g c = stores-word (machine_in c.args.parts.now.ledger) c.args.call.agent c.args.call.op c.requires.word

pub plan_again-requires-clause-agent : goal.plan_again-requires-clause-agent
plan_again-requires-clause-agent g c =
    let may = c.requires.go in
    (c.calling_laws.ensures.asks.taken may.fixed may.recorded c.args.parts.now.ledger c.args.parts.now.pages c.args.pending.now c.args.call c.args.work.now [] may.are may.asked).agent

pub plan_again-requires-clause-there : goal.plan_again-requires-clause-there
plan_again-requires-clause-there g c =
    let more = c.requires.more in
    let m = machine_in c.args.parts.now.ledger in
    subst (λ (n : ℕ). is_some (row_file m c.args.call.agent n) ≡ true) (sym c.row_of-row.ensures)
    (ap (λ o. is_some o) (handle-file m c.args.call.agent (row_named c.args.call.op) more.handle more.there))

pub plan_again-requires-clause-stands : goal.plan_again-requires-clause-stands
plan_again-requires-clause-stands g c lines place named =
    let may = c.requires.go in
    let more = c.requires.more in
    let l = c.args.parts.now.ledger in
    let found = handle-stands g.D.Disk c.calling_laws.ensures.known may.fixed may.recorded l c.args.parts.now.pages may.are lines c.args.call.agent (row_named c.args.call.op) more.handle more.there in
    let same = sym (handle-file (machine_in l) c.args.call.agent (row_named c.args.call.op) more.handle more.there) ∙ ap (λ (n : ℕ). row_file (machine_in l) c.args.call.agent n) (sym c.row_of-row.ensures) ∙ named in
    subst (λ (q : Place). is_some (file_in_tree q (tree_in l)) ≡ true) (one-place more.handle.file place same) (ap (λ o. is_some o) found.1)

pub take_in-requires : goal.take_in-requires
take_in-requires g c =
    let may = c.requires.go in
    record { may = c.calling_laws.ensures.asks.taken may.fixed may.recorded c.args.parts.now.ledger c.args.parts.now.pages c.args.pending.now c.args.call c.args.work.now [] may.are may.asked }

pub rows-rows-requires : goal.rows-rows-requires
rows-rows-requires g c =
    let may = c.requires.go in
    let w = g.D.Disk in
    let disk_laws = g.met.D.Disk in
    let know = c.calling_laws.ensures in
    let store = c.content_laws.ensures in
    let save = c.saving_laws.ensures in
    let laws : CallingLaws w = record { asks = know.asks; answers = know.answers; decide = know.decide; follow = know.follow; local = know.local; known = know.known } in
    let content : ContentLaws w = record { states = store.states; spelled = store.spelled; fails = store.fails; fits = store.fits; inside = store.inside; files = store.files; between = store.between; falls = disk_laws.falls } in
    let l = c.args.parts.now.ledger in
    let p = c.args.parts.now.pages in
    let call = c.args.call in
    let work = c.args.work.now in
    let calls = c.args.pending.now in
    let mid = c.take_in.new.ledger in
    let is = c.take_in.ensures in
    let begins : BeginsCall w may.fixed may.recorded l p calls call work [] = record { held = may.are; asked = may.asked } in
    let took : HasTakenIn w may.fixed may.recorded l mid p calls call = record {
      taken = record { entries = is.entries; journal = is.journal; place = is.place };
      held = is.held may.fixed may.recorded p may.are may.asked.may.pending;
      prepared = is.prepared call.op may.asked.prepared;
      tree = is.tree;
    } in
    (ready-now w laws content may.fixed may.recorded l mid p calls call work begins c.requires.word c.requires.more took).agent

pub evict_for-requires : goal.evict_for-requires
evict_for-requires g c =
    let may = c.requires.go in
    let w = g.D.Disk in
    let disk_laws = g.met.D.Disk in
    let know = c.calling_laws.ensures in
    let store = c.content_laws.ensures in
    let save = c.saving_laws.ensures in
    let laws : CallingLaws w = record { asks = know.asks; answers = know.answers; decide = know.decide; follow = know.follow; local = know.local; known = know.known } in
    let content : ContentLaws w = record { states = store.states; spelled = store.spelled; fails = store.fails; fits = store.fits; inside = store.inside; files = store.files; between = store.between; falls = disk_laws.falls } in
    let l = c.args.parts.now.ledger in
    let p = c.args.parts.now.pages in
    let call = c.args.call in
    let work = c.args.work.now in
    let calls = c.args.pending.now in
    let mid = c.take_in.new.ledger in
    let is = c.take_in.ensures in
    let begins : BeginsCall w may.fixed may.recorded l p calls call work [] = record { held = may.are; asked = may.asked } in
    let took : HasTakenIn w may.fixed may.recorded l mid p calls call = record {
      taken = record { entries = is.entries; journal = is.journal; place = is.place };
      held = is.held may.fixed may.recorded p may.are may.asked.may.pending;
      prepared = is.prepared call.op may.asked.prepared;
      tree = is.tree;
    } in
    record { may = may-clear w laws content may.fixed may.recorded l mid p calls call work begins c.requires.word c.requires.more took }

pub enter_again-requires-clause-may : goal.enter_again-requires-clause-may
enter_again-requires-clause-may g c =
    let may = c.requires.go in
    let w = g.D.Disk in
    let disk_laws = g.met.D.Disk in
    let know = c.calling_laws.ensures in
    let store = c.content_laws.ensures in
    let save = c.saving_laws.ensures in
    let laws : CallingLaws w = record { asks = know.asks; answers = know.answers; decide = know.decide; follow = know.follow; local = know.local; known = know.known } in
    let content : ContentLaws w = record { states = store.states; spelled = store.spelled; fails = store.fails; fits = store.fits; inside = store.inside; files = store.files; between = store.between; falls = disk_laws.falls } in
    let l = c.args.parts.now.ledger in
    let p = c.args.parts.now.pages in
    let call = c.args.call in
    let work = c.args.work.now in
    let calls = c.args.pending.now in
    let mid = c.take_in.new.ledger in
    let is = c.take_in.ensures in
    let begins : BeginsCall w may.fixed may.recorded l p calls call work [] = record { held = may.are; asked = may.asked } in
    let took : HasTakenIn w may.fixed may.recorded l mid p calls call = record {
      taken = record { entries = is.entries; journal = is.journal; place = is.place };
      held = is.held may.fixed may.recorded p may.are may.asked.may.pending;
      prepared = is.prepared call.op may.asked.prepared;
      tree = is.tree;
    } in
    let back = c.evict_for.new.ledger in
    let clear = c.in-Ok-evict_for.ensures in
    let cleared = clear.cleared may.fixed may.recorded p took.held in
    let way : HasMadeWay w may.fixed mid back p call = record { entries = clear.entries; prepared = clear.prepared; tree = clear.tree; cleared = cleared } in
    let lines = c.know_rows_match_tree.ensures in
    let planned = c.in-Ok.ensures in
    let again = c.in-Ok.again in
    subst (λ (z : Sizes). MayStoreContent w back c.in-Ok-evict_for.last.entry z again.place again.size again.runs None) (sym clear.sizes)
    (subst (λ (e : Entry). MayStoreContent w back e call.sizes again.place again.size again.runs None) (sym clear.entry)
    (may-store w laws content may.fixed may.recorded l mid p calls call work begins c.requires.word c.requires.more took back way lines again.place again.size again.runs
    (ap (λ (n : ℕ). row_file (machine_in l) call.agent n) (sym c.row_of-row.ensures) ∙ planned.file) planned.size planned.runs))

pub enter_again-requires-clause-word : goal.enter_again-requires-clause-word
enter_again-requires-clause-word g c =
    ap (λ (e : Entry). is_storing e.op) c.in-Ok-evict_for.ensures.entry ∙ stores-word (machine_in c.args.parts.now.ledger) c.args.call.agent c.args.call.op c.requires.word

pub enter_again-requires-clause-done : goal.enter_again-requires-clause-done
enter_again-requires-clause-done g c = ap (λ (e : Entry). e.reply) c.in-Ok-evict_for.ensures.entry

pub returns-in_default-clause-idle : goal.returns-in_default-clause-idle
returns-in_default-clause-idle g c f recorded held = unacted g.D.Disk f recorded c.args.parts.now held

pub returns-in-Ok-enter_again-clause-acted : goal.returns-in-Ok-enter_again-clause-acted
returns-in-Ok-enter_again-clause-acted g c f recorded are whole asked =
    let w = g.D.Disk in
    let disk_laws = g.met.D.Disk in
    let know = c.calling_laws.ensures in
    let store = c.content_laws.ensures in
    let save = c.saving_laws.ensures in
    let laws : CallingLaws w = record { asks = know.asks; answers = know.answers; decide = know.decide; follow = know.follow; local = know.local; known = know.known } in
    let content : ContentLaws w = record { states = store.states; spelled = store.spelled; fails = store.fails; fits = store.fits; inside = store.inside; files = store.files; between = store.between; falls = disk_laws.falls } in
    let l = c.args.parts.now.ledger in
    let p = c.args.parts.now.pages in
    let call = c.args.call in
    let work = c.args.work.now in
    let calls = c.args.pending.now in
    let mid = c.take_in.new.ledger in
    let is = c.take_in.ensures in
    let begins : BeginsCall w f recorded l p calls call work [] = record { held = are; asked = asked } in
    let took : HasTakenIn w f recorded l mid p calls call = record {
      taken = record { entries = is.entries; journal = is.journal; place = is.place };
      held = is.held f recorded p are asked.may.pending;
      prepared = is.prepared call.op asked.prepared;
      tree = is.tree;
    } in
    let back = c.evict_for.new.ledger in
    let clear = c.in-Ok-evict_for.ensures in
    let cleared = clear.cleared f recorded p took.held in
    let way : HasMadeWay w f mid back p call = record { entries = clear.entries; prepared = clear.prepared; tree = clear.tree; cleared = cleared } in
    let lines = c.know_rows_match_tree.ensures in
    let planned = c.in-Ok.ensures in
    let again = c.in-Ok.again in
    let base = state_after f.opening mid.books.history in
    let units = units_in call.clearing.items in
    let entry = told_entry (call_in call) reply.Done in
    let of_row = ap (λ (n : ℕ). row_file (machine_in l) call.agent n) (sym c.row_of-row.ensures) ∙ planned.file in
    let new = c.enter_again.new.ledger in
    let is_there = there w laws content f recorded l mid p calls call work begins c.requires.word c.requires.more took back way lines again.place again.size again.runs of_row planned.size planned.runs in
    let row = found w laws content f recorded l mid p calls call work begins c.requires.word c.requires.more took back way lines in
    let can_hold = holds w laws content f recorded l mid p calls call work begins c.requires.word c.requires.more took back way lines again.place again.size again.runs of_row planned.size planned.runs in
    let bytes_stand = stands w laws content f recorded l mid p calls call work begins c.requires.word c.requires.more took back way lines again.place again.size again.runs of_row planned.size planned.runs in
    let come = answered w laws content f recorded l mid p calls call work begins c.requires.word c.requires.more took back way lines in
    let may_come : IsAnswered w base units back c.in-Ok-evict_for.last.entry c.in-Ok-evict_for.sizes =
    subst (λ (z : Sizes). IsAnswered w base units back c.in-Ok-evict_for.last.entry z) (sym clear.sizes) (subst (λ (e : Entry). IsAnswered w base units back e call.sizes) (sym clear.entry) come) in
    let hold_now : CanHold f.geometry.blocks (content_now back c.in-Ok-evict_for.last.entry again.place row again.size again.runs) (book_in back).rows =
    subst (λ (e : Entry). CanHold f.geometry.blocks (content_now back e again.place row again.size again.runs) (book_in back).rows) (sym clear.entry) can_hold in
    let stand_now : BytesStand w f base units back.journal c.in-Ok-evict_for.last.entry (content_now back c.in-Ok-evict_for.last.entry again.place row again.size again.runs) =
    subst (λ (e : Entry). BytesStand w f base units back.journal e (content_now back e again.place row again.size again.runs)) (sym clear.entry) bytes_stand in
    let saving : SavingLaws w = record { laid = save.laid; blocks = save.blocks; trees = save.trees; leave = save.leave; changes = save.changes } in
    let done = c.in-Ok-enter_again.ensures.stored.over f cleared.recorded base units p row (record { are = cleared.are; answered = may_come; there = is_there; holds = hold_now; stands = stand_now }) in
    let stored : HasStored w f base units back new p entry call.sizes None (content_now back entry again.place row again.size again.runs) =
    subst (λ (z : Sizes). HasStored w f base units back new p entry z None (content_now back entry again.place row again.size again.runs)) clear.sizes
    (subst (λ (e : Entry). HasStored w f base units back new p e c.in-Ok-evict_for.sizes None (content_now back e again.place row again.size again.runs)) clear.entry done) in
    let left = c.leave_row.ensures in
    let q : OpenPages = record { swap = c.leave_row.new.swap; space = p.space; base = p.base } in
    again-acted w laws content f recorded l mid p calls call work begins c.requires.word c.requires.more took back way lines again.place again.size again.runs of_row planned.size planned.runs
    saving new stored c.enter_again.ensures.order c.in-Ok-enter_again.ensures.stored.order
    know.moves know.acts save.handles whole save.stand (sym c.pages-pages.ensures.pages ∙ c.pages-pages.ensures.blocks) q
    (λ last. ap (λ s. record p { swap = s }) (left.stays (c.is_last-ends.ensures ∙ last)))
    (λ last. subst (λ (n : ℕ). HasDropped p q call.agent n) c.row_of-row.ensures (record { others = left.others; gone = left.gone (c.is_last-ends.ensures ∙ last); base = refl; space = refl; kept = left.kept }))
    _ (omega (arith, c.rows-rows.ensures.count, c.rows-rows.ensures.few))

pub returns-in-Ok-evict_for-clause-acted : goal.returns-in-Ok-evict_for-clause-acted
returns-in-Ok-evict_for-clause-acted g c f recorded are whole asked =
    let w = g.D.Disk in
    let disk_laws = g.met.D.Disk in
    let know = c.calling_laws.ensures in
    let store = c.content_laws.ensures in
    let save = c.saving_laws.ensures in
    let laws : CallingLaws w = record { asks = know.asks; answers = know.answers; decide = know.decide; follow = know.follow; local = know.local; known = know.known } in
    let content : ContentLaws w = record { states = store.states; spelled = store.spelled; fails = store.fails; fits = store.fits; inside = store.inside; files = store.files; between = store.between; falls = disk_laws.falls } in
    let l = c.args.parts.now.ledger in
    let p = c.args.parts.now.pages in
    let call = c.args.call in
    let work = c.args.work.now in
    let calls = c.args.pending.now in
    let mid = c.take_in.new.ledger in
    let is = c.take_in.ensures in
    let begins : BeginsCall w f recorded l p calls call work [] = record { held = are; asked = asked } in
    let took : HasTakenIn w f recorded l mid p calls call = record {
      taken = record { entries = is.entries; journal = is.journal; place = is.place };
      held = is.held f recorded p are asked.may.pending;
      prepared = is.prepared call.op asked.prepared;
      tree = is.tree;
    } in
    let back = c.evict_for.new.ledger in
    let clear = c.in-Ok-evict_for.ensures in
    let cleared = clear.cleared f recorded p took.held in
    let way : HasMadeWay w f mid back p call = record { entries = clear.entries; prepared = clear.prepared; tree = clear.tree; cleared = cleared } in
    let lines = c.know_rows_match_tree.ensures in
    let planned = c.in-Ok.ensures in
    let again = c.in-Ok.again in
    let base = state_after f.opening mid.books.history in
    let units = units_in call.clearing.items in
    let entry = told_entry (call_in call) reply.Done in
    let of_row = ap (λ (n : ℕ). row_file (machine_in l) call.agent n) (sym c.row_of-row.ensures) ∙ planned.file in
    let new = c.enter_again.new.ledger in
    let is_there = there w laws content f recorded l mid p calls call work begins c.requires.word c.requires.more took back way lines again.place again.size again.runs of_row planned.size planned.runs in
    let row = found w laws content f recorded l mid p calls call work begins c.requires.word c.requires.more took back way lines in
    let can_hold = holds w laws content f recorded l mid p calls call work begins c.requires.word c.requires.more took back way lines again.place again.size again.runs of_row planned.size planned.runs in
    let bytes_stand = stands w laws content f recorded l mid p calls call work begins c.requires.word c.requires.more took back way lines again.place again.size again.runs of_row planned.size planned.runs in
    let come = answered w laws content f recorded l mid p calls call work begins c.requires.word c.requires.more took back way lines in
    let may_come : IsAnswered w base units back c.in-Ok-evict_for.last.entry c.in-Ok-evict_for.sizes =
    subst (λ (z : Sizes). IsAnswered w base units back c.in-Ok-evict_for.last.entry z) (sym clear.sizes) (subst (λ (e : Entry). IsAnswered w base units back e call.sizes) (sym clear.entry) come) in
    let hold_now : CanHold f.geometry.blocks (content_now back c.in-Ok-evict_for.last.entry again.place row again.size again.runs) (book_in back).rows =
    subst (λ (e : Entry). CanHold f.geometry.blocks (content_now back e again.place row again.size again.runs) (book_in back).rows) (sym clear.entry) can_hold in
    let stand_now : BytesStand w f base units back.journal c.in-Ok-evict_for.last.entry (content_now back c.in-Ok-evict_for.last.entry again.place row again.size again.runs) =
    subst (λ (e : Entry). BytesStand w f base units back.journal e (content_now back e again.place row again.size again.runs)) (sym clear.entry) bytes_stand in
    let not_done = c.in-Err-enter_again.ensures.failed.over f cleared.recorded base units p row (record { are = cleared.are; answered = may_come; there = is_there; holds = hold_now; stands = stand_now }) in
    let not : HasNotChanged w f cleared.recorded base units back new p entry (content_now back entry again.place row again.size again.runs) =
    subst (λ (e : Entry). HasNotChanged w f cleared.recorded base units back new p e (content_now back e again.place row again.size again.runs)) clear.entry not_done in
    let fail = failed-then w laws content f recorded l mid p calls call work begins c.requires.word c.requires.more took back way lines again.place again.size again.runs of_row planned.size planned.runs new c.enter_again.ensures.order not in
    let now : DeskParts g.row.D.Denot = record { ledger = new; pages = p } in
    let count = ap (λ (m : Machine). length (agent_of m call.agent).own) took.held.books.machine ∙ own-length base call.agent ∙ sym (rows-failed w f mid new p call reply.Done fail) in
    know.acts.failed f recorded c.args.parts.now now mid calls call reply.Done work work _ are asked.may.pending took.taken fail refl (omega (arith, c.rows-rows.ensures.count, c.rows-rows.ensures.few, count))

pub returns-clause-acted : goal.returns-clause-acted
returns-clause-acted g c f recorded are whole asked =
    let w = g.D.Disk in
    let disk_laws = g.met.D.Disk in
    let know = c.calling_laws.ensures in
    let store = c.content_laws.ensures in
    let save = c.saving_laws.ensures in
    let laws : CallingLaws w = record { asks = know.asks; answers = know.answers; decide = know.decide; follow = know.follow; local = know.local; known = know.known } in
    let content : ContentLaws w = record { states = store.states; spelled = store.spelled; fails = store.fails; fits = store.fits; inside = store.inside; files = store.files; between = store.between; falls = disk_laws.falls } in
    let l = c.args.parts.now.ledger in
    let p = c.args.parts.now.pages in
    let call = c.args.call in
    let work = c.args.work.now in
    let calls = c.args.pending.now in
    let mid = c.take_in.new.ledger in
    let is = c.take_in.ensures in
    let begins : BeginsCall w f recorded l p calls call work [] = record { held = are; asked = asked } in
    let took : HasTakenIn w f recorded l mid p calls call = record {
      taken = record { entries = is.entries; journal = is.journal; place = is.place };
      held = is.held f recorded p are asked.may.pending;
      prepared = is.prepared call.op asked.prepared;
      tree = is.tree;
    } in
    let back = c.evict_for.new.ledger in
    let base = state_after f.opening mid.books.history in
    let then = ready-now w laws content f recorded l mid p calls call work begins c.requires.word c.requires.more took in
    let fail = c.in-Err.ensures.failed f recorded p took.held
    (record { live = then.live; fitting = then.fitting; judged = then.judged; disk = disk w laws content f recorded l mid p calls call work begins c.requires.word c.requires.more took }) in
    let now : DeskParts g.row.D.Denot = record { ledger = back; pages = p } in
    let count = ap (λ (m : Machine). length (agent_of m call.agent).own) took.held.books.machine ∙ own-length base call.agent ∙ sym (rows-failed w f mid back p call reply.Done fail) in
    know.acts.failed f recorded c.args.parts.now now mid calls call reply.Done work work _ are asked.may.pending took.taken fail refl (omega (arith, c.rows-rows.ensures.count, c.rows-rows.ensures.few, count))
