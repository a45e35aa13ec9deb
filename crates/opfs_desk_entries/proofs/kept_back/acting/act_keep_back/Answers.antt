use Rattle.std.proofs.Common.{◌≡◌, true, [], refl, sym, ap, subst, ◌∙◌, arith}
use Rattle.std.specs.Prelude.{Option, IsTrue}
use Rattle.std.specs.Str.{is_utf8}
use Rattle.opfs_store.specs.Acts.Acting.{told_entry}
use Rattle.opfs_base.specs.Texts.{Text}
use Rattle.opfs_hist.specs.declared.entry.Entry.{Entry}
use Rattle.opfs_hist.specs.declared.reply.Reply.TheVariants as reply
use Rattle.opfs_machine.specs.Agents.{agent_of}
use Rattle.opfs_machine.specs.Histories.{state_after}
use Rattle.opfs_machine.specs.declared.state.Sizes.{Sizes}
use Rattle.opfs_desk_steps.specs.Parts.Answered.{IsAnswered}
use Rattle.opfs_desk_steps.specs.Parts.Seen.{machine_in, call_in, units_in}
use Rattle.opfs_desk_steps.specs.declared.parts.parts.DeskParts.{DeskParts}
use Rattle.opfs_desk_entries.specs.KeptBack.Changing.{HasChanged, HasNotChanged}
use Rattle.opfs_desk_entries.specs.KeptBack.Keeping.{keeps_back, is_well_named, entry_place, entry_name, HasOwnKey}
use Rattle.opfs_desk_steps.specs.Going.{HasTakenIn, HasMadeWay}
use Rattle.opfs_desk_entries.specs.KeptBack.Steps.{BeginsKeeping, change_now}
use Rattle.opfs_desk_entries.proofs.kept_back.Keys.{key-held, key-back, key-own}
use Rattle.opfs_desk_entries.proofs.kept_back.Kept.{ready, answered, keeps-now, rows-failed, failed-then, has-acted}
use Rattle.opfs_desk_entries.proofs.answers.Unacted.{unacted}
use Rattle.opfs_desk_entries.proofs.kept_back.Spelled.{name-valid}
use Rattle.opfs_desk_entries.proofs.kept_back.Words.{kept-word, on-disk}
use Rattle.opfs_desk_entries.proofs.kept_back.acting.act_keep_back.Goals as goal

pub entry_of-requires-clause-word : goal.entry_of-requires-clause-word
entry_of-requires-clause-word g c = kept-word (machine_in c.args.parts.now.ledger) c.args.call.agent c.args.call.op c.requires.word

pub entry_of-requires-clause-name : goal.entry_of-requires-clause-name
entry_of-requires-clause-name g c =
    let m = machine_in c.args.parts.now.ledger in
    let o = c.args.call.op in
    subst (λ (x : Option Text). IsTrue (is_well_named x o)) (sym c.key-key.ensures) (name-valid m _ c.args.call.agent o (units_in c.args.call.clearing.items) c.requires.word c.requires.go.asked.judged)

pub key-key-requires : goal.key-key-requires
key-key-requires g c =
    let may = c.requires.go in
    (c.keeping_laws.ensures.asks.taken may.fixed may.recorded c.args.parts.now.ledger c.args.parts.now.pages c.args.pending.now c.args.call c.args.work.now [] may.are may.asked).agent

pub take_in-requires : goal.take_in-requires
take_in-requires g c = record {
  may =
      let may = c.requires.go in
      c.keeping_laws.ensures.asks.taken may.fixed may.recorded c.args.parts.now.ledger c.args.parts.now.pages c.args.pending.now c.args.call c.args.work.now [] may.are may.asked;
}

pub rows-rows-requires : goal.rows-rows-requires
rows-rows-requires g c =
    let w = g.D.Disk in
    let may = c.requires.go in
    let l = c.args.parts.now.ledger in
    let p = c.args.parts.now.pages in
    let mid = c.take_in.new.ledger in
    let is = c.take_in.ensures in
    let begins : BeginsKeeping w may.fixed may.recorded l p c.args.pending.now c.args.call c.args.work.now = record { held = may.are; asked = may.asked; keeps = c.requires.word; lines = c.know_rows_match_tree.ensures; keyed = key-held w c.keeping_laws.ensures.reads c.keeping_laws.ensures.counts may.fixed may.recorded l p may.are c.args.call.agent } in
    let took : HasTakenIn w may.fixed may.recorded l mid p c.args.pending.now c.args.call =
    record {
      taken = record { entries = is.entries; journal = is.journal; place = is.place };
      held = is.held may.fixed may.recorded p may.are may.asked.may.pending;
      prepared = is.prepared c.args.call.op may.asked.prepared;
      tree = is.tree;
    } in
    (ready w c.keeping_laws.ensures.asks c.keeping_laws.ensures.answers may.fixed may.recorded l mid l p c.args.pending.now c.args.call c.args.work.now begins took).agent

pub evict_for-requires : goal.evict_for-requires
evict_for-requires g c = record {
  may =
      let w = g.D.Disk in
      let may = c.requires.go in
      let l = c.args.parts.now.ledger in
      let p = c.args.parts.now.pages in
      let mid = c.take_in.new.ledger in
      let is = c.take_in.ensures in
      let held = is.held may.fixed may.recorded p may.are may.asked.may.pending in
      let begins : BeginsKeeping w may.fixed may.recorded l p c.args.pending.now c.args.call c.args.work.now = record { held = may.are; asked = may.asked; keeps = c.requires.word; lines = c.know_rows_match_tree.ensures; keyed = key-held w c.keeping_laws.ensures.reads c.keeping_laws.ensures.counts may.fixed may.recorded l p may.are c.args.call.agent } in
      let took : HasTakenIn w may.fixed may.recorded l mid p c.args.pending.now c.args.call =
      record { taken = record { entries = is.entries; journal = is.journal; place = is.place }; held = held; prepared = is.prepared c.args.call.op may.asked.prepared; tree = is.tree } in
      let then = ready w c.keeping_laws.ensures.asks c.keeping_laws.ensures.answers may.fixed may.recorded l mid l p c.args.pending.now c.args.call c.args.work.now begins took in
      c.keeping_laws.ensures.answers.clearing may.fixed may.recorded mid p c.args.call reply.Done held then
      (on-disk (state_after may.fixed.opening mid.books.history) c.args.call.agent c.args.call.op (kept-word (machine_in l) c.args.call.agent c.args.call.op c.requires.word));
}

pub enter_kept-requires-clause-may : goal.enter_kept-requires-clause-may
enter_kept-requires-clause-may g c =
    let w = g.D.Disk in
    let may = c.requires.go in
    let l = c.args.parts.now.ledger in
    let p = c.args.parts.now.pages in
    let mid = c.take_in.new.ledger in
    let back = c.evict_for.new.ledger in
    let is = c.take_in.ensures in
    let clear = c.in-Ok-evict_for.ensures in
    let held = is.held may.fixed may.recorded p may.are may.asked.may.pending in
    let cleared = clear.cleared may.fixed may.recorded p held in
    let base = state_after may.fixed.opening mid.books.history in
    let begins : BeginsKeeping w may.fixed may.recorded l p c.args.pending.now c.args.call c.args.work.now = record { held = may.are; asked = may.asked; keeps = c.requires.word; lines = c.know_rows_match_tree.ensures; keyed = key-held w c.keeping_laws.ensures.reads c.keeping_laws.ensures.counts may.fixed may.recorded l p may.are c.args.call.agent } in
    let took : HasTakenIn w may.fixed may.recorded l mid p c.args.pending.now c.args.call =
    record { taken = record { entries = is.entries; journal = is.journal; place = is.place }; held = held; prepared = is.prepared c.args.call.op may.asked.prepared; tree = is.tree } in
    let way : HasMadeWay w may.fixed mid back p c.args.call = record { entries = clear.entries; prepared = clear.prepared; tree = clear.tree; cleared = cleared } in
    let keyed = key-back w c.keeping_laws.ensures.reads c.keeping_laws.ensures.counts may.fixed may.recorded mid p held c.args.call.agent cleared.recorded (units_in c.args.call.clearing.items) back cleared.are in
    record {
      fixed = may.fixed;
      recorded = cleared.recorded;
      base = base;
      gone = units_in c.args.call.clearing.items;
      pages = p;
      are = cleared.are;
      answered =
          subst (λ (z : Sizes). IsAnswered w base (units_in c.args.call.clearing.items) back c.in-Ok-evict_for.last.entry z) (sym clear.sizes)
          (subst (λ (e : Entry). IsAnswered w base (units_in c.args.call.clearing.items) back e c.args.call.sizes) (sym clear.entry)
          (answered w c.keeping_laws.ensures.asks c.keeping_laws.ensures.answers may.fixed may.recorded l mid back p c.args.pending.now c.args.call c.args.work.now begins took way keyed));
    }

pub enter_kept-requires-clause-word : goal.enter_kept-requires-clause-word
enter_kept-requires-clause-word g c =
    let w = g.D.Disk in
    let may = c.requires.go in
    let l = c.args.parts.now.ledger in
    let p = c.args.parts.now.pages in
    let mid = c.take_in.new.ledger in
    let back = c.evict_for.new.ledger in
    let is = c.take_in.ensures in
    let clear = c.in-Ok-evict_for.ensures in
    let held = is.held may.fixed may.recorded p may.are may.asked.may.pending in
    let begins : BeginsKeeping w may.fixed may.recorded l p c.args.pending.now c.args.call c.args.work.now = record { held = may.are; asked = may.asked; keeps = c.requires.word; lines = c.know_rows_match_tree.ensures; keyed = key-held w c.keeping_laws.ensures.reads c.keeping_laws.ensures.counts may.fixed may.recorded l p may.are c.args.call.agent } in
    let took : HasTakenIn w may.fixed may.recorded l mid p c.args.pending.now c.args.call =
    record { taken = record { entries = is.entries; journal = is.journal; place = is.place }; held = held; prepared = is.prepared c.args.call.op may.asked.prepared; tree = is.tree } in
    let way : HasMadeWay w may.fixed mid back p c.args.call =
    record { entries = clear.entries; prepared = clear.prepared; tree = clear.tree; cleared = clear.cleared may.fixed may.recorded p held } in
    let keyed = key-back w c.keeping_laws.ensures.reads c.keeping_laws.ensures.counts may.fixed may.recorded mid p held c.args.call.agent (clear.cleared may.fixed may.recorded p held).recorded (units_in c.args.call.clearing.items) back (clear.cleared may.fixed may.recorded p held).are in
    subst (λ (e : Entry). keeps_back (machine_in back) e.agent e.op ≡ true) (sym clear.entry)
    (keeps-now w c.keeping_laws.ensures.asks c.keeping_laws.ensures.answers may.fixed may.recorded l mid back p c.args.pending.now c.args.call c.args.work.now begins took way keyed c.know_rows_match_tree-in-Ok-evict_for.ensures)

pub enter_kept-requires-clause-done : goal.enter_kept-requires-clause-done
enter_kept-requires-clause-done g c = ap (λ (e : Entry). e.reply) c.in-Ok-evict_for.ensures.entry

pub enter_kept-requires-clause-place : goal.enter_kept-requires-clause-place
enter_kept-requires-clause-place g c =
    let w = g.D.Disk in
    let may = c.requires.go in
    let l = c.args.parts.now.ledger in
    let p = c.args.parts.now.pages in
    let mid = c.take_in.new.ledger in
    let back = c.evict_for.new.ledger in
    let know = c.keeping_laws.ensures in
    let call = c.args.call in
    let held = c.take_in.ensures.held may.fixed may.recorded p may.are may.asked.may.pending in
    let cleared = c.in-Ok-evict_for.ensures.cleared may.fixed may.recorded p held in
    let was = key-held w know.reads know.counts may.fixed may.recorded l p may.are call.agent in
    let now = key-back w know.reads know.counts may.fixed may.recorded mid p held call.agent cleared.recorded (units_in call.clearing.items) back cleared.are in
    c.in-Ok.ensures.place ∙ ap (λ (x : Option Text). entry_place x call.op) (c.key-key.ensures ∙ was ∙ sym now)
    ∙ ap (λ (e : Entry). entry_place (agent_of (machine_in back) e.agent).key e.op) (sym c.in-Ok-evict_for.ensures.entry)

pub enter_kept-requires-clause-keys : goal.enter_kept-requires-clause-keys
enter_kept-requires-clause-keys g c =
    let w = g.D.Disk in
    let may = c.requires.go in
    let p = c.args.parts.now.pages in
    let mid = c.take_in.new.ledger in
    let back = c.evict_for.new.ledger in
    let know = c.keeping_laws.ensures in
    let call = c.args.call in
    let held = c.take_in.ensures.held may.fixed may.recorded p may.are may.asked.may.pending in
    let cleared = c.in-Ok-evict_for.ensures.cleared may.fixed may.recorded p held in
    subst (λ (e : Entry). HasOwnKey (agent_of (machine_in back) e.agent).key) (sym c.in-Ok-evict_for.ensures.entry)
    (key-own w know.reads know.counts may.fixed may.recorded mid p held call.agent cleared.recorded (units_in call.clearing.items) back cleared.are)

pub enter_kept-requires-clause-text : goal.enter_kept-requires-clause-text
enter_kept-requires-clause-text g c =
    subst (λ (e : Entry). is_utf8 (entry_name e.op) ≡ true) (sym c.in-Ok-evict_for.ensures.entry) c.entry_of.ensures.text

pub returns-in_default-clause-idle : goal.returns-in_default-clause-idle
returns-in_default-clause-idle g c f recorded held = unacted g.D.Disk f recorded c.args.parts.now held

pub returns-in-Ok-enter_kept-clause-acted : goal.returns-in-Ok-enter_kept-clause-acted
returns-in-Ok-enter_kept-clause-acted g c f recorded held asked =
    let w = g.D.Disk in
    let laws = g.met.D.Disk in
    let l = c.args.parts.now.ledger in
    let p = c.args.parts.now.pages in
    let call = c.args.call in
    let mid = c.take_in.new.ledger in
    let back = c.evict_for.new.ledger in
    let new = c.enter_kept.new.ledger in
    let is = c.take_in.ensures in
    let clear = c.in-Ok-evict_for.ensures in
    let know = c.keeping_laws.ensures in
    let mid_held = is.held f recorded p held asked.may.pending in
    let cleared = clear.cleared f recorded p mid_held in
    let base = state_after f.opening mid.books.history in
    let begins : BeginsKeeping w f recorded l p c.args.pending.now call c.args.work.now = record { held = held; asked = asked; keeps = c.requires.word; lines = c.know_rows_match_tree.ensures; keyed = key-held w know.reads know.counts f recorded l p held call.agent } in
    let took : HasTakenIn w f recorded l mid p c.args.pending.now call =
    record { taken = record { entries = is.entries; journal = is.journal; place = is.place }; held = mid_held; prepared = is.prepared call.op asked.prepared; tree = is.tree } in
    let way : HasMadeWay w f mid back p call = record { entries = clear.entries; prepared = clear.prepared; tree = clear.tree; cleared = cleared } in
    let keyed = key-back w know.reads know.counts f recorded mid p mid_held call.agent cleared.recorded (units_in call.clearing.items) back cleared.are in
    let may_come : IsAnswered w base (units_in call.clearing.items) back c.in-Ok-evict_for.last.entry c.in-Ok-evict_for.sizes =
    subst (λ (z : Sizes). IsAnswered w base (units_in call.clearing.items) back c.in-Ok-evict_for.last.entry z) (sym clear.sizes)
    (subst (λ (e : Entry). IsAnswered w base (units_in call.clearing.items) back e call.sizes) (sym clear.entry)
    (answered w know.asks know.answers f recorded l mid back p c.args.pending.now call c.args.work.now begins took way keyed)) in
    let changed : HasChanged w f cleared.recorded base (units_in call.clearing.items) back new p (told_entry (call_in call) reply.Done) call.sizes (change_now back (told_entry (call_in call) reply.Done)) =
    subst (λ (z : Sizes). HasChanged w f cleared.recorded base (units_in call.clearing.items) back new p (told_entry (call_in call) reply.Done) z (change_now back (told_entry (call_in call) reply.Done))) clear.sizes
    (subst (λ (e : Entry). HasChanged w f cleared.recorded base (units_in call.clearing.items) back new p e c.in-Ok-evict_for.sizes (change_now back e)) clear.entry
    (c.in-Ok-enter_kept.ensures.done f cleared.recorded base (units_in call.clearing.items) p cleared.are may_come)) in
    has-acted w know.asks know.answers f recorded l mid back p c.args.pending.now call c.args.work.now begins took way keyed c.enter_kept.ensures.tidy know.states know.spelled know.fails laws.falls know.acts new changed
    c.in-Ok-enter_kept.ensures.order c.what_is_laid_goes_on.ensures.beside c.keeping_laws.ensures.blocks _ (omega (arith, c.rows-rows.ensures.count, c.rows-rows.ensures.few))

pub returns-in-Ok-evict_for-clause-acted : goal.returns-in-Ok-evict_for-clause-acted
returns-in-Ok-evict_for-clause-acted g c f recorded held asked =
    let w = g.D.Disk in
    let laws = g.met.D.Disk in
    let l = c.args.parts.now.ledger in
    let p = c.args.parts.now.pages in
    let call = c.args.call in
    let mid = c.take_in.new.ledger in
    let back = c.evict_for.new.ledger in
    let new = c.enter_kept.new.ledger in
    let is = c.take_in.ensures in
    let clear = c.in-Ok-evict_for.ensures in
    let know = c.keeping_laws.ensures in
    let mid_held = is.held f recorded p held asked.may.pending in
    let cleared = clear.cleared f recorded p mid_held in
    let base = state_after f.opening mid.books.history in
    let begins : BeginsKeeping w f recorded l p c.args.pending.now call c.args.work.now = record { held = held; asked = asked; keeps = c.requires.word; lines = c.know_rows_match_tree.ensures; keyed = key-held w know.reads know.counts f recorded l p held call.agent } in
    let took : HasTakenIn w f recorded l mid p c.args.pending.now call =
    record { taken = record { entries = is.entries; journal = is.journal; place = is.place }; held = mid_held; prepared = is.prepared call.op asked.prepared; tree = is.tree } in
    let way : HasMadeWay w f mid back p call = record { entries = clear.entries; prepared = clear.prepared; tree = clear.tree; cleared = cleared } in
    let keyed = key-back w know.reads know.counts f recorded mid p mid_held call.agent cleared.recorded (units_in call.clearing.items) back cleared.are in
    let may_come : IsAnswered w base (units_in call.clearing.items) back c.in-Ok-evict_for.last.entry c.in-Ok-evict_for.sizes =
    subst (λ (z : Sizes). IsAnswered w base (units_in call.clearing.items) back c.in-Ok-evict_for.last.entry z) (sym clear.sizes)
    (subst (λ (e : Entry). IsAnswered w base (units_in call.clearing.items) back e call.sizes) (sym clear.entry)
    (answered w know.asks know.answers f recorded l mid back p c.args.pending.now call c.args.work.now begins took way keyed)) in
    let not : HasNotChanged w f cleared.recorded base (units_in call.clearing.items) back new p (told_entry (call_in call) reply.Done) (change_now back (told_entry (call_in call) reply.Done)) =
    subst (λ (e : Entry). HasNotChanged w f cleared.recorded base (units_in call.clearing.items) back new p e (change_now back e)) clear.entry
    (c.in-Err-enter_kept.ensures.failed f cleared.recorded base (units_in call.clearing.items) p cleared.are may_come) in
    let fail = failed-then w know.asks know.answers f recorded l mid back p c.args.pending.now call c.args.work.now begins took way keyed c.enter_kept.ensures.tidy know.states know.spelled know.fails laws.falls know.acts new not in
    let now : DeskParts g.row.D.Denot = record { ledger = new; pages = p } in
    know.acts.failed f recorded c.args.parts.now now mid c.args.pending.now call reply.Done c.args.work.now c.args.work.now _ held asked.may.pending took.taken fail refl (omega (arith, c.rows-rows.ensures.count, c.rows-rows.ensures.few, rows-failed w know.asks know.answers f recorded l mid back p c.args.pending.now call c.args.work.now begins took new p fail))

pub returns-clause-acted : goal.returns-clause-acted
returns-clause-acted g c f recorded held asked =
    let w = g.D.Disk in
    let l = c.args.parts.now.ledger in
    let p = c.args.parts.now.pages in
    let call = c.args.call in
    let mid = c.take_in.new.ledger in
    let back = c.evict_for.new.ledger in
    let is = c.take_in.ensures in
    let know = c.keeping_laws.ensures in
    let mid_held = is.held f recorded p held asked.may.pending in
    let base = state_after f.opening mid.books.history in
    let begins : BeginsKeeping w f recorded l p c.args.pending.now call c.args.work.now = record { held = held; asked = asked; keeps = c.requires.word; lines = c.know_rows_match_tree.ensures; keyed = key-held w know.reads know.counts f recorded l p held call.agent } in
    let took : HasTakenIn w f recorded l mid p c.args.pending.now call =
    record { taken = record { entries = is.entries; journal = is.journal; place = is.place }; held = mid_held; prepared = is.prepared call.op asked.prepared; tree = is.tree } in
    let then = ready w know.asks know.answers f recorded l mid back p c.args.pending.now call c.args.work.now begins took in
    let fail = c.in-Err.ensures.failed f recorded p mid_held
    (record { live = then.live; fitting = then.fitting; judged = then.judged; disk = on-disk base call.agent call.op (kept-word (machine_in l) call.agent call.op c.requires.word) }) in
    let now : DeskParts g.row.D.Denot = record { ledger = back; pages = p } in
    know.acts.failed f recorded c.args.parts.now now mid c.args.pending.now call reply.Done c.args.work.now c.args.work.now _ held asked.may.pending took.taken fail refl (omega (arith, c.rows-rows.ensures.count, c.rows-rows.ensures.few, rows-failed w know.asks know.answers f recorded l mid back p c.args.pending.now call c.args.work.now begins took back p fail))
