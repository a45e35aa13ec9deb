use Rattle.std.proofs.Common.{◌≡◌, true, [], is_some, refl, sym, ap, subst, ◌∙◌, arith}
use Rattle.std.specs.Prelude.{Option}
use Rattle.std.specs.Str.{is_utf8}
use Rattle.opfs_store.specs.Acts.Acting.{told_entry}
use Rattle.opfs_base.specs.Texts.{Text}
use Rattle.opfs_hist.specs.declared.entry.Entry.{Entry}
use Rattle.opfs_hist.specs.declared.reply.Reply.TheVariants as reply
use Rattle.opfs_machine.specs.Agents.{agent_of}
use Rattle.opfs_machine.specs.Histories.{state_after}
use Rattle.opfs_machine.specs.declared.state.Sizes.{Sizes}
use Rattle.opfs_desk_steps.specs.Parts.Answered.{IsAnswered}
use Rattle.opfs_desk_steps.specs.Parts.Seen.{machine_in, tree_in, call_in, units_in}
use Rattle.opfs_desk_steps.specs.declared.parts.parts.DeskParts.{DeskParts}
use Rattle.opfs_desk_entries.specs.KeptBack.Changing.{HasChanged, HasNotChanged}
use Rattle.opfs_desk_entries.specs.KeptBack.Keeping.{HasOwnKey}
use Rattle.opfs_desk_steps.specs.Going.{HasTakenIn, HasMadeWay}
use Rattle.opfs_desk_entries.proofs.kept_back.Keys.{key-held, key-back, key-own}
use Rattle.opfs_desk_entries.proofs.answers.Unacted.{unacted}
use Rattle.opfs_desk_entries.proofs.kept_back.Through.{ready, answered, rows-failed, failed-then, has-acted}
use Rattle.opfs_desk_entries.specs.Buckets.Granting.{gives_mode, bucket_named, unit_named, mode_now}
use Rattle.opfs_desk_entries.proofs.buckets.Granted.{its-reply, gives-now}
use Rattle.opfs_desk_entries.proofs.buckets.Modes.{gives-word, gives-key, quiet-persist, no-more, spelled-mode}
use Rattle.opfs_desk_entries.proofs.buckets.granting.act_persist.Goals as goal

pub key-key-requires : goal.key-key-requires
key-key-requires g c =
    let may = c.requires.go in
    (c.granting_laws.ensures.asks.taken may.fixed may.recorded c.args.parts.now.ledger c.args.parts.now.pages c.args.pending.now c.args.call c.args.work.now [] may.are may.asked).agent

pub unit_in-requires-clause-word : goal.unit_in-requires-clause-word
unit_in-requires-clause-word g c = gives-word (machine_in c.args.parts.now.ledger) c.args.call.agent c.args.call.op c.requires.word

pub unit_in-requires-clause-keyed : goal.unit_in-requires-clause-keyed
unit_in-requires-clause-keyed g c =
    ap (λ (x : Option Text). is_some x) c.key-key.ensures ∙ gives-key (machine_in c.args.parts.now.ledger) c.args.call.agent c.args.call.op c.requires.word

pub take_in-requires : goal.take_in-requires
take_in-requires g c = record {
  may =
      let may = c.requires.go in
      c.granting_laws.ensures.asks.taken may.fixed may.recorded c.args.parts.now.ledger c.args.parts.now.pages c.args.pending.now c.args.call c.args.work.now [] may.are may.asked;
}

pub rows-rows-requires : goal.rows-rows-requires
rows-rows-requires g c =
    let w = g.D.Disk in
    let may = c.requires.go in
    let l = c.args.parts.now.ledger in
    let p = c.args.parts.now.pages in
    let call = c.args.call in
    let mid = c.take_in.new.ledger in
    let is = c.take_in.ensures in
    let know = c.granting_laws.ensures in
    let words = quiet-persist call.agent call.op (gives-word (machine_in l) call.agent call.op c.requires.word) in
    let took : HasTakenIn w may.fixed may.recorded l mid p c.args.pending.now call =
    record { taken = record { entries = is.entries; journal = is.journal; place = is.place }; held = is.held may.fixed may.recorded p may.are may.asked.may.pending; prepared = is.prepared call.op may.asked.prepared; tree = is.tree } in
    (ready w know.asks know.answers may.fixed may.recorded l mid l p c.args.pending.now call c.args.work.now (reply.Flag true) may.are may.asked took words).agent

pub evict_for-requires : goal.evict_for-requires
evict_for-requires g c = record {
  may =
      let w = g.D.Disk in
      let may = c.requires.go in
      let l = c.args.parts.now.ledger in
      let p = c.args.parts.now.pages in
      let call = c.args.call in
      let mid = c.take_in.new.ledger in
      let is = c.take_in.ensures in
      let know = c.granting_laws.ensures in
      let held = is.held may.fixed may.recorded p may.are may.asked.may.pending in
      let words = quiet-persist call.agent call.op (gives-word (machine_in l) call.agent call.op c.requires.word) in
      let took : HasTakenIn w may.fixed may.recorded l mid p c.args.pending.now call =
      record { taken = record { entries = is.entries; journal = is.journal; place = is.place }; held = held; prepared = is.prepared call.op may.asked.prepared; tree = is.tree } in
      let then = ready w know.asks know.answers may.fixed may.recorded l mid l p c.args.pending.now call c.args.work.now (reply.Flag true) may.are may.asked took words in
      know.answers.clearing may.fixed may.recorded mid p call (reply.Flag true) held then (words.disk (state_after may.fixed.opening mid.books.history));
}

pub enter_mode-requires-clause-may : goal.enter_mode-requires-clause-may
enter_mode-requires-clause-may g c =
    let w = g.D.Disk in
    let may = c.requires.go in
    let l = c.args.parts.now.ledger in
    let p = c.args.parts.now.pages in
    let call = c.args.call in
    let mid = c.take_in.new.ledger in
    let back = c.evict_for.new.ledger in
    let is = c.take_in.ensures in
    let clear = c.in-Ok-evict_for.ensures in
    let know = c.granting_laws.ensures in
    let held = is.held may.fixed may.recorded p may.are may.asked.may.pending in
    let cleared = clear.cleared may.fixed may.recorded p held in
    let base = state_after may.fixed.opening mid.books.history in
    let agent = (know.asks.taken may.fixed may.recorded l p c.args.pending.now call c.args.work.now [] may.are may.asked).agent in
    let words = quiet-persist call.agent call.op (gives-word (machine_in l) call.agent call.op c.requires.word) in
    let took : HasTakenIn w may.fixed may.recorded l mid p c.args.pending.now call =
    record { taken = record { entries = is.entries; journal = is.journal; place = is.place }; held = held; prepared = is.prepared call.op may.asked.prepared; tree = is.tree } in
    let its = its-reply w know.follow know.local know.reads know.counts may.fixed may.recorded l mid p c.args.pending.now call c.args.work.now may.are may.asked agent took c.requires.word in
    let way : HasMadeWay w may.fixed mid back p call = record { entries = clear.entries; prepared = clear.prepared; tree = clear.tree; cleared = cleared } in
    let keyed = key-back w know.reads know.counts may.fixed may.recorded mid p held call.agent cleared.recorded (units_in call.clearing.items) back cleared.are in
    record {
      fixed = may.fixed;
      recorded = cleared.recorded;
      base = base;
      gone = units_in call.clearing.items;
      pages = p;
      are = cleared.are;
      answered =
          subst (λ (z : Sizes). IsAnswered w base (units_in call.clearing.items) back c.in-Ok-evict_for.last.entry z) (sym clear.sizes)
          (subst (λ (e : Entry). IsAnswered w base (units_in call.clearing.items) back e call.sizes) (sym clear.entry)
          (answered w know.asks know.answers may.fixed may.recorded l mid back p c.args.pending.now call c.args.work.now (reply.Flag true) may.are may.asked took words its way));
    }

pub enter_mode-requires-clause-word : goal.enter_mode-requires-clause-word
enter_mode-requires-clause-word g c =
    let w = g.D.Disk in
    let may = c.requires.go in
    let l = c.args.parts.now.ledger in
    let p = c.args.parts.now.pages in
    let call = c.args.call in
    let mid = c.take_in.new.ledger in
    let back = c.evict_for.new.ledger in
    let is = c.take_in.ensures in
    let clear = c.in-Ok-evict_for.ensures in
    let know = c.granting_laws.ensures in
    let held = is.held may.fixed may.recorded p may.are may.asked.may.pending in
    let cleared = clear.cleared may.fixed may.recorded p held in
    let agent = (know.asks.taken may.fixed may.recorded l p c.args.pending.now call c.args.work.now [] may.are may.asked).agent in
    let took : HasTakenIn w may.fixed may.recorded l mid p c.args.pending.now call =
    record { taken = record { entries = is.entries; journal = is.journal; place = is.place }; held = held; prepared = is.prepared call.op may.asked.prepared; tree = is.tree } in
    let way : HasMadeWay w may.fixed mid back p call = record { entries = clear.entries; prepared = clear.prepared; tree = clear.tree; cleared = cleared } in
    let keyed = key-back w know.reads know.counts may.fixed may.recorded mid p held call.agent cleared.recorded (units_in call.clearing.items) back cleared.are in
    subst (λ (e : Entry). gives_mode (machine_in back) e.agent e.op ≡ true) (sym clear.entry)
    (gives-now w know.follow know.local know.reads know.counts may.fixed may.recorded l mid p c.args.pending.now call c.args.work.now may.are may.asked agent took c.requires.word back way keyed)

pub enter_mode-requires-clause-flag : goal.enter_mode-requires-clause-flag
enter_mode-requires-clause-flag g c = ap (λ (e : Entry). e.reply) c.in-Ok-evict_for.ensures.entry

pub enter_mode-requires-clause-unit : goal.enter_mode-requires-clause-unit
enter_mode-requires-clause-unit g c =
    let w = g.D.Disk in
    let may = c.requires.go in
    let l = c.args.parts.now.ledger in
    let p = c.args.parts.now.pages in
    let mid = c.take_in.new.ledger in
    let back = c.evict_for.new.ledger in
    let know = c.granting_laws.ensures in
    let call = c.args.call in
    let held = c.take_in.ensures.held may.fixed may.recorded p may.are may.asked.may.pending in
    let cleared = c.in-Ok-evict_for.ensures.cleared may.fixed may.recorded p held in
    let was = key-held w know.reads know.counts may.fixed may.recorded l p may.are call.agent in
    let now = key-back w know.reads know.counts may.fixed may.recorded mid p held call.agent cleared.recorded (units_in call.clearing.items) back cleared.are in
    c.in-Ok.ensures.unit ∙ ap (λ (x : Option Text). unit_named x call.op) (c.key-key.ensures ∙ was ∙ sym now)
    ∙ ap (λ (e : Entry). unit_named (agent_of (machine_in back) e.agent).key e.op) (sym c.in-Ok-evict_for.ensures.entry)

pub enter_mode-requires-clause-keys : goal.enter_mode-requires-clause-keys
enter_mode-requires-clause-keys g c =
    let w = g.D.Disk in
    let may = c.requires.go in
    let p = c.args.parts.now.pages in
    let mid = c.take_in.new.ledger in
    let back = c.evict_for.new.ledger in
    let know = c.granting_laws.ensures in
    let call = c.args.call in
    let held = c.take_in.ensures.held may.fixed may.recorded p may.are may.asked.may.pending in
    let cleared = c.in-Ok-evict_for.ensures.cleared may.fixed may.recorded p held in
    subst (λ (e : Entry). HasOwnKey (agent_of (machine_in back) e.agent).key) (sym c.in-Ok-evict_for.ensures.entry)
    (key-own w know.reads know.counts may.fixed may.recorded mid p held call.agent cleared.recorded (units_in call.clearing.items) back cleared.are)

pub enter_mode-requires-clause-text : goal.enter_mode-requires-clause-text
enter_mode-requires-clause-text g c =
    subst (λ (e : Entry). is_utf8 (bucket_named e.op) ≡ true) (sym c.in-Ok-evict_for.ensures.entry) c.unit_in.ensures.text

pub returns-in_default-clause-idle : goal.returns-in_default-clause-idle
returns-in_default-clause-idle g c f recorded held = unacted g.D.Disk f recorded c.args.parts.now held

pub returns-in-Ok-enter_mode-clause-acted : goal.returns-in-Ok-enter_mode-clause-acted
returns-in-Ok-enter_mode-clause-acted g c f recorded held asked =
    let w = g.D.Disk in
    let laws = g.met.D.Disk in
    let l = c.args.parts.now.ledger in
    let p = c.args.parts.now.pages in
    let call = c.args.call in
    let mid = c.take_in.new.ledger in
    let back = c.evict_for.new.ledger in
    let new = c.enter_mode.new.ledger in
    let is = c.take_in.ensures in
    let clear = c.in-Ok-evict_for.ensures in
    let know = c.granting_laws.ensures in
    let e = told_entry (call_in call) (reply.Flag true) in
    let units = units_in call.clearing.items in
    let mid_held = is.held f recorded p held asked.may.pending in
    let cleared = clear.cleared f recorded p mid_held in
    let base = state_after f.opening mid.books.history in
    let agent = (know.asks.taken f recorded l p c.args.pending.now call c.args.work.now [] held asked).agent in
    let word = gives-word (machine_in l) call.agent call.op c.requires.word in
    let words = quiet-persist call.agent call.op word in
    let took : HasTakenIn w f recorded l mid p c.args.pending.now call =
    record { taken = record { entries = is.entries; journal = is.journal; place = is.place }; held = mid_held; prepared = is.prepared call.op asked.prepared; tree = is.tree } in
    let its = its-reply w know.follow know.local know.reads know.counts f recorded l mid p c.args.pending.now call c.args.work.now held asked agent took c.requires.word in
    let way : HasMadeWay w f mid back p call = record { entries = clear.entries; prepared = clear.prepared; tree = clear.tree; cleared = cleared } in
    let keyed = key-back w know.reads know.counts f recorded mid p mid_held call.agent cleared.recorded units back cleared.are in
    let gives = gives-now w know.follow know.local know.reads know.counts f recorded l mid p c.args.pending.now call c.args.work.now held asked agent took c.requires.word back way keyed in
    let may_come : IsAnswered w base units back c.in-Ok-evict_for.last.entry c.in-Ok-evict_for.sizes =
    subst (λ (z : Sizes). IsAnswered w base units back c.in-Ok-evict_for.last.entry z) (sym clear.sizes)
    (subst (λ (x : Entry). IsAnswered w base units back x call.sizes) (sym clear.entry)
    (answered w know.asks know.answers f recorded l mid back p c.args.pending.now call c.args.work.now (reply.Flag true) held asked took words its way)) in
    let changed : HasChanged w f cleared.recorded base units back new p e call.sizes (mode_now back e) =
    subst (λ (z : Sizes). HasChanged w f cleared.recorded base units back new p e z (mode_now back e)) clear.sizes
    (subst (λ (x : Entry). HasChanged w f cleared.recorded base units back new p x c.in-Ok-evict_for.sizes (mode_now back x)) clear.entry
    (c.in-Ok-enter_mode.ensures.done f cleared.recorded base units p cleared.are may_come)) in
    has-acted w know.asks know.answers f recorded l mid back p c.args.pending.now call c.args.work.now (reply.Flag true) held asked took words its way
    c.enter_mode.ensures.tidy (mode_now back e) (spelled-mode (machine_in back) (tree_in back) call.agent call.op call.sizes gives) know.states know.spelled know.fails laws.falls new changed
    (no-more (machine_in back) (tree_in back) call.agent call.op call.sizes word) c.what_is_laid_goes_on.ensures.beside know.blocks know.acts _ (omega (arith, c.rows-rows.ensures.count, c.rows-rows.ensures.few))

pub returns-in-Ok-evict_for-clause-acted : goal.returns-in-Ok-evict_for-clause-acted
returns-in-Ok-evict_for-clause-acted g c f recorded held asked =
    let w = g.D.Disk in
    let laws = g.met.D.Disk in
    let l = c.args.parts.now.ledger in
    let p = c.args.parts.now.pages in
    let call = c.args.call in
    let mid = c.take_in.new.ledger in
    let back = c.evict_for.new.ledger in
    let new = c.enter_mode.new.ledger in
    let is = c.take_in.ensures in
    let clear = c.in-Ok-evict_for.ensures in
    let know = c.granting_laws.ensures in
    let e = told_entry (call_in call) (reply.Flag true) in
    let units = units_in call.clearing.items in
    let mid_held = is.held f recorded p held asked.may.pending in
    let cleared = clear.cleared f recorded p mid_held in
    let base = state_after f.opening mid.books.history in
    let agent = (know.asks.taken f recorded l p c.args.pending.now call c.args.work.now [] held asked).agent in
    let words = quiet-persist call.agent call.op (gives-word (machine_in l) call.agent call.op c.requires.word) in
    let took : HasTakenIn w f recorded l mid p c.args.pending.now call =
    record { taken = record { entries = is.entries; journal = is.journal; place = is.place }; held = mid_held; prepared = is.prepared call.op asked.prepared; tree = is.tree } in
    let its = its-reply w know.follow know.local know.reads know.counts f recorded l mid p c.args.pending.now call c.args.work.now held asked agent took c.requires.word in
    let way : HasMadeWay w f mid back p call = record { entries = clear.entries; prepared = clear.prepared; tree = clear.tree; cleared = cleared } in
    let keyed = key-back w know.reads know.counts f recorded mid p mid_held call.agent cleared.recorded units back cleared.are in
    let gives = gives-now w know.follow know.local know.reads know.counts f recorded l mid p c.args.pending.now call c.args.work.now held asked agent took c.requires.word back way keyed in
    let may_come : IsAnswered w base units back c.in-Ok-evict_for.last.entry c.in-Ok-evict_for.sizes =
    subst (λ (z : Sizes). IsAnswered w base units back c.in-Ok-evict_for.last.entry z) (sym clear.sizes)
    (subst (λ (x : Entry). IsAnswered w base units back x call.sizes) (sym clear.entry)
    (answered w know.asks know.answers f recorded l mid back p c.args.pending.now call c.args.work.now (reply.Flag true) held asked took words its way)) in
    let not : HasNotChanged w f cleared.recorded base units back new p e (mode_now back e) =
    subst (λ (x : Entry). HasNotChanged w f cleared.recorded base units back new p x (mode_now back x)) clear.entry
    (c.in-Err-enter_mode.ensures.failed f cleared.recorded base units p cleared.are may_come) in
    let fail =
    failed-then w know.asks know.answers f recorded l mid back p c.args.pending.now call c.args.work.now (reply.Flag true) held asked took words its way
    c.enter_mode.ensures.tidy (mode_now back e) (spelled-mode (machine_in back) (tree_in back) call.agent call.op call.sizes gives) know.states know.spelled know.fails laws.falls new not in
    let now : DeskParts g.row.D.Denot = record { ledger = new; pages = p } in
    know.acts.failed f recorded c.args.parts.now now mid c.args.pending.now call (reply.Flag true) c.args.work.now c.args.work.now _ held asked.may.pending took.taken fail refl
    (omega (arith, c.rows-rows.ensures.count, c.rows-rows.ensures.few, rows-failed w know.asks know.answers f recorded l mid back p c.args.pending.now call c.args.work.now (reply.Flag true) held asked took words new p fail))

pub returns-clause-acted : goal.returns-clause-acted
returns-clause-acted g c f recorded held asked =
    let w = g.D.Disk in
    let l = c.args.parts.now.ledger in
    let p = c.args.parts.now.pages in
    let call = c.args.call in
    let mid = c.take_in.new.ledger in
    let back = c.evict_for.new.ledger in
    let is = c.take_in.ensures in
    let know = c.granting_laws.ensures in
    let mid_held = is.held f recorded p held asked.may.pending in
    let base = state_after f.opening mid.books.history in
    let words = quiet-persist call.agent call.op (gives-word (machine_in l) call.agent call.op c.requires.word) in
    let took : HasTakenIn w f recorded l mid p c.args.pending.now call =
    record { taken = record { entries = is.entries; journal = is.journal; place = is.place }; held = mid_held; prepared = is.prepared call.op asked.prepared; tree = is.tree } in
    let then = ready w know.asks know.answers f recorded l mid back p c.args.pending.now call c.args.work.now (reply.Flag true) held asked took words in
    let fail = c.in-Err.ensures.failed f recorded p mid_held (record { live = then.live; fitting = then.fitting; judged = then.judged; disk = words.disk base }) in
    let now : DeskParts g.row.D.Denot = record { ledger = back; pages = p } in
    know.acts.failed f recorded c.args.parts.now now mid c.args.pending.now call (reply.Flag true) c.args.work.now c.args.work.now _ held asked.may.pending took.taken fail refl
    (omega (arith, c.rows-rows.ensures.count, c.rows-rows.ensures.few, rows-failed w know.asks know.answers f recorded l mid back p c.args.pending.now call c.args.work.now (reply.Flag true) held asked took words back p fail))
