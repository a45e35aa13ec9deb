use Rattle.std.proofs.Common.{[], sym, ◌∙◌, arith}
use Rattle.opfs_machine.specs.Histories.{state_after}
use Rattle.opfs_desk_steps.specs.Going.{HasTakenIn}
use Rattle.opfs_desk_entries.specs.Answers.Silent.{BeginsCall}
use Rattle.opfs_desk_contents.proofs.unchanged.Entered.{SavingLaws}
use Rattle.opfs_desk_contents.proofs.unchanged.Reader.{CallingLaws, agent-is, idle-acted, may-come, word-mid}
use Rattle.opfs_desk_contents.proofs.unchanged.idle.act_idle_flush.Goals as goal

pub take_in-requires : goal.take_in-requires
take_in-requires g c =
    let go = c.requires.go in
    record { may = c.calling_laws.ensures.asks.taken go.fixed go.recorded c.args.parts.now.ledger c.args.parts.now.pages c.args.pending.now c.args.call c.args.work.now [] go.are go.asked }

pub rows-rows-requires : goal.rows-rows-requires
rows-rows-requires g c =
    let w = g.D.Disk in
    let go = c.requires.go in
    let know = c.calling_laws.ensures in
    let laws : CallingLaws w = record { asks = know.asks; answers = know.answers; decide = know.decide; follow = know.follow; local = know.local; known = know.known } in
    let l = c.args.parts.now.ledger in
    let p = c.args.parts.now.pages in
    let mid = c.take_in.new.ledger in
    let is = c.take_in.ensures in
    let begins : BeginsCall w go.fixed go.recorded l p c.args.pending.now c.args.call c.args.work.now [] = record { held = go.are; asked = go.asked } in
    let took : HasTakenIn w go.fixed go.recorded l mid p c.args.pending.now c.args.call = record {
      taken = record { entries = is.entries; journal = is.journal; place = is.place };
      held = is.held go.fixed go.recorded p go.are go.asked.may.pending;
      prepared = is.prepared c.args.call.op go.asked.prepared;
      tree = is.tree;
    } in
    agent-is w laws go.fixed go.recorded l mid p c.args.pending.now c.args.call c.args.work.now begins c.requires.word took

pub enter_idle-requires-clause-may : goal.enter_idle-requires-clause-may
enter_idle-requires-clause-may g c =
    let w = g.D.Disk in
    let go = c.requires.go in
    let know = c.calling_laws.ensures in
    let laws : CallingLaws w = record { asks = know.asks; answers = know.answers; decide = know.decide; follow = know.follow; local = know.local; known = know.known } in
    let l = c.args.parts.now.ledger in
    let p = c.args.parts.now.pages in
    let mid = c.take_in.new.ledger in
    let is = c.take_in.ensures in
    let begins : BeginsCall w go.fixed go.recorded l p c.args.pending.now c.args.call c.args.work.now [] = record { held = go.are; asked = go.asked } in
    let took : HasTakenIn w go.fixed go.recorded l mid p c.args.pending.now c.args.call = record {
      taken = record { entries = is.entries; journal = is.journal; place = is.place };
      held = is.held go.fixed go.recorded p go.are go.asked.may.pending;
      prepared = is.prepared c.args.call.op go.asked.prepared;
      tree = is.tree;
    } in
    record {
      fixed = go.fixed;
      recorded = go.recorded;
      base = state_after go.fixed.opening mid.books.history;
      gone = [];
      pages = p;
      are = took.held;
      answered = may-come w laws go.fixed go.recorded l mid p c.args.pending.now c.args.call c.args.work.now begins c.requires.word took;
    }

pub enter_idle-requires-clause-word : goal.enter_idle-requires-clause-word
enter_idle-requires-clause-word g c =
    let w = g.D.Disk in
    let go = c.requires.go in
    let know = c.calling_laws.ensures in
    let laws : CallingLaws w = record { asks = know.asks; answers = know.answers; decide = know.decide; follow = know.follow; local = know.local; known = know.known } in
    let l = c.args.parts.now.ledger in
    let p = c.args.parts.now.pages in
    let mid = c.take_in.new.ledger in
    let is = c.take_in.ensures in
    let begins : BeginsCall w go.fixed go.recorded l p c.args.pending.now c.args.call c.args.work.now [] = record { held = go.are; asked = go.asked } in
    let took : HasTakenIn w go.fixed go.recorded l mid p c.args.pending.now c.args.call = record {
      taken = record { entries = is.entries; journal = is.journal; place = is.place };
      held = is.held go.fixed go.recorded p go.are go.asked.may.pending;
      prepared = is.prepared c.args.call.op go.asked.prepared;
      tree = is.tree;
    } in
    word-mid w laws go.fixed go.recorded l mid p c.args.pending.now c.args.call c.args.work.now begins c.requires.word took

pub returns-clause-acted : goal.returns-clause-acted
returns-clause-acted g c f recorded are whole asked =
    let w = g.D.Disk in
    let know = c.calling_laws.ensures in
    let save = c.saving_laws.ensures in
    let laws : CallingLaws w = record { asks = know.asks; answers = know.answers; decide = know.decide; follow = know.follow; local = know.local; known = know.known } in
    let saving : SavingLaws w = record { laid = save.laid; blocks = save.blocks; trees = save.trees; leave = save.leave; changes = save.changes } in
    let l = c.args.parts.now.ledger in
    let p = c.args.parts.now.pages in
    let call = c.args.call in
    let mid = c.take_in.new.ledger in
    let is = c.take_in.ensures in
    let begins : BeginsCall w f recorded l p c.args.pending.now call c.args.work.now [] = record { held = are; asked = asked } in
    let took : HasTakenIn w f recorded l mid p c.args.pending.now call = record {
      taken = record { entries = is.entries; journal = is.journal; place = is.place };
      held = is.held f recorded p are asked.may.pending;
      prepared = is.prepared call.op asked.prepared;
      tree = is.tree;
    } in
    let come = may-come w laws f recorded l mid p c.args.pending.now call c.args.work.now begins c.requires.word took in
    let told = c.enter_idle.ensures.told f recorded (state_after f.opening mid.books.history) [] p took.held come in
    idle-acted w laws f recorded l mid p c.args.pending.now call c.args.work.now begins c.requires.word took saving c.enter_idle.new.ledger told c.enter_idle.ensures.order
    save.handles whole save.stand (sym c.pages-pages.ensures.pages ∙ c.pages-pages.ensures.blocks) know.moves know.acts know.shown _ (omega (arith, c.rows-rows.ensures.count, c.rows-rows.ensures.few))
