use Rattle.std.proofs.Common.{[], refl, subst, arith}
use Rattle.opfs_machine.specs.Histories.{state_after}
use Rattle.opfs_machine.specs.Replies.{row_named}
use Rattle.opfs_desk_steps.specs.Parts.Seen.{machine_in}
use Rattle.opfs_desk_steps.specs.declared.parts.parts.OpenPages.{OpenPages}
use Rattle.opfs_desk_steps.specs.declared.parts.parts.DeskParts.{DeskParts}
use Rattle.opfs_desk_steps.specs.Going.{HasTakenIn}
use Rattle.opfs_desk_entries.specs.Answers.Silent.{BeginsCall}
use Rattle.opfs_desk_entries.proofs.releases.Ended.{HasDropped, agent-is, leave-acted, may-come, word-mid}
use Rattle.opfs_desk_entries.proofs.releases.Words.{word-is}
use Rattle.opfs_desk_entries.proofs.releases.leaving.act_close_without_store.Goals as goal

pub row_of-row-requires : goal.row_of-row-requires
row_of-row-requires g c = word-is (machine_in c.args.parts.now.ledger) c.args.call.agent c.args.call.op c.requires.word

pub take_in-requires : goal.take_in-requires
take_in-requires g c = record {
  may =
      let go = c.requires.go in
      c.leaving_laws.ensures.asks.taken go.fixed go.recorded c.args.parts.now.ledger c.args.parts.now.pages c.args.pending.now c.args.call c.args.work.now [] go.are go.asked;
}

pub rows-rows-requires : goal.rows-rows-requires
rows-rows-requires g c =
    let w = g.D.Disk in
    let go = c.requires.go in
    let laws = c.leaving_laws.ensures in
    let l = c.args.parts.now.ledger in
    let p = c.args.parts.now.pages in
    let mid = c.take_in.new.ledger in
    let is = c.take_in.ensures in
    let begins : BeginsCall w go.fixed go.recorded l p c.args.pending.now c.args.call c.args.work.now [] = record { held = go.are; asked = go.asked } in
    let took : HasTakenIn w go.fixed go.recorded l mid p c.args.pending.now c.args.call = record {
      taken = record { entries = is.entries; journal = is.journal; place = is.place };
      held = is.held go.fixed go.recorded p go.are go.asked.may.pending;
      prepared = is.prepared c.args.call.op go.asked.prepared;
      tree = is.tree;
    } in
    agent-is w laws.asks laws.answers laws.decide laws.follow laws.local go.fixed go.recorded l mid p c.args.pending.now c.args.call c.args.work.now [] begins c.requires.word took

pub enter_leave-requires-clause-may : goal.enter_leave-requires-clause-may
enter_leave-requires-clause-may g c =
    let w = g.D.Disk in
    let go = c.requires.go in
    let laws = c.leaving_laws.ensures in
    let l = c.args.parts.now.ledger in
    let p = c.args.parts.now.pages in
    let mid = c.take_in.new.ledger in
    let is = c.take_in.ensures in
    let begins : BeginsCall w go.fixed go.recorded l p c.args.pending.now c.args.call c.args.work.now [] = record { held = go.are; asked = go.asked } in
    let took : HasTakenIn w go.fixed go.recorded l mid p c.args.pending.now c.args.call = record {
      taken = record { entries = is.entries; journal = is.journal; place = is.place };
      held = is.held go.fixed go.recorded p go.are go.asked.may.pending;
      prepared = is.prepared c.args.call.op go.asked.prepared;
      tree = is.tree;
    } in
    record {
      fixed = go.fixed;
      recorded = go.recorded;
      base = state_after go.fixed.opening mid.books.history;
      gone = [];
      pages = p;
      are = took.held;
      answered = may-come w laws.asks laws.answers laws.decide laws.follow laws.local go.fixed go.recorded l mid p c.args.pending.now c.args.call c.args.work.now [] begins c.requires.word took;
    }

pub enter_leave-requires-clause-word : goal.enter_leave-requires-clause-word
enter_leave-requires-clause-word g c =
    let w = g.D.Disk in
    let go = c.requires.go in
    let laws = c.leaving_laws.ensures in
    let l = c.args.parts.now.ledger in
    let p = c.args.parts.now.pages in
    let mid = c.take_in.new.ledger in
    let is = c.take_in.ensures in
    let begins : BeginsCall w go.fixed go.recorded l p c.args.pending.now c.args.call c.args.work.now [] = record { held = go.are; asked = go.asked } in
    let took : HasTakenIn w go.fixed go.recorded l mid p c.args.pending.now c.args.call = record {
      taken = record { entries = is.entries; journal = is.journal; place = is.place };
      held = is.held go.fixed go.recorded p go.are go.asked.may.pending;
      prepared = is.prepared c.args.call.op go.asked.prepared;
      tree = is.tree;
    } in
    word-mid w laws.asks laws.answers laws.decide laws.follow laws.local go.fixed go.recorded l mid p c.args.pending.now c.args.call c.args.work.now [] begins c.requires.word took

pub returns-clause-acted : goal.returns-clause-acted
returns-clause-acted g c f recorded are asked =
    let w = g.D.Disk in
    let laws = c.leaving_laws.ensures in
    let ends = c.ending_laws.ensures in
    let l = c.args.parts.now.ledger in
    let p = c.args.parts.now.pages in
    let call = c.args.call in
    let mid = c.take_in.new.ledger in
    let is = c.take_in.ensures in
    let begins : BeginsCall w f recorded l p c.args.pending.now call c.args.work.now [] = record { held = are; asked = asked } in
    let took : HasTakenIn w f recorded l mid p c.args.pending.now call = record {
      taken = record { entries = is.entries; journal = is.journal; place = is.place };
      held = is.held f recorded p are asked.may.pending;
      prepared = is.prepared call.op asked.prepared;
      tree = is.tree;
    } in
    let come = may-come w laws.asks laws.answers laws.decide laws.follow laws.local f recorded l mid p c.args.pending.now call c.args.work.now [] begins c.requires.word took in
    let told = c.enter_leave.ensures.told f recorded (state_after f.opening mid.books.history) [] p took.held come in
    let q : OpenPages = record { swap = c.drop_row.new.self; space = p.space; base = p.base } in
    let drop = c.drop_row.ensures in
    let dropped : HasDropped p q call.agent (row_named call.op) =
    subst (λ n. HasDropped p q call.agent n) c.row_of-row.ensures (record { others = drop.others; gone = drop.gone; base = refl; space = refl; kept = omega (arith, drop.kept) }) in
    let now : DeskParts g.row.D.Denot = record { ledger = c.enter_leave.new.ledger; pages = q } in
    leave-acted w laws.asks laws.answers laws.decide laws.follow laws.local f recorded l mid p c.args.pending.now call c.args.work.now [] begins c.requires.word took
    c.enter_leave.new.ledger told q dropped c.enter_leave.ensures.order
    laws.rows ends.go_on ends.trees ends.others ends.changes ends.moves laws.acts laws.shown _ (omega (arith, c.rows-rows.ensures.count, c.rows-rows.ensures.few)) c.args.parts.now now refl refl refl
