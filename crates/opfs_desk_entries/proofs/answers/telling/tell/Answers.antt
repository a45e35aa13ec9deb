use Rattle.std.proofs.Common.{[], refl, arith}
use Rattle.opfs_machine.specs.Histories.{state_after}
use Rattle.opfs_desk_steps.specs.Parts.Seen.{machine_in, tree_in}
use Rattle.opfs_desk_steps.specs.declared.parts.parts.DeskParts.{DeskParts}
use Rattle.opfs_desk_steps.specs.Going.{HasTakenIn}
use Rattle.opfs_desk_entries.specs.Answers.Silent.{BeginsCall}
use Rattle.opfs_desk_entries.proofs.answers.TellsOnly.{agent-is, may-come, only, tell-acted}
use Rattle.opfs_desk_entries.proofs.answers.Words.{silent}
use Rattle.opfs_desk_entries.proofs.answers.telling.tell.Goals as goal

pub take_in-requires : goal.take_in-requires
take_in-requires g c = record {
  may =
      let may = c.requires.may in
      c.telling_laws.ensures.asks.taken may.fixed may.recorded c.args.parts.now.ledger c.args.parts.now.pages c.args.pending.now c.args.call may.work may.past may.are may.telling.asked;
}

pub rows-rows-requires : goal.rows-rows-requires
rows-rows-requires g c =
    let w = g.D.Disk in
    let may = c.requires.may in
    let laws = c.telling_laws.ensures in
    let l = c.args.parts.now.ledger in
    let p = c.args.parts.now.pages in
    let mid = c.take_in.new.ledger in
    let is = c.take_in.ensures in
    let begins : BeginsCall w may.fixed may.recorded l p c.args.pending.now c.args.call may.work may.past = record { held = may.are; asked = may.telling.asked } in
    let took : HasTakenIn w may.fixed may.recorded l mid p c.args.pending.now c.args.call = record {
      taken = record { entries = is.entries; journal = is.journal; place = is.place };
      held = is.held may.fixed may.recorded p may.are may.telling.asked.may.pending;
      prepared = is.prepared c.args.call.op may.telling.asked.prepared;
      tree = is.tree;
    } in
    agent-is w laws.asks laws.answers laws.decide laws.follow laws.local laws.noted may.fixed may.recorded l mid p c.args.pending.now c.args.call may.work may.past c.args.reply begins may.telling took

pub tell_ready-requires-clause-may : goal.tell_ready-requires-clause-may
tell_ready-requires-clause-may g c =
    let w = g.D.Disk in
    let may = c.requires.may in
    let laws = c.telling_laws.ensures in
    let l = c.args.parts.now.ledger in
    let p = c.args.parts.now.pages in
    let mid = c.take_in.new.ledger in
    let is = c.take_in.ensures in
    let begins : BeginsCall w may.fixed may.recorded l p c.args.pending.now c.args.call may.work may.past = record { held = may.are; asked = may.telling.asked } in
    let took : HasTakenIn w may.fixed may.recorded l mid p c.args.pending.now c.args.call = record {
      taken = record { entries = is.entries; journal = is.journal; place = is.place };
      held = is.held may.fixed may.recorded p may.are may.telling.asked.may.pending;
      prepared = is.prepared c.args.call.op may.telling.asked.prepared;
      tree = is.tree;
    } in
    record {
      fixed = may.fixed;
      recorded = may.recorded;
      base = state_after may.fixed.opening mid.books.history;
      gone = [];
      pages = p;
      are = took.held;
      answered = may-come w laws.asks laws.answers laws.decide laws.follow laws.local laws.noted may.fixed may.recorded l mid p c.args.pending.now c.args.call may.work may.past c.args.reply begins may.telling took;
    }

pub tell_ready-requires-clause-silent : goal.tell_ready-requires-clause-silent
tell_ready-requires-clause-silent g c =
    let w = g.D.Disk in
    let may = c.requires.may in
    let laws = c.telling_laws.ensures in
    let l = c.args.parts.now.ledger in
    let p = c.args.parts.now.pages in
    let mid = c.take_in.new.ledger in
    let is = c.take_in.ensures in
    let begins : BeginsCall w may.fixed may.recorded l p c.args.pending.now c.args.call may.work may.past = record { held = may.are; asked = may.telling.asked } in
    let took : HasTakenIn w may.fixed may.recorded l mid p c.args.pending.now c.args.call = record {
      taken = record { entries = is.entries; journal = is.journal; place = is.place };
      held = is.held may.fixed may.recorded p may.are may.telling.asked.may.pending;
      prepared = is.prepared c.args.call.op may.telling.asked.prepared;
      tree = is.tree;
    } in
    silent (machine_in mid) (tree_in mid) c.args.call.agent c.args.call.op c.args.call.sizes
    (only w laws.asks laws.answers laws.decide laws.follow laws.local laws.noted may.fixed may.recorded l mid p c.args.pending.now c.args.call may.work may.past c.args.reply begins may.telling took)

pub tell_ready-requires-clause-answered : goal.tell_ready-requires-clause-answered
tell_ready-requires-clause-answered g c = c.requires.may.telling.done

pub returns-clause-acted : goal.returns-clause-acted
returns-clause-acted g c f recorded work past gift are telling given =
    let w = g.D.Disk in
    let laws = c.telling_laws.ensures in
    let l = c.args.parts.now.ledger in
    let p = c.args.parts.now.pages in
    let mid = c.take_in.new.ledger in
    let is = c.take_in.ensures in
    let begins : BeginsCall w f recorded l p c.args.pending.now c.args.call work past = record { held = are; asked = telling.asked } in
    let took : HasTakenIn w f recorded l mid p c.args.pending.now c.args.call = record {
      taken = record { entries = is.entries; journal = is.journal; place = is.place };
      held = is.held f recorded p are telling.asked.may.pending;
      prepared = is.prepared c.args.call.op telling.asked.prepared;
      tree = is.tree;
    } in
    let come = may-come w laws.asks laws.answers laws.decide laws.follow laws.local laws.noted f recorded l mid p c.args.pending.now c.args.call work past c.args.reply begins telling took in
    let told = c.tell_ready.ensures.told f recorded (state_after f.opening mid.books.history) [] p took.held come in
    let now : DeskParts g.row.D.Denot = record { ledger = c.tell_ready.new.ledger; pages = p } in
    tell-acted w laws.asks laws.answers laws.decide laws.follow laws.local laws.noted f recorded l mid p c.args.pending.now c.args.call work past c.args.reply begins telling took
    c.tell_ready.new.ledger told laws.rows laws.blocks laws.acts laws.shown gift given _ (omega (arith, c.rows-rows.ensures.count, c.rows-rows.ensures.few)) c.args.parts.now now refl refl refl
