use Rattle.std.proofs.Common.{◌++◌, List, refl, sym, subst}
use Rattle.std.specs.Option.{option_copied}
use Rattle.opfs_pages.specs.HistoryLaws.Handles.{AreHandlesWhole}
use Rattle.opfs_desk_steps.specs.Iterating.Reached.{IsUpTo}
use Rattle.opfs_desk_steps.specs.declared.parts.parts.DeskParts.{DeskParts}
use Rattle.opfs_hist.specs.declared.entry.Entry.{Entry}
use Rattle.opfs_machine.specs.Histories.{state_after}
use Rattle.opfs_machine.specs.Rows.{children_of as names_of}
use Rattle.opfs_machine.specs.Runs.{Call}
use Rattle.opfs_desk.proofs.dispatch.Calls.{acted-before, alone-before, alone-now, left-alone, readied-as, readied-now, refused-as, refused-now, whole-now}
use Rattle.opfs_desk.proofs.dispatch.calling.act_call.Goals as goal

pub ask_call-requires : goal.ask_call-requires
ask_call-requires g c = record {
  may =
      let may = c.requires.may in
      let called = may.called in
      record {
        fixed = may.fixed;
        recorded = called.held.recorded;
        pages = c.args.parts.now.pages;
        number = c.args.call.number;
        past = c.args.past.now;
        are = called.held.are;
        idle = called.held.idle;
        may = called.may;
      };
}

pub act_refused-requires : goal.act_refused-requires
act_refused-requires g c = record {
  may =
      let may = c.requires.may in
      let called = may.called in
      let f = may.fixed in
      let old = c.args.parts.now in
      let recorded = called.held.recorded in
      let call : Call = record { agent = c.args.call.agent; number = c.args.call.number; op = c.args.call.op } in
      let asks = c.in-Ok-Refused.ensures in
      record {
        fixed = f;
        recorded = recorded;
        work = c.args.work.now;
        past = c.args.past.now;
        are = asks.held f recorded old.pages called.held.are;
        asked =
            refused-now g.D.Disk f old c.ask_call.new.ledger asks.journal asks.entries asks.place c.args.pending.now call _ c.args.work.now c.args.past.now called.may
            (refused-as f.opening old.ledger.books.history c.args.pending.now c.ask_call.new.ledger.books.state c.args.call.agent c.args.call.op _ _ c.in-Ok-Refused.field-0-is
            (asks.asked f recorded old.pages c.args.call.number c.args.past.now called.held.are called.may));
      };
}

pub act_by_kind-requires-clause-go : goal.act_by_kind-requires-clause-go
act_by_kind-requires-clause-go g c =
    let may = c.requires.may in
    let called = may.called in
    let f = may.fixed in
    let old = c.args.parts.now in
    let recorded = called.held.recorded in
    let asks = c.in-Ok-Ready.ensures in
    record {
      fixed = f;
      recorded = recorded;
      are = asks.held f recorded old.pages called.held.are;
      asked =
          readied-now g.D.Disk f old c.ask_call.new.ledger asks.journal asks.entries asks.place c.args.pending.now _ _ c.args.work.now c.args.past.now refl refl called.may
          (readied-as f.opening old.ledger.books.history c.args.pending.now c.ask_call.new.ledger.books.state c.args.call.agent c.args.call.op _ _ c.in-Ok-Ready.field-0-is
          (asks.asked f recorded old.pages c.args.call.number c.args.past.now called.held.are called.may));
    }

pub act_by_kind-requires-clause-whole : goal.act_by_kind-requires-clause-whole
act_by_kind-requires-clause-whole g c =
    let may = c.requires.may in
    let called = may.called in
    let f = may.fixed in
    let old = c.args.parts.now in
    let recorded = called.held.recorded in
    let asks = c.in-Ok-Ready.ensures in
    whole-now g.D.Disk f old c.ask_call.new.ledger asks.journal asks.entries asks.place recorded (asks.held f recorded old.pages called.held.are) called.whole

pub returns-in-Ok-Refused-clause-acted : goal.returns-in-Ok-Refused-clause-acted
returns-in-Ok-Refused-clause-acted g c f called =
    let old = c.args.parts.now in
    let recorded = called.held.recorded in
    let call : Call = record { agent = c.args.call.agent; number = c.args.call.number; op = c.args.call.op } in
    let mid = c.ask_call.new.ledger in
    let asks = c.in-Ok-Refused.ensures in
    acted-before g.D.Disk f old mid asks.journal asks.entries asks.place c.act_refused.new.parts c.args.pending.now call c.args.work.now c.args.work.now _
    (c.act_refused.ensures.acted f recorded c.args.work.now c.args.past.now (asks.held f recorded old.pages called.held.are)
    (refused-now g.D.Disk f old mid asks.journal asks.entries asks.place c.args.pending.now call _ c.args.work.now c.args.past.now called.may
    (refused-as f.opening old.ledger.books.history c.args.pending.now c.ask_call.new.ledger.books.state c.args.call.agent c.args.call.op _ _ c.in-Ok-Refused.field-0-is
    (asks.asked f recorded old.pages c.args.call.number c.args.past.now called.held.are called.may))))

pub returns-in-Ok-clause-acted : goal.returns-in-Ok-clause-acted
returns-in-Ok-clause-acted g c f called =
    let old = c.args.parts.now in
    let recorded = called.held.recorded in
    let call : Call = record { agent = c.args.call.agent; number = c.args.call.number; op = c.args.call.op } in
    let mid = c.ask_call.new.ledger in
    let asks = c.in-Ok-Ready.ensures in
    let held = asks.held f recorded old.pages called.held.are in
    let new = c.act_by_kind.new in
    acted-before g.D.Disk f old mid asks.journal asks.entries asks.place new.parts c.args.pending.now call c.args.work.now new.work _
    (c.in-Ok.ensures.acted f recorded held (subst (AreHandlesWhole f.opening) (sym asks.entries) called.whole)
    (readied-now g.D.Disk f old mid asks.journal asks.entries asks.place c.args.pending.now _ _ c.args.work.now c.args.past.now refl refl called.may
    (readied-as f.opening old.ledger.books.history c.args.pending.now c.ask_call.new.ledger.books.state c.args.call.agent c.args.call.op _ _ c.in-Ok-Ready.field-0-is
    (asks.asked f recorded old.pages c.args.call.number c.args.past.now called.held.are called.may))))

pub returns-in-Err-act_by_kind-clause-alone : goal.returns-in-Err-act_by_kind-clause-alone
returns-in-Err-act_by_kind-clause-alone g c f called =
    let w = g.D.Disk in
    let old = c.args.parts.now in
    let mid = c.ask_call.new.ledger in
    let asks = c.in-Ok-Ready.ensures in
    let acting = c.act_by_kind.new.parts in
    let now : DeskParts g.row.D.Denot = record { ledger = c.cancel.new.ledger; pages = acting.pages } in
    alone-before w f old mid asks.journal asks.entries asks.place now
    (left-alone w f (record { ledger = mid; pages = old.pages }) acting.ledger c.cancel.new.ledger acting.pages c.cancel.ensures
    (c.in-Err-act_by_kind.ensures.idle f called.held.recorded (asks.held f called.held.recorded old.pages called.held.are)))

pub returns-in-Err-clause-alone : goal.returns-in-Err-clause-alone
returns-in-Err-clause-alone g c f called =
    let old = c.args.parts.now in
    let recorded = called.held.recorded in
    let asks = c.in-Err.ensures in
    alone-now g.D.Disk f old c.ask_call.new.ledger asks.journal asks.entries asks.place recorded (asks.held f recorded old.pages called.held.are) asks.idle

pub act_by_kind-requires-clause-given : goal.act_by_kind-requires-clause-given
act_by_kind-requires-clause-given g c =
    let from = c.requires.given in
    let may = from.may in
    let called = may.called in
    let f = may.fixed in
    let old = c.args.parts.now in
    let recorded = called.held.recorded in
    let asks = c.in-Ok-Ready.ensures in
    record {
      go = record {
        fixed = f;
        recorded = recorded;
        are = asks.held f recorded old.pages called.held.are;
        asked =
            readied-now g.D.Disk f old c.ask_call.new.ledger asks.journal asks.entries asks.place c.args.pending.now _ _ c.args.work.now c.args.past.now refl refl called.may
            (readied-as f.opening old.ledger.books.history c.args.pending.now c.ask_call.new.ledger.books.state c.args.call.agent c.args.call.op _ _ c.in-Ok-Ready.field-0-is
            (asks.asked f recorded old.pages c.args.call.number c.args.past.now called.held.are called.may));
      };
      reached =
          subst (λ (h : List Entry). IsUpTo (names_of (state_after f.opening (h ++ c.args.pending.now))) c.args.call.op c.args.past.now (option_copied c.args.last)) (sym asks.entries)
          from.reached;
    }
