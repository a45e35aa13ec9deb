use Rattle.std.proofs.Common.{Ok, sym, ap, ◌∙◌}
use Rattle.opfs_machine.specs.Runs.{Call}
use Rattle.opfs_desk_steps.proofs.judging.Judgements.{agent, caller, kept, own, judged-now}
use Rattle.opfs_desk_steps.proofs.judging.Rows.{sizes-are}
use Rattle.opfs_desk_steps.proofs.judging.Same.{same-held}
use Rattle.opfs_desk_steps.proofs.judging.asking.ask_call.Goals as goal

pub judge-requires-clause-caller : goal.judge-requires-clause-caller
judge-requires-clause-caller g c =
    let may = c.requires.may in
    caller g.D.Disk c.state_laws.ensures c.reads_leave_the_state.ensures c.lengths_follow_each_call.ensures c.local_calls_are_known_by_their_word.ensures may.fixed may.recorded c.args.ledger.now may.pages
    c.args.pending.now (record { agent = c.args.agent; number = may.number; op = c.args.op.now }) c.args.work.now may.past may.are may.may

pub judge-requires-clause-own : goal.judge-requires-clause-own
judge-requires-clause-own g c =
    let may = c.requires.may in
    own g.D.Disk c.state_laws.ensures c.reads_leave_the_state.ensures c.lengths_follow_each_call.ensures c.local_calls_are_known_by_their_word.ensures may.fixed may.recorded c.args.ledger.now may.pages
    c.args.pending.now (record { agent = c.args.agent; number = may.number; op = c.args.op.now }) c.args.work.now may.past may.are may.may c.calls_are_about_own_units.ensures

pub judge-requires-clause-kept : goal.judge-requires-clause-kept
judge-requires-clause-kept g c =
    let may = c.requires.may in
    kept g.D.Disk c.state_laws.ensures c.reads_leave_the_state.ensures c.lengths_follow_each_call.ensures c.local_calls_are_known_by_their_word.ensures may.fixed may.recorded c.args.ledger.now may.pages
    c.args.pending.now (record { agent = c.args.agent; number = may.number; op = c.args.op.now }) c.args.work.now may.past may.are may.may

pub prepare-requires-clause-agent : goal.prepare-requires-clause-agent
prepare-requires-clause-agent g c =
    let may = c.requires.may in
    agent g.D.Disk c.state_laws.ensures c.reads_leave_the_state.ensures c.lengths_follow_each_call.ensures c.local_calls_are_known_by_their_word.ensures may.fixed may.recorded c.args.ledger.now may.pages
    c.args.pending.now (record { agent = c.args.agent; number = may.number; op = c.args.op.now }) c.args.work.now may.past may.are may.may

pub returns-in_err-prepare-in-Ok-clause-held : goal.returns-in_err-prepare-in-Ok-clause-held
returns-in_err-prepare-in-Ok-clause-held g c f recorded p h =
    same-held g.D.Disk f recorded c.args.ledger.now p c.prepare.new.self c.in_err-prepare-in-Ok.ensures.machine c.in_err-prepare-in-Ok.ensures.tree h

pub returns-in_ok-prepare-in-Ok-clause-held : goal.returns-in_ok-prepare-in-Ok-clause-held
returns-in_ok-prepare-in-Ok-clause-held g c f recorded p h =
    same-held g.D.Disk f recorded c.args.ledger.now p c.prepare.new.self c.in_ok-prepare-in-Ok.ensures.machine c.in_ok-prepare-in-Ok.ensures.tree h

pub returns-in_ok-prepare-in-Ok-clause-asked : goal.returns-in_ok-prepare-in-Ok-clause-asked
returns-in_ok-prepare-in-Ok-clause-asked g c f recorded p number past h may =
    let call : Call = record { agent = c.args.agent; number = number; op = c.args.op.now } in
    let sizes = c.sizes_for-sizes.ensures ∙ sizes-are g.D.Disk.tells f.opening _ c.args.agent c.args.op.now c.args.work.now may.copy in
    record {
      sizes = sizes;
      judged =
          sym (judged-now g.D.Disk c.state_laws.ensures c.reads_leave_the_state.ensures c.lengths_follow_each_call.ensures c.local_calls_are_known_by_their_word.ensures f recorded c.args.ledger.now p
          c.args.pending.now call c.args.work.now past h may c.lengths_decide_each_ruling.ensures c.notes_decide_nothing.ensures c.sizes_for-sizes.result sizes)
          ∙ (sym c.in_ok-units.ensures ∙ (c.in-Ok.is ∙ ap Ok (sym (c.in_ok-clearing-in-Ok.ensures.units ∙ c.as_slice.ensures))));
      prepared = c.in_ok-prepare-in-Ok.ensures.ready;
      evictions = c.in_ok-clearing-in-Ok.ensures.entries;
    }

pub returns-in-Err-clause-asked : goal.returns-in-Err-clause-asked
returns-in-Err-clause-asked g c f recorded p number past h may =
    let call : Call = record { agent = c.args.agent; number = number; op = c.args.op.now } in
    let sizes = c.sizes_for-sizes.ensures ∙ sizes-are g.D.Disk.tells f.opening _ c.args.agent c.args.op.now c.args.work.now may.copy in
    record {
      refused =
          sym (judged-now g.D.Disk c.state_laws.ensures c.reads_leave_the_state.ensures c.lengths_follow_each_call.ensures c.local_calls_are_known_by_their_word.ensures f recorded c.args.ledger.now p
          c.args.pending.now call c.args.work.now past h may c.lengths_decide_each_ruling.ensures c.notes_decide_nothing.ensures c.sizes_for-sizes.result sizes)
          ∙ (sym c.in_ok-units.ensures ∙ c.in-Err.is);
      idle = c.requires.may.idle;
    }
