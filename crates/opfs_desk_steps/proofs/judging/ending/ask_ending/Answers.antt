use Rattle.std.proofs.Common.{List, [], ◌++◌, Ok, refl, sym, ap, ◌∙◌, subst}
use Rattle.opfs_machine.specs.Histories.{state_after}
use Rattle.opfs_machine.specs.Replies.{sizes_of}
use Rattle.opfs_machine.specs.Runs.{Call}
use Rattle.opfs_desk_steps.specs.Parts.Asked.{AreEvictions}
use Rattle.opfs_desk_steps.specs.Parts.Seen.{units_in}
use Rattle.opfs_desk_steps.specs.declared.parts.call.Eviction.{Eviction}
use Rattle.opfs_desk_steps.proofs.judging.Endings.{never-refused}
use Rattle.opfs_desk_steps.proofs.judging.Judgements.{agent, judged-now}
use Rattle.opfs_desk_steps.proofs.judging.Rows.{sizes-are}
use Rattle.opfs_desk_steps.proofs.judging.Same.{same-held}
use Rattle.opfs_desk_steps.proofs.judging.ending.ask_ending.Goals as goal

pub prepare-requires-clause-agent : goal.prepare-requires-clause-agent
prepare-requires-clause-agent g c =
    let may = c.requires.may in
    agent g.D.Disk c.state_laws.ensures c.reads_leave_the_state.ensures c.lengths_follow_each_call.ensures c.local_calls_are_known_by_their_word.ensures may.fixed may.recorded c.args.ledger.now may.pages
    c.args.pending.now (record { agent = c.args.agent; number = may.number; op = c.args.op.now }) c.args.work.now may.past may.are may.may

pub prepare-requires-clause-judged : goal.prepare-requires-clause-judged
prepare-requires-clause-judged g c =
    let may = c.requires.may in
    let call : Call = record { agent = c.args.agent; number = may.number; op = c.args.op.now } in
    let now = state_after may.fixed.opening (c.args.ledger.now.books.history ++ c.args.pending.now) in
    let sizes = sizes_of now c.args.agent c.args.op.now in
    record {
      sizes = sizes;
      units = [];
      judged =
          judged-now g.D.Disk c.state_laws.ensures c.reads_leave_the_state.ensures c.lengths_follow_each_call.ensures c.local_calls_are_known_by_their_word.ensures may.fixed may.recorded c.args.ledger.now may.pages
          c.args.pending.now call c.args.work.now may.past may.are may.may c.lengths_decide_each_ruling.ensures c.notes_decide_nothing.ensures sizes refl
          ∙ never-refused now c.args.agent c.args.op.now c.requires.word may.may.fitting may.may.opened;
    }

pub returns-clause-held : goal.returns-clause-held
returns-clause-held g c f recorded p h =
    same-held g.D.Disk f recorded c.args.ledger.now p c.prepare.new.self c.prepare.ensures.machine c.prepare.ensures.tree h

pub returns-clause-asked : goal.returns-clause-asked
returns-clause-asked g c f recorded p number past h may =
    let now = state_after f.opening (c.args.ledger.now.books.history ++ c.args.pending.now) in
    record {
      sizes = c.sizes_for-sizes.ensures ∙ sizes-are g.D.Disk.tells f.opening _ c.args.agent c.args.op.now c.args.work.now may.copy;
      judged =
          never-refused now c.args.agent c.args.op.now c.requires.word may.fitting may.opened
          ∙ ap (λ (xs : List Eviction). Ok (units_in xs)) (sym c.new-clearing.ensures.items);
      prepared = c.in-Ok.ensures.ready;
      evictions = subst AreEvictions (sym c.new-clearing.ensures.items) tt;
    }
