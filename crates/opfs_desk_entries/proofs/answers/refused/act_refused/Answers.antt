use Rattle.std.proofs.Common.{[], arith}
use Rattle.opfs_machine.specs.Histories.{state_after}
use Rattle.opfs_machine.specs.Runs.{Call}
use Rattle.opfs_desk_entries.proofs.answers.Refusing.{may-take, agent-mid, may-refuse, is-refused, has-acted}
use Rattle.opfs_desk_entries.proofs.answers.refused.act_refused.Goals as goal

pub take_in-requires : goal.take_in-requires
take_in-requires g c = record {
  may =
      let may = c.requires.may in
      let call : Call = record { agent = c.args.agent; number = c.args.number; op = c.args.op } in
      let l = c.args.parts.now.ledger in
      may-take g.D.Disk c.reads_leave_the_state.ensures c.lengths_follow_each_call.ensures c.local_calls_are_known_by_their_word.ensures may.fixed may.recorded l l c.args.parts.now.pages c.args.pending.now call c.args.refusal may.work may.past may.are may.asked;
}

pub rows-rows-requires : goal.rows-rows-requires
rows-rows-requires g c =
    let may = c.requires.may in
    let call : Call = record { agent = c.args.agent; number = c.args.number; op = c.args.op } in
    let p = c.args.parts.now.pages in
    agent-mid g.D.Disk c.reads_leave_the_state.ensures c.lengths_follow_each_call.ensures c.local_calls_are_known_by_their_word.ensures may.fixed may.recorded c.args.parts.now.ledger c.take_in.new.ledger p c.args.pending.now call c.args.refusal may.work may.past may.are may.asked
    c.take_in.ensures.entries (c.take_in.ensures.held may.fixed may.recorded p may.are may.asked.may.pending)

pub refuse_call-requires : goal.refuse_call-requires
refuse_call-requires g c = record {
  may =
      let may = c.requires.may in
      let call : Call = record { agent = c.args.agent; number = c.args.number; op = c.args.op } in
      let p = c.args.parts.now.pages in
      may-refuse g.D.Disk c.reads_leave_the_state.ensures c.lengths_follow_each_call.ensures c.local_calls_are_known_by_their_word.ensures may.fixed may.recorded c.args.parts.now.ledger c.take_in.new.ledger p c.args.pending.now call c.args.refusal may.work may.past may.are may.asked
      c.take_in.ensures.entries (c.take_in.ensures.held may.fixed may.recorded p may.are may.asked.may.pending);
}

pub returns-clause-acted : goal.returns-clause-acted
returns-clause-acted g c f recorded work past are asked =
    let call : Call = record { agent = c.args.agent; number = c.args.number; op = c.args.op } in
    let l = c.args.parts.now.ledger in
    let mid = c.take_in.new.ledger in
    let p = c.args.parts.now.pages in
    let never = c.state_laws.ensures.faults in
    let then = c.take_in.ensures.held f recorded p are asked.may.pending in
    let risen = is-refused g.D.Disk c.reads_leave_the_state.ensures c.lengths_follow_each_call.ensures c.local_calls_are_known_by_their_word.ensures f recorded l mid p c.args.pending.now call c.args.refusal work past are asked c.take_in.ensures.entries then never in
    has-acted g.D.Disk c.reads_leave_the_state.ensures c.lengths_follow_each_call.ensures c.local_calls_are_known_by_their_word.ensures f recorded l mid p c.args.pending.now call c.args.refusal work past are asked c.take_in.ensures.entries then
    c.calls_are_acted.ensures never c.the_books_show_their_images.ensures c.take_in.ensures.journal c.take_in.ensures.place
    c.refuse_call.new.ledger c.refuse_call.ensures.entries c.refuse_call.ensures.journal c.refuse_call.ensures.idle
    (c.refuse_call.ensures.held f recorded (state_after f.opening mid.books.history) [] p then risen) _ (omega (arith, c.rows-rows.ensures.count, c.rows-rows.ensures.few))
