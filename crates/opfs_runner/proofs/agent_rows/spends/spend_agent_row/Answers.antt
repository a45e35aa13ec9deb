use Rattle.opfs_runner.proofs.agent_rows.Handed.{stream-left, handle-left}
use Rattle.opfs_runner.proofs.agent_rows.spends.spend_agent_row.Goals as goal

pub returns-in-ClosedStream-clause-left : goal.returns-in-ClosedStream-clause-left
returns-in-ClosedStream-clause-left g c =
    let has = rw c.in-ClosedStream.is at c.requires.agent_row in
    let done = c.refuse_stream-answer in
    stream-left g.S.Store.tells done.new.agent _ c.args.agent_row c.in-ClosedStream.closed done.result c.in-ClosedStream.is has.0 done.ensures.closed done.ensures.refused

pub returns-in-ClosedHandle-clause-left : goal.returns-in-ClosedHandle-clause-left
returns-in-ClosedHandle-clause-left g c =
    let has = rw c.in-ClosedHandle.is at c.requires.agent_row in
    let done = c.close_again-answer in
    handle-left g.S.Store.tells done.new.agent _ c.args.agent_row c.in-ClosedHandle.closed done.result c.in-ClosedHandle.is has.0 done.ensures.closed done.ensures.done
