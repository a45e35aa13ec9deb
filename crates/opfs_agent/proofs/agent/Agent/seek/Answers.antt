use Rattle.opfs_hist.specs.declared.op.Op.TheVariants as op
use Rattle.opfs_agent.proofs.stream_calls.Facts.{local-done}
use Rattle.opfs_agent.proofs.stream_calls.Within.{seek-local, seek-has}
use Rattle.opfs_agent.proofs.agent.Agent.seek.Goals as goal

pub keep-requires-clause-local : goal.keep-requires-clause-local
keep-requires-clause-local g c = seek-local g.S.Store.tells c.args.self.now c.know_kept.ensures (record { row = c.stream.inside.row; file = c.stream.inside.file; work = c.stream.inside.work }) (rw (← c.stream.view_is) at c.requires.stream) c.args.position

pub returns-clause-local : goal.returns-clause-local
returns-clause-local g c =
    rw (← c.stream.view_is)
    (local-done g.S.Store.tells c.args.self.now c.keep.new.self (op.Seek c.stream.inside.row c.args.position)
    (seek-local g.S.Store.tells c.args.self.now c.know_kept.ensures (record { row = c.stream.inside.row; file = c.stream.inside.file; work = c.stream.inside.work }) (rw (← c.stream.view_is) at c.requires.stream) c.args.position) c.keep.ensures)

pub returns-clause-stream : goal.returns-clause-stream
returns-clause-stream g c = seek-has g.S.Store.tells c.args.self.now c.know_kept.ensures (record { row = c.stream.inside.row; file = c.stream.inside.file; work = c.stream.inside.work }) (rw (← c.stream.view_is) at c.requires.stream) c.args.position c.keep.new.self c.seek.new.self c.keep.ensures c.seek.ensures
