use Rattle.opfs_hist.specs.declared.op.Op.TheVariants as op
use Rattle.std.proofs.Common.{refl}
use Rattle.opfs_agent.proofs.stream_calls.Facts.{may-close}
use Rattle.opfs_agent.proofs.stream_calls.Shared.{close-done, closed-has, gives-back}
use Rattle.opfs_agent.proofs.agent.Agent.close_writable.Goals as goal

pub ask_row-done-requires-clause-may : goal.ask_row-done-requires-clause-may
ask_row-done-requires-clause-may g c = may-close g.S.Store.tells c.args.self.now (record { row = c.stream.inside.row; file = c.stream.inside.file; work = c.stream.inside.work }) (rw (← c.stream.view_is) at c.requires.stream)

pub ask_row-done-requires-clause-answer : goal.ask_row-done-requires-clause-answer
ask_row-done-requires-clause-answer g c = close-done c.stream.inside.row

pub returns-in-Ok-clause-closed : goal.returns-in-Ok-clause-closed
returns-in-Ok-clause-closed g c =
    rw (← c.stream.view_is)
    (closed-has g.S.Store.tells c.args.self.now c.ask_row-done.new.self c.know_kept.ensures (record { row = c.stream.inside.row; file = c.stream.inside.file; work = c.stream.inside.work }) c.shut.result.row c.shut.ensures (rw (← c.stream.view_is) at c.requires.stream) c.in-Ok.ensures.shared)

pub returns-in-Err-clause-back : goal.returns-in-Err-clause-back
returns-in-Err-clause-back g c =
    rw (← c.stream.view_is)
    (gives-back g.S.Store.tells c.args.self.now c.ask_row-done.new.self (op.Close c.stream.inside.row) c.in-Err.stop (record { row = c.stream.inside.row; file = c.stream.inside.file; work = c.stream.inside.work }) c.ask_row-done.new.work c.know_kept.ensures c.know_kept-2.ensures refl
    c.in-Err.ensures.shared (rw (← c.stream.view_is) at c.requires.stream) c.in-Err.ensures.same)
