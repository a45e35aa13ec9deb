use Rattle.opfs_hist.specs.declared.op.Op.TheVariants as op
use Rattle.std.proofs.Common.{refl}
use Rattle.opfs_agent.proofs.handle_calls.Facts.{may-close}
use Rattle.opfs_agent.proofs.handle_calls.Shared.{close-done, closed-has, gives-back}
use Rattle.opfs_agent.proofs.agent.Agent.close_sync.Goals as goal

pub ask_row-done-requires-clause-may : goal.ask_row-done-requires-clause-may
ask_row-done-requires-clause-may g c = may-close g.S.Store.tells c.args.self.now (record { row = c.handle.inside.row; file = c.handle.inside.file; mode = c.handle.inside.mode; work = c.handle.inside.work }) (rw (← c.handle.view_is) at c.requires.handle)

pub ask_row-done-requires-clause-answer : goal.ask_row-done-requires-clause-answer
ask_row-done-requires-clause-answer g c = close-done c.handle.inside.row

pub returns-in-Ok-clause-closed : goal.returns-in-Ok-clause-closed
returns-in-Ok-clause-closed g c =
    rw (← c.handle.view_is)
    (closed-has g.S.Store.tells c.args.self.now c.ask_row-done.new.self c.know_kept.ensures (record { row = c.handle.inside.row; file = c.handle.inside.file; mode = c.handle.inside.mode; work = c.handle.inside.work }) c.shut.result.row c.shut.ensures (rw (← c.handle.view_is) at c.requires.handle) c.in-Ok.ensures.shared)

pub returns-in-Err-clause-back : goal.returns-in-Err-clause-back
returns-in-Err-clause-back g c =
    rw (← c.handle.view_is)
    (gives-back g.S.Store.tells c.args.self.now c.ask_row-done.new.self (op.SyncClose c.handle.inside.row) c.in-Err.stop (record { row = c.handle.inside.row; file = c.handle.inside.file; mode = c.handle.inside.mode; work = c.handle.inside.work }) c.ask_row-done.new.work c.know_kept.ensures c.know_kept-2.ensures refl
    c.in-Err.ensures.shared (rw (← c.handle.view_is) at c.requires.handle) c.in-Err.ensures.same)
