use Rattle.std.proofs.Common.{◌≡◌}
use Rattle.opfs_hist.specs.declared.reply.Reply.TheVariants as reply
use Rattle.opfs_agent.proofs.handle_calls.Facts.{may-flush}
use Rattle.opfs_agent.proofs.handle_calls.Shared.{flush-done, flushed-either}
use Rattle.opfs_agent.proofs.agent.Agent.sync_flush.Goals as goal

pub ask_row-done-requires-clause-may : goal.ask_row-done-requires-clause-may
ask_row-done-requires-clause-may g c = may-flush g.S.Store.tells c.args.self.now (record { row = c.handle.inside.row; file = c.handle.inside.file; mode = c.handle.inside.mode; work = c.handle.inside.work }) (rw (← c.handle.view_is) at c.requires.handle)

pub ask_row-done-requires-clause-answer : goal.ask_row-done-requires-clause-answer
ask_row-done-requires-clause-answer g c = flush-done c.handle.inside.row

pub returns-clause-handle : goal.returns-clause-handle
returns-clause-handle g c =
    flushed-either g.S.Store.tells c.args.self.now c.ask_row-done.new.self c.know_kept.ensures c.know_kept-2.ensures (record { row = c.handle.inside.row; file = c.handle.inside.file; mode = c.handle.inside.mode; work = c.handle.inside.work }) c.ask_row-done.new.work (rw (← c.handle.view_is) at c.requires.handle)
    (λ (u : Unit {0}) answered _. answered ≡ reply.Done) c.ask_row-done.result c.ask_row-done.ensures.shared c.ask_row-done.ensures.left c.ask_row-done.ensures.same
