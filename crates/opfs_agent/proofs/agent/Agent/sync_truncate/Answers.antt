use Rattle.std.proofs.Common.{◌≡◌}
use Rattle.opfs_hist.specs.declared.reply.Reply.TheVariants as reply
use Rattle.opfs_agent.proofs.handle_calls.Facts.{may-truncate}
use Rattle.opfs_agent.proofs.handle_calls.Shared.{truncate-done, truncated-either}
use Rattle.opfs_agent.proofs.agent.Agent.sync_truncate.Goals as goal

pub ask_row-done-requires-clause-may : goal.ask_row-done-requires-clause-may
ask_row-done-requires-clause-may g c = may-truncate g.S.Store.tells c.args.self.now (record { row = c.handle.inside.row; file = c.handle.inside.file; mode = c.handle.inside.mode; work = c.handle.inside.work }) (rw (← c.handle.view_is) at c.requires.handle) c.args.size c.requires.small

pub ask_row-done-requires-clause-answer : goal.ask_row-done-requires-clause-answer
ask_row-done-requires-clause-answer g c = truncate-done c.handle.inside.row c.args.size

pub returns-clause-handle : goal.returns-clause-handle
returns-clause-handle g c =
    truncated-either g.S.Store.tells c.args.self.now c.ask_row-done.new.self c.know_kept.ensures c.know_kept-2.ensures (record { row = c.handle.inside.row; file = c.handle.inside.file; mode = c.handle.inside.mode; work = c.handle.inside.work }) c.ask_row-done.new.work (rw (← c.handle.view_is) at c.requires.handle)
    (λ (u : Unit {0}) answered _. answered ≡ reply.Done) c.args.size c.ask_row-done.result c.ask_row-done.ensures.shared c.ask_row-done.ensures.left c.ask_row-done.ensures.same
