use Rattle.std.proofs.Common.{◌≡◌}
use Rattle.opfs_base.specs.Texts.{Text}
use Rattle.opfs_hist.specs.declared.reply.Reply.TheVariants as reply
use Rattle.opfs_agent.proofs.handle_calls.Facts.{may-read}
use Rattle.opfs_agent.proofs.handle_calls.Shared.{read-told, read-either}
use Rattle.opfs_agent.proofs.agent.Agent.sync_read_far.Goals as goal

pub ask_bytes-done-requires-clause-may : goal.ask_bytes-done-requires-clause-may
ask_bytes-done-requires-clause-may g c = may-read g.S.Store.tells c.args.self.now (record { row = c.handle.inside.row; file = c.handle.inside.file; mode = c.handle.inside.mode; work = c.handle.inside.work }) (rw (← c.handle.view_is) at c.requires.handle) c.args.len c.args.at c.requires.small

pub ask_bytes-done-requires-clause-answer : goal.ask_bytes-done-requires-clause-answer
ask_bytes-done-requires-clause-answer g c = read-told c.handle.inside.row c.args.len c.args.at

pub returns-clause-handle : goal.returns-clause-handle
returns-clause-handle g c =
    read-either g.S.Store.tells c.args.self.now c.ask_bytes-done.new.self c.know_kept.ensures c.know_kept-2.ensures (record { row = c.handle.inside.row; file = c.handle.inside.file; mode = c.handle.inside.mode; work = c.handle.inside.work }) c.ask_bytes-done.new.work (rw (← c.handle.view_is) at c.requires.handle)
    (λ (bytes : Text) answered _. answered ≡ reply.Read bytes) c.args.len c.args.at c.ask_bytes-done.result c.ask_bytes-done.ensures.shared c.ask_bytes-done.ensures.left c.ask_bytes-done.ensures.same
