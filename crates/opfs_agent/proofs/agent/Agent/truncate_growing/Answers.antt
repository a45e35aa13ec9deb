use Rattle.opfs_agent.proofs.stream_calls.Facts.{may-truncate}
use Rattle.opfs_agent.proofs.stream_calls.Shared.{truncate-done, truncated-either}
use Rattle.opfs_agent.proofs.agent.Agent.truncate_growing.Goals as goal

pub ask_row-done-requires-clause-may : goal.ask_row-done-requires-clause-may
ask_row-done-requires-clause-may g c = may-truncate g.S.Store.tells c.args.self.now (record { row = c.stream.inside.row; file = c.stream.inside.file; work = c.stream.inside.work }) (rw (← c.stream.view_is) at c.requires.stream) c.args.size c.requires.small

pub ask_row-done-requires-clause-answer : goal.ask_row-done-requires-clause-answer
ask_row-done-requires-clause-answer g c = truncate-done c.stream.inside.row c.args.size

pub returns-clause-stream : goal.returns-clause-stream
returns-clause-stream g c =
    truncated-either g.S.Store.tells c.args.self.now c.ask_row-done.new.self c.know_kept.ensures c.know_kept-2.ensures (record { row = c.stream.inside.row; file = c.stream.inside.file; work = c.stream.inside.work }) c.ask_row-done.new.work c.args.size c.ask_row-done.result (rw (← c.stream.view_is) at c.requires.stream)
    c.ask_row-done.ensures.shared c.ask_row-done.ensures.left c.ask_row-done.ensures.same
