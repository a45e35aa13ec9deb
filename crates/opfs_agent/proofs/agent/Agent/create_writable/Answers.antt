use Rattle.opfs_agent.proofs.stream_calls.Facts.{may-open}
use Rattle.opfs_agent.proofs.stream_calls.Shared.{open-done, opened-answer}
use Rattle.opfs_agent.proofs.agent.Agent.create_writable.Goals as goal

pub ask_row-requires-clause-may : goal.ask_row-requires-clause-may
ask_row-requires-clause-may g c = may-open g.S.Store.tells c.args.self.now c.in-Ok.asked c.args.file.now c.args.keep c.fresh-work.result c.in-Ok.ensures c.requires.file c.fresh-work.ensures

pub ask_row-requires-clause-answer : goal.ask_row-requires-clause-answer
ask_row-requires-clause-answer g c = open-done c.in-Ok.asked c.args.keep

pub returns : goal.returns
returns g c =
    opened-answer g.S.Store.tells c.args.self.now c.ask_row.new.self c.know_kept.ensures c.know_kept-2.ensures c.in-Ok.asked c.args.keep c.in_ok-ask_row.ensures.shared
    c.rows-row.result c.args.file.now c.in-Ok-copy.file c.ask_row.new.work c.rows-row.ensures c.in-Ok.ensures c.in-Ok-copy.ensures c.in_ok-ask_row.ensures.left
