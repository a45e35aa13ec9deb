use Rattle.std.proofs.Common.{refl}
use Rattle.opfs_agent.proofs.stream_calls.Facts.{may-abort}
use Rattle.opfs_agent.proofs.stream_calls.Shared.{aborted-has}
use Rattle.opfs_agent.proofs.agent.Agent.abort.Goals as goal

pub end_row-acted-requires-clause-may : goal.end_row-acted-requires-clause-may
end_row-acted-requires-clause-may g c = may-abort g.S.Store.tells c.args.self.now (record { row = c.stream.inside.row; file = c.stream.inside.file; work = c.stream.inside.work }) (rw (← c.stream.view_is) at c.requires.stream)

pub returns : goal.returns
returns g c =
    rw (← c.stream.view_is)
    (aborted-has g.S.Store.tells c.args.self.now c.end_row-acted.new.self c.know_kept.ensures (record { row = c.stream.inside.row; file = c.stream.inside.file; work = c.stream.inside.work }) (rw (← c.stream.view_is) at c.requires.stream) c.end_row-acted.result.reply c.end_row-acted.result.gift c.end_row-acted.ensures c.stream.inside.row refl)
