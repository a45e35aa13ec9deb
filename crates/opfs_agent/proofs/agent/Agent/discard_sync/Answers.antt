use Rattle.std.proofs.Common.{refl}
use Rattle.opfs_agent.proofs.handle_calls.Facts.{may-discard}
use Rattle.opfs_agent.proofs.handle_calls.Shared.{discarded-has}
use Rattle.opfs_agent.proofs.agent.Agent.discard_sync.Goals as goal

pub end_row-acted-requires-clause-may : goal.end_row-acted-requires-clause-may
end_row-acted-requires-clause-may g c = may-discard g.S.Store.tells c.args.self.now (record { row = c.handle.inside.row; file = c.handle.inside.file; mode = c.handle.inside.mode; work = c.handle.inside.work }) (rw (← c.handle.view_is) at c.requires.handle)

pub returns : goal.returns
returns g c =
    rw (← c.handle.view_is)
    (discarded-has g.S.Store.tells c.args.self.now c.end_row-acted.new.self c.know_kept.ensures (record { row = c.handle.inside.row; file = c.handle.inside.file; mode = c.handle.inside.mode; work = c.handle.inside.work }) (rw (← c.handle.view_is) at c.requires.handle) c.end_row-acted.result.reply c.end_row-acted.result.gift c.end_row-acted.ensures c.handle.inside.row refl)
