use Rattle.std.proofs.Common.{◌≡◌, ℕ, refl}
use Rattle.opfs_hist.specs.declared.op.Op.TheVariants as op
use Rattle.opfs_hist.specs.declared.reply.Reply.TheVariants as reply
use Rattle.opfs_agent.proofs.handle_calls.Nearby.{local-told, size-local, size-has}
use Rattle.opfs_agent.proofs.agent.Agent.sync_size.Goals as goal

pub keep-requires-clause-local : goal.keep-requires-clause-local
keep-requires-clause-local g c = size-local g.S.Store.tells c.args.self.now c.know_kept.ensures (record { row = c.handle.inside.row; file = c.handle.inside.file; mode = c.handle.inside.mode; work = c.handle.inside.work }) (rw (← c.handle.view_is) at c.requires.handle) c.size-size.result c.size-size.ensures

pub returns-clause-local : goal.returns-clause-local
returns-clause-local g c =
    rw (← c.handle.view_is)
    (local-told g.S.Store.tells c.args.self.now c.keep.new.self (op.SyncGetSize c.handle.inside.row) (reply.Length c.size-size.result)
    (λ (n : ℕ) answered. (n ≡ c.handle.inside.work.length) × (answered ≡ reply.Length n)) c.size-size.result
    (size-local g.S.Store.tells c.args.self.now c.know_kept.ensures (record { row = c.handle.inside.row; file = c.handle.inside.file; mode = c.handle.inside.mode; work = c.handle.inside.work }) (rw (← c.handle.view_is) at c.requires.handle) c.size-size.result c.size-size.ensures) c.keep.ensures refl (c.size-size.ensures, refl))

pub returns-clause-handle : goal.returns-clause-handle
returns-clause-handle g c =
    rw (← c.handle.view_is)
    (size-has g.S.Store.tells c.args.self.now c.know_kept.ensures (record { row = c.handle.inside.row; file = c.handle.inside.file; mode = c.handle.inside.mode; work = c.handle.inside.work }) (rw (← c.handle.view_is) at c.requires.handle) c.size-size.result c.keep.new.self c.size-size.ensures c.keep.ensures)
