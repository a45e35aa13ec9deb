use Rattle.std.proofs.Common.{◌≡◌, ◌+◌, min, length, refl, sym, ap, ◌∙◌, subst}
use Rattle.opfs_base.specs.Texts.{Text}
use Rattle.opfs_hist.specs.declared.op.Op.TheVariants as op
use Rattle.opfs_hist.specs.declared.reply.Reply.TheVariants as reply
use Rattle.opfs_turns.specs.Asking.Rows.{HasHandle}
use Rattle.opfs_work.specs.Works.{WorkingCopy, place_in}
use Rattle.opfs_agent.proofs.handle_calls.Nearby.{local-told, read-local, read-has, read-back}
use Rattle.opfs_agent.proofs.agent.Agent.sync_read.Goals as goal

pub returns-in_default-copy-clause-handle : goal.returns-in_default-copy-clause-handle
returns-in_default-copy-clause-handle g c =
    subst (λ (w : WorkingCopy). HasHandle g.S.Store.tells c.args.self.now (record { row = c.handle.inside.row; file = c.handle.inside.file; mode = c.handle.inside.mode; work = w }))
    (sym (read-back c.handle.inside.work c.read.new.self c.seek.new.self _ c.position-before.result c.in-Ok-read.ensures.moved c.seek.ensures c.position-before.ensures)) (rw (← c.handle.view_is) at c.requires.handle)

pub keep-requires-clause-local : goal.keep-requires-clause-local
keep-requires-clause-local g c =
    read-local g.S.Store.tells c.args.self.now c.know_kept.ensures (record { row = c.handle.inside.row; file = c.handle.inside.file; mode = c.handle.inside.mode; work = c.handle.inside.work }) (rw (← c.handle.view_is) at c.requires.handle) c.args.len c.args.at c.in-Ok-copy.told (λ far. c.in-Ok-copy.ensures ∙ c.in-Ok-read.ensures.bytes far)

pub returns-clause-local : goal.returns-clause-local
returns-clause-local g c =
    rw (← c.handle.view_is)
    (local-told g.S.Store.tells c.args.self.now c.keep.new.self (op.SyncRead c.handle.inside.row c.args.len c.args.at) (reply.Read c.in-Ok-copy.told)
    (λ (bytes : Text) answered. answered ≡ reply.Read bytes) c.in-Ok-read.bytes
    (read-local g.S.Store.tells c.args.self.now c.know_kept.ensures (record { row = c.handle.inside.row; file = c.handle.inside.file; mode = c.handle.inside.mode; work = c.handle.inside.work }) (rw (← c.handle.view_is) at c.requires.handle) c.args.len c.args.at c.in-Ok-copy.told (λ far. c.in-Ok-copy.ensures ∙ c.in-Ok-read.ensures.bytes far)) c.keep.ensures refl
    (ap reply.Read c.in-Ok-copy.ensures))

pub returns-clause-handle : goal.returns-clause-handle
returns-clause-handle g c =
    read-has g.S.Store.tells c.args.self.now c.know_kept.ensures (record { row = c.handle.inside.row; file = c.handle.inside.file; mode = c.handle.inside.mode; work = c.handle.inside.work }) (rw (← c.handle.view_is) at c.requires.handle) c.args.len c.args.at c.in-Ok-copy.told (λ far. c.in-Ok-copy.ensures ∙ c.in-Ok-read.ensures.bytes far)
    c.keep.new.self c.read.new.self c.keep.ensures
    (c.in-Ok-read.ensures.moved
    ∙ ap (λ (b : Text). record c.handle.inside.work { position = min (place_in c.handle.inside.work c.args.at) c.handle.inside.work.length + length b }) (sym c.in-Ok-copy.ensures))
