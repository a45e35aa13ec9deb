use Rattle.std.proofs.Common.{◌≡◌, suc, ◌-◌, sym, ap, subst, ◌∙◌}
use Rattle.opfs_base.specs.Places.{place_of}
use Rattle.opfs_hist.specs.declared.op.Op.TheVariants as op
use Rattle.opfs_locks.specs.declared.Want.{Want}
use Rattle.opfs_machine.specs.declared.own.HandleOutline.{HandleOutline}
use Rattle.opfs_machine.specs.declared.own.Outline.TheVariants as outline
use Rattle.opfs_machine.specs.Agents.{adds_own}
use Rattle.opfs_machine.specs.Effects.{with_lock}
use Rattle.opfs_machine.specs.Rows.{with_file}
use Rattle.opfs_state_rows.specs.Standing.Seen.{Seen}
use Rattle.opfs_state_rows.proofs.changes.Found.{place-number}
use Rattle.opfs_state_rows.proofs.changes.Opened.{sync-given, sync-target, sync-done}
use Rattle.opfs_state_rows.proofs.changes.Writing.{no-place, one-place}
use Rattle.opfs_state_rows.specs.Changes.Changed.{IsDone}
use Rattle.opfs_state_rows.specs.Changes.Growing.{IsLockGiven}
use Rattle.opfs_tree.specs.Rows.{change_at, locked}
use Rattle.opfs_state_rows.proofs.changes.opening.create_sync.Goals as goal

pub unreachable-requires : goal.unreachable-requires
unreachable-requires c = no-place c.in_default.is (sync-target c.args.store.now.machine c.args.agent c.args.file.now c.args.mode c.args.target c.requires.target)

pub take-held-requires-clause-given : goal.take-held-requires-clause-given
take-held-requires-clause-given c =
    subst (IsLockGiven c.args.store.now.machine (place_of c.args.file.now)) (sym c.want_of.ensures) (sync-given c.args.store.now.machine c.args.sizes c.args.agent c.args.file.now c.args.mode c.requires.may.may)

pub returns-clause-done : goal.returns-clause-done
returns-clause-done c = λ extents.
    let m = c.args.store.now.machine in
    let place = one-place c.in-Some.is (sync-target m c.args.agent c.args.file.now c.args.mode c.args.target c.requires.target) in
    let handle = c.make.ensures ∙ ap (λ p. record { file = p; mode = c.args.mode; reserve = 0 }) (sym place) in
    subst (λ k. IsDone c.args.store.now c.count.new.self c.args.sizes k (op.CreateSyncAccessHandle c.args.file.now c.args.mode) extents) (place-number c.args.agent c.requires.may.above)
    (sync-done c.args.store.now c.take-held.new.store c.open_handle.new.self c.count.new.self c.args.sizes (c.args.agent - 1) c.args.file.now extents c.args.mode (rw c.want_of.ensures at c.take-held.ensures.machine) (rw c.want_of.ensures at c.take-held.ensures.tree)
    (ap (λ (x : Seen). x.machine) c.open_handle.ensures ∙ ap (λ (h : HandleOutline). adds_own c.take-held.new.store.machine (suc (c.args.agent - 1)) (outline.Handle h)) handle)
    (ap (λ (x : Seen). x.tree) c.open_handle.ensures) c.count.ensures)
