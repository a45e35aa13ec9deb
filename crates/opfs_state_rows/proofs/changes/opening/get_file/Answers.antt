use Rattle.std.proofs.Common.{◌≡◌, ℕ, suc, ◌+◌, ◌-◌, ◌<◌, ◌≤◌, ◌^◌, Some, None, Option, List, length, refl, sym, ap, ◌∙◌, subst, arith}
use Rattle.opfs_hist.specs.declared.op.Op.TheVariants as op
use Rattle.opfs_state_rows.specs.Standing.Seen.{Machine, Seen}
use Rattle.opfs_state_rows.proofs.changes.Found.{place-number}
use Rattle.opfs_state_rows.specs.Changes.Changed.{IsDone}
use Rattle.opfs_state_rows.proofs.changes.Plainly.{snapshot-done}
use Rattle.opfs_state_rows.specs.Changes.Allowed.{MayApply}
use Rattle.opfs_state_rows.proofs.changes.opening.get_file.Goals as goal

pub returns-clause-done : goal.returns-clause-done
returns-clause-done c = λ extents.
    subst (λ k. IsDone c.args.store.now c.count.new.self c.args.sizes k (op.GetFile c.args.file.now) extents) (place-number c.args.agent c.requires.may.above)
    (snapshot-done c.args.store.now c.add_snapshot.new.self c.count.new.self c.args.sizes (c.args.agent - 1) extents c.count.ensures (ap (λ (x : Seen). x.tree) c.add_snapshot.ensures) c.args.file.now
    (subst (λ k. MayApply c.args.store.now.machine c.args.sizes k (op.GetFile c.args.file.now)) (sym (place-number c.args.agent c.requires.may.above)) c.requires.may.may) (ap (λ (x : Seen). x.machine) c.add_snapshot.ensures))
