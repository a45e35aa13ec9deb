-- What a write of an access handle relies on.
use Rattle.std.proofs.Common.{◌≡◌, ℕ, suc, ◌+◌, ◌-◌, ◌*◌, ◌^◌, ◌<◌, ◌≤◌, Some, None, Option, option_map, List, length, refl, sym, ap, ◌∙◌, subst, arith}
use Rattle.std.specs.Prelude.{max}
use Rattle.opfs_base.specs.Blocks.{blocks}
use Rattle.opfs_base.specs.Places.{Place}
use Rattle.opfs_base.specs.Texts.{Text}
use Rattle.opfs_base.specs.Units.{origin_of}
use Rattle.opfs_hist.specs.declared.op.Op.TheVariants as op
use Rattle.opfs_laws.proofs.OwnSums.{row-part}
use Rattle.opfs_laws.specs.Lengths.Kept.{Kept}
use Rattle.opfs_machine.specs.declared.own.HandleOutline.{HandleOutline}
use Rattle.opfs_machine.specs.declared.own.Outline.TheVariants as outline
use Rattle.opfs_machine.specs.declared.state.FileRow.{FileRow}
use Rattle.opfs_machine.specs.declared.state.Sizes.{Sizes}
use Rattle.opfs_machine.specs.Agents.{open_handle}
use Rattle.opfs_machine.specs.Contents.{in_lengths}
use Rattle.opfs_machine.specs.Rows.{file_at}
use Rattle.opfs_machine.specs.Rulings.{ruling, reserve_for, size_written}
use Rattle.opfs_machine.specs.Sums.{usage, pool, charge, reserve_of}
use Rattle.opfs_state_rows.proofs.standing.Counted.{pool-is, charge-is}
use Rattle.opfs_state_rows.specs.Standing.Seen.{Machine}
use Rattle.opfs_state_rows.specs.Standing.Sums.{fixed_charge}
use Rattle.opfs_state_rows.proofs.changes.Found.{some-is, handle-own}
use Rattle.opfs_state_rows.proofs.changes.Told.{written-told, handle-told}
use Rattle.opfs_state_rows.specs.Changes.Allowed.{MayApply}
use Rattle.opfs_state_rows.specs.Changes.Asking.{target_of, handle_place}
use Rattle.opfs_state_rows.specs.Changes.Growing.{IsWriting}

pub record IsWriteOf (m : Machine) (k row size : ℕ) (target : Option Place) : Type 0 where
  pub handle : HandleOutline
  pub is : open_handle in_lengths m k row ≡ Some handle
  pub named : target ≡ Some handle.file
  pub room : pool in_lengths m + (reserve_for handle.reserve size - handle.reserve) ≤ m.limits.blocks
  pub area : charge in_lengths m + 8 * (reserve_for handle.reserve size - handle.reserve) + 7 ≤ m.limits.area

pub write-of : (m : Machine) (z : Sizes) (k row : ℕ) (bytes : Text) (at : Option ℕ) (target : Option Place) → MayApply m z k (op.SyncWrite row bytes at) → target ≡ target_of m k (op.SyncWrite row bytes at)
    → IsWriteOf m k row (size_written z at bytes) target
unfolding ruling target_of
write-of m z k row bytes at target may named =
    let told = written-told m z k row (size_written z at bytes) may.need may.ruled in
    record { handle = told.0; is = told.1; named = named ∙ ap handle_place told.1; room = omega (arith, may.pool, told.2); area = omega (arith, may.area, told.3) }

pub truncate-of : (m : Machine) (z : Sizes) (k row size : ℕ) (target : Option Place) → MayApply m z k (op.SyncTruncate row size) → target ≡ target_of m k (op.SyncTruncate row size)
    → IsWriteOf m k row size target
unfolding ruling target_of
truncate-of m z k row size target may named =
    let told = written-told m z k row size may.need may.ruled in
    record { handle = told.0; is = told.1; named = named ∙ ap handle_place told.1; room = omega (arith, may.pool, told.2); area = omega (arith, may.area, told.3) }

-- What a place, read of a target, is.
pub one-place : {p q : Place} {o : Option Place} → o ≡ Some p → o ≡ Some q → q ≡ p
one-place h g = some-is (sym g ∙ h)

pub no-place : {p : Place} {o : Option Place} → o ≡ None → o ≡ Some p → ⊥
no-place h g = cc

pub reserve-part : (m : Machine) (k row : ℕ) (h : HandleOutline) → open_handle in_lengths m k row ≡ Some h → h.reserve ≤ pool in_lengths m
reserve-part m k row h is = let part = row-part reserve_of m k row (outline.Handle h) (handle-own m k row h is) in omega (arith, part)

pub blocks-larger : (a b : ℕ) → blocks (max a b) ≤ max (blocks a) (blocks b)
blocks-larger a b = omega arith

pub blocks-least : (a b : ℕ) → a ≤ b → blocks a ≤ blocks b
blocks-least a b h = omega (arith, h)

quota-of : (used pool charge fixed reserve need present was size area : ℕ) → used ≤ pool → reserve ≤ pool → charge ≡ fixed + 8 * pool → charge + 8 * (max reserve size - reserve) + 7 ≤ area → area < 2 ^ 64
    → present ≤ max was size → used + present < 2 ^ 64 + was
quota-of used pool charge fixed reserve need present was size area a b c d e f = omega (arith, a, b, c, d, e, f)

pub writing : (m : Machine) (k row size present area : ℕ) (target : Option Place) (place : Place) → Kept m → (w : IsWriteOf m k row size target) → target ≡ Some place → area ≡ m.limits.area → area < 2 ^ 64
    → ((f : FileRow ℕ) → file_at m place ≡ Some f → blocks present ≤ max (blocks f.present) (blocks size)) → IsWriting m k row place present size
writing m k row size present area target place kept w told is small most = record {
  handle = w.handle;
  is = w.is;
  same = one-place told w.named;
  room = w.room;
  quota = λ f found.
      quota-of (usage in_lengths m (origin_of place.0)) (pool in_lengths m) (charge in_lengths m) (fixed_charge m) w.handle.reserve 0 (blocks present) (blocks f.present) (blocks size) area (kept.usage (origin_of place.0)) (reserve-part m k row w.handle w.is)
      (charge-is m ∙ ap (λ n. fixed_charge m + 8 * n) (sym (pool-is m))) (omega (arith, w.area, is)) small (most f found);
}

pub no-size : (o : Option (FileRow ℕ)) (f : FileRow ℕ) → option_map (λ (x : FileRow ℕ). x.present) o ≡ None → o ≡ Some f → ⊥
no-size None f h g = cc
no-size (Some x) f h g = cc

-- The file of an access handle that is flushed.
pub flush-of : (m : Machine) (z : Sizes) (k row : ℕ) (target : Option Place) → MayApply m z k (op.SyncFlush row) → target ≡ target_of m k (op.SyncFlush row)
    → (h : HandleOutline) × (open_handle in_lengths m k row ≡ Some h) × (target ≡ Some h.file)
unfolding ruling target_of
flush-of m z k row target may named =
    let told = handle-told m k row may.need may.ruled in
    (told.0, told.1, named ∙ ap handle_place told.1)
