-- An access handle that may write keeps blocks enough for what is not stored for good.
use Rattle.std.proofs.Common.{◌≡◌, ◌⊎◌, ℕ, zero, suc, ◌+◌, ◌-◌, ◌*◌, ◌^◌, ◌<◌, ◌≤◌, Bool, true, false, List, [], ◌∷◌, sum_by, flat_map, Some, None, Option, refl, sym, ap, ◌∙◌, subst, inl, inr, arith}
use Rattle.std.proofs.lemmas.List.Sums.{sum_by-cons}
use Rattle.opfs_base.specs.Blocks.{blocks}
use Rattle.opfs_base.specs.Places.{Place}
use Rattle.opfs_base.specs.Units.{origin_of}
use Rattle.opfs_hist.specs.declared.op.Mode.{Mode}
use Rattle.opfs_hist.specs.declared.op.Mode.TheVariants as mode
use Rattle.opfs_laws.specs.Covered.{now_of, stored_of}
use Rattle.opfs_laws.specs.Holders.{counts, AreHolders, IsLockOf}
use Rattle.opfs_laws.specs.Lengths.Kept.{Kept, hold_in, holders_in, writer_kept, kept_at}
use Rattle.opfs_locks.specs.Holding.{IsTakenAs}
use Rattle.opfs_locks.specs.Taking.{Lock}
use Rattle.opfs_locks.specs.declared.LockValue.TheVariants as value
use Rattle.opfs_locks.specs.declared.Want.{Want}
use Rattle.opfs_locks.specs.declared.Want.TheVariants as want
use Rattle.opfs_machine.specs.declared.own.HandleOutline.{HandleOutline}
use Rattle.opfs_machine.specs.declared.own.Outline.{Outline}
use Rattle.opfs_machine.specs.declared.own.Outline.TheVariants as outline
use Rattle.opfs_machine.specs.declared.state.Limits.{Limits}
use Rattle.opfs_machine.specs.declared.state.Agent.{Agent}
use Rattle.opfs_machine.specs.declared.state.FileRow.{FileRow}
use Rattle.opfs_machine.specs.Agents.{with_own}
use Rattle.opfs_machine.specs.Contents.{in_lengths}
use Rattle.opfs_machine.specs.Rows.{file_at}
use Rattle.opfs_machine.specs.Rulings.{lock_in, want_of, is_read_write}
use Rattle.opfs_machine.specs.Sums.{all_own, reserve_of, usage, pool, charge}
use Rattle.opfs_register.specs.Slots.{slot_in, handle_at, with_slot}
use Rattle.opfs_state_rows.proofs.standing.Counted.{pool-is, charge-is}
use Rattle.opfs_state_rows.proofs.standing.OpenHandles.{slot-is-handle}
use Rattle.opfs_state_rows.proofs.standing.SlotMoves.{IsRowOf, sum-slot, closed-handle-row, handle-row}
use Rattle.opfs_state_rows.specs.Standing.Moves.{kept_amounts}
use Rattle.opfs_state_rows.specs.Standing.Seen.{Machine}
use Rattle.opfs_state_rows.specs.Standing.Sums.{fixed_charge}
use Rattle.opfs_state_rows.proofs.changes.Found.{IsHeld, IsHeldIn, counts-itself}
use Rattle.opfs_state_rows.proofs.changes.Reckoned.{Reckons, file-reckons, handle-reckons}

-- A sum of products whose first factors add up to nothing.
none-kept : (p : Place) (xs : List Outline) → sum_by (λ r. counts p want.Exclusive (hold_in r)) xs ≡ 0 → sum_by (writer_kept p) xs ≡ 0
none-kept p [] none = refl
none-kept p (x ∷ xs) none =
    let f = λ (r : Outline). counts p want.Exclusive (hold_in r) in
    let whole = sum_by-cons f x xs in
    let kept = sum_by-cons (writer_kept p) x xs in
    let first : f x ≡ 0 = omega (arith, whole, none) in
    let rest = none-kept p xs (omega (arith, whole, none)) in
    let here : writer_kept p x ≡ 0 = ap (λ n. n * reserve_of x) first ∙ times (reserve_of x) in
    omega (arith, kept, rest, here)
  where
    times : (n : ℕ) → 0 * n ≡ 0
    times n = omega arith

one-writer : (l : Lock) (count : Want → ℕ) → IsLockOf l count → l.0 ≡ value.Exclusive → count want.Exclusive ≡ 1
one-writer (value.Free, n) count h is = cc
one-writer (value.Exclusive, n) count h is = h.1.exclusive
one-writer (value.Shared, n) count h is = cc
one-writer (value.ReadOnly, n) count h is = cc

writes-alone : (mode : Mode) → is_read_write mode ≡ true → want_of mode ≡ want.Exclusive
writes-alone mode.ReadWrite h = refl
writes-alone mode.ReadOnly h = cc

one-times : (n : ℕ) → 1 * n ≡ n
one-times n = omega arith

module _ (m : Machine) (at n : ℕ) (h : HandleOutline) (found : handle_at m.agents at n ≡ Some h) (writes : is_read_write h.mode ≡ true) (kept : Kept m) (f : FileRow ℕ) (there : file_at m h.file ≡ Some f) (taken : IsTakenAs (want_of h.mode) f.lock) where
  alone : holders_in m h.file want.Exclusive ≡ 1
  alone =
      one-writer f.lock (holders_in m h.file) (subst (λ o. IsLockOf (lock_in o) (holders_in m h.file)) there (kept.locks h.file))
      (subst (λ w. IsTakenAs w f.lock) (writes-alone h.mode writes) taken)

  pub writer-keeps : kept_at m h.file ≡ h.reserve
  writer-keeps =
      let p = h.file in
      let slot = slot-is-handle m.agents at n h found in
      let count = λ (r : Outline). counts p want.Exclusive (hold_in r) in
      let after = flat_map (λ (a : Agent Outline). a.own) (with_slot m.agents at n outline.ClosedHandle) in
      let one : count (outline.Handle h) ≡ 1 = ap (λ w. counts p want.Exclusive (Some (p, w))) (writes-alone h.mode writes) ∙ counts-itself p want.Exclusive in
      let others : sum_by count after ≡ 0 = omega (arith, sum-slot count m.agents at n (outline.Handle h) outline.ClosedHandle slot, one, alone) in
      let rest = none-kept p after others in
      let own : writer_kept p (outline.Handle h) ≡ h.reserve = ap (λ k. k * h.reserve) one ∙ one-times h.reserve in
      omega (arith, sum-slot (writer_kept p) m.agents at n (outline.Handle h) outline.ClosedHandle slot, own, rest)

  pub blocks-kept : blocks f.present ≤ blocks f.durable + h.reserve
  blocks-kept =
      elim (kept.covered h.file f there) [
        | inl same ↦ let even : blocks f.present ≡ blocks f.durable = ap (λ x. blocks x.0) same in omega (arith, even)
        | inr more ↦ omega (arith, more.1, writer-keeps)
      ]

-- There is room for what an access handle stores, once it keeps nothing.
module _ (m one : Machine) (at n : ℕ) (h : HandleOutline) (new : Outline) (found : handle_at m.agents at n ≡ Some h) (is : one ≡ with_own m (suc at) (suc n) new) (row : IsRowOf h.file.0 new)
    (none : (kept_amounts new).blocks ≡ 0) (free : (kept_amounts new).usage ≡ 0) (kept : Kept m) where
  reckons : Reckons m one h.file.0 (record { usage = 0; blocks = h.reserve; charge = 0 }) (kept_amounts new)
  reckons = subst (λ (x : Machine). Reckons m x h.file.0 (record { usage = 0; blocks = h.reserve; charge = 0 }) (kept_amounts new)) (sym is) (handle-reckons m at n h new found row)

  pub flush-room : (f : FileRow ℕ) → file_at m h.file ≡ Some f → IsTakenAs (want_of h.mode) f.lock → is_read_write h.mode ≡ true → pool in_lengths one + blocks f.present ≤ one.limits.blocks + blocks f.durable
  flush-room f there taken writes =
      let same : one.limits.blocks ≡ m.limits.blocks = ap (λ (l : Limits). l.blocks) reckons.limits in
      omega (arith, reckons.pool, none, kept.pool, same, blocks-kept m at n h found writes kept f there taken)

  pub undo-room : (area : ℕ) (f : FileRow ℕ) → area ≡ m.limits.area → area < 2 ^ 64 → file_at m h.file ≡ Some f → usage in_lengths one (origin_of h.file.0) + blocks f.durable < 2 ^ 64 + blocks f.present
  undo-room area f is small there =
      let part = file-reckons m h.file (λ x. record x { durable = 0 }) f there in
      let charged : charge in_lengths m ≡ fixed_charge m + 8 * pool in_lengths m = charge-is m ∙ ap (λ k. fixed_charge m + 8 * k) (sym (pool-is m)) in
      let empty : blocks 0 ≡ 0 = refl in
      omega (arith, reckons.usage, free, kept.usage (origin_of h.file.0), part.pool, empty, charged, kept.area, is, small)
