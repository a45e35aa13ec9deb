-- A lock that is taken or released still tells its holders.
use Rattle.std.proofs.Common.{◌≡◌, ℕ, ◌+◌, ◌-◌, true, false, Some, refl, sym, ap, ◌∙◌, subst, arith, eqb, cond}
use Rattle.std.proofs.lemmas.Bool.{eqb-true, eqb-false}
use Rattle.opfs_locks.specs.Taking.{Lock, taken, released, open_lock}
use Rattle.opfs_locks.specs.declared.LockValue.TheVariants as value
use Rattle.opfs_locks.specs.declared.Want.{Want}
use Rattle.opfs_locks.specs.declared.Want.TheVariants as want
use Rattle.opfs_laws.specs.Holders.{same_want, AreHolders, IsLockOf}

abbrev pub one_of : Want → Want → ℕ
one_of v w = cond (same_want v w) 1 0

lock_same : {a b : Lock} → Some a ≡ Some b → a ≡ b
lock_same h = cc

holders_same : (count other : Want → ℕ) (e s r : ℕ) → ((v : Want) → other v ≡ count v) → AreHolders count e s r → AreHolders other e s r
holders_same count other e s r same h = record {
  exclusive = same want.Exclusive ∙ h.exclusive;
  shared = same want.Shared ∙ h.shared;
  read_only = same want.ReadOnly ∙ h.read_only;
}

pub lock-same : (lock : Lock) (count other : Want → ℕ) → ((v : Want) → other v ≡ count v) → IsLockOf lock count → IsLockOf lock other
lock-same (value.Free, n) count other same h = (h.0, holders_same count other 0 0 0 same h.1)
lock-same (value.Exclusive, n) count other same h = (h.0, holders_same count other 1 0 0 same h.1)
lock-same (value.Shared, n) count other same h = (h.0, holders_same count other 0 n 0 same h.1)
lock-same (value.ReadOnly, n) count other same h = (h.0, holders_same count other 0 0 n same h.1)

-- The holders once there is one more.
holders-more : (w : Want) (count more : Want → ℕ) (e s r : ℕ) → ((v : Want) → more v ≡ count v + one_of v w) → AreHolders count e s r
    → AreHolders more (e + one_of want.Exclusive w) (s + one_of want.Shared w) (r + one_of want.ReadOnly w)
holders-more w count more e s r one h = record {
  exclusive = one want.Exclusive ∙ ap (λ n. n + one_of want.Exclusive w) h.exclusive;
  shared = one want.Shared ∙ ap (λ n. n + one_of want.Shared w) h.shared;
  read_only = one want.ReadOnly ∙ ap (λ n. n + one_of want.ReadOnly w) h.read_only;
}

pub lock-taken : (w : Want) (lock new : Lock) (count more : Want → ℕ) → taken w lock ≡ Some new → ((v : Want) → more v ≡ count v + one_of v w)
    → IsLockOf lock count → IsLockOf new more
lock-taken want.Exclusive (value.Free, n) new count more is one h =
    subst (λ l. IsLockOf l more) (lock_same is) (refl, holders-more want.Exclusive count more 0 0 0 one h.1)
lock-taken want.Exclusive (value.Exclusive, n) new count more is one h = cc
lock-taken want.Exclusive (value.Shared, n) new count more is one h = cc
lock-taken want.Exclusive (value.ReadOnly, n) new count more is one h = cc
lock-taken want.Shared (value.Free, n) new count more is one h =
    subst (λ l. IsLockOf l more) (lock_same is) (omega arith, holders-more want.Shared count more 0 0 0 one h.1)
lock-taken want.Shared (value.Exclusive, n) new count more is one h = cc
lock-taken want.Shared (value.Shared, n) new count more is one h =
    subst (λ l. IsLockOf l more) (lock_same is) (omega arith, holders-more want.Shared count more 0 n 0 one h.1)
lock-taken want.Shared (value.ReadOnly, n) new count more is one h = cc
lock-taken want.ReadOnly (value.Free, n) new count more is one h =
    subst (λ l. IsLockOf l more) (lock_same is) (omega arith, holders-more want.ReadOnly count more 0 0 0 one h.1)
lock-taken want.ReadOnly (value.Exclusive, n) new count more is one h = cc
lock-taken want.ReadOnly (value.Shared, n) new count more is one h = cc
lock-taken want.ReadOnly (value.ReadOnly, n) new count more is one h =
    subst (λ l. IsLockOf l more) (lock_same is) (omega arith, holders-more want.ReadOnly count more 0 0 n one h.1)

less-holders : (w : Want) (count less : Want → ℕ) (e s r : ℕ) → ((v : Want) → count v ≡ less v + one_of v w) → AreHolders count e s r
    → (less want.Exclusive + one_of want.Exclusive w ≡ e) × (less want.Shared + one_of want.Shared w ≡ s) × (less want.ReadOnly + one_of want.ReadOnly w ≡ r)
less-holders w count less e s r one h =
    (sym (one want.Exclusive) ∙ h.exclusive, sym (one want.Shared) ∙ h.shared, sym (one want.ReadOnly) ∙ h.read_only)

some_one : (w : Want) (less : Want → ℕ) → less want.Exclusive + one_of want.Exclusive w ≡ 0 → less want.Shared + one_of want.Shared w ≡ 0 → less want.ReadOnly + one_of want.ReadOnly w ≡ 0 → ⊥
some_one want.Exclusive less a b c = omega arith
some_one want.Shared less a b c = omega arith
some_one want.ReadOnly less a b c = omega arith

writer_released : (w : Want) (less : Want → ℕ) → less want.Exclusive + one_of want.Exclusive w ≡ 1 → less want.Shared + one_of want.Shared w ≡ 0 → less want.ReadOnly + one_of want.ReadOnly w ≡ 0
    → AreHolders less 0 0 0
writer_released want.Exclusive less a b c = record { exclusive = omega arith; shared = omega arith; read_only = omega arith }
writer_released want.Shared less a b c = absurd (omega arith)
writer_released want.ReadOnly less a b c = absurd (omega arith)

stream_released : (w : Want) (less : Want → ℕ) (n : ℕ) → less want.Exclusive + one_of want.Exclusive w ≡ 0 → less want.Shared + one_of want.Shared w ≡ n → less want.ReadOnly + one_of want.ReadOnly w ≡ 0
    → AreHolders less 0 (n - 1) 0
stream_released want.Exclusive less n a b c = absurd (omega arith)
stream_released want.Shared less n a b c = record { exclusive = omega arith; shared = omega arith; read_only = omega arith }
stream_released want.ReadOnly less n a b c = absurd (omega arith)

reader_released : (w : Want) (less : Want → ℕ) (n : ℕ) → less want.Exclusive + one_of want.Exclusive w ≡ 0 → less want.Shared + one_of want.Shared w ≡ 0 → less want.ReadOnly + one_of want.ReadOnly w ≡ n
    → AreHolders less 0 0 (n - 1)
reader_released want.Exclusive less n a b c = absurd (omega arith)
reader_released want.Shared less n a b c = absurd (omega arith)
reader_released want.ReadOnly less n a b c = record { exclusive = omega arith; shared = omega arith; read_only = omega arith }

pub lock-released : (w : Want) (lock : Lock) (count less : Want → ℕ) → ((v : Want) → count v ≡ less v + one_of v w) → IsLockOf lock count → IsLockOf (released lock) less
lock-released w (value.Free, n) count less one h =
    let left = less-holders w count less 0 0 0 one h.1 in absurd (some_one w less left.0 left.1 left.2)
lock-released w (value.Exclusive, n) count less one h =
    let left = less-holders w count less 1 0 0 one h.1 in (refl, writer_released w less left.0 left.1 left.2)
lock-released w (value.Shared, n) count less one h =
    let left = less-holders w count less 0 n 0 one h.1 in
    let held = stream_released w less n left.0 left.1 left.2 in
    elim (eqb n 1) as (λ b. eqb n 1 ≡ b → IsLockOf (elim b [ true ↦ open_lock | false ↦ (value.Shared, n - 1) ]) less) [
      | true ↦ λ is. (refl, subst (λ m. AreHolders less 0 m 0) (let e = eqb-true n 1 is in omega (arith, e)) held)
      | false ↦ λ is. (let ne = eqb-false n 1 is in omega (arith, ne, h.0), held)
    ] refl
lock-released w (value.ReadOnly, n) count less one h =
    let left = less-holders w count less 0 0 n one h.1 in
    let held = reader_released w less n left.0 left.1 left.2 in
    elim (eqb n 1) as (λ b. eqb n 1 ≡ b → IsLockOf (elim b [ true ↦ open_lock | false ↦ (value.ReadOnly, n - 1) ]) less) [
      | true ↦ λ is. (refl, subst (λ m. AreHolders less 0 0 m) (let e = eqb-true n 1 is in omega (arith, e)) held)
      | false ↦ λ is. (let ne = eqb-false n 1 is in omega (arith, ne, h.0), held)
    ] refl
