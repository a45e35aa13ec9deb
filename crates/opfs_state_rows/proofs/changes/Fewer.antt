-- A lock has fewer holders than 32 bits can count.
use Rattle.std.proofs.Common.{◌≡◌, ◌⊎◌, ℕ, zero, suc, ◌+◌, ◌*◌, ◌<◌, ◌≤◌, Bool, true, false, cond, List, [], ◌∷◌, ◌++◌, length, sum_by, flat_map, Option, Some, None, refl, sym, ap, ◌∙◌, subst, inl, inr, arith}
use Rattle.std.specs.Prelude.{slice_get, unwrap_or}
use Rattle.std.proofs.lemmas.List.{length-append}
use Rattle.std.proofs.lemmas.List.Sums.{sum_by-cons}
use Rattle.std.specs.Ordering.{eq_by_cmp}
use Rattle.opfs_base.specs.Places.{Place, place_cmp}
use Rattle.opfs_laws.specs.Holders.{counts, AreHolders, IsLockOf}
use Rattle.opfs_laws.specs.Lengths.Kept.{Kept, hold_in, holders_in}
use Rattle.opfs_locks.specs.Taking.{Lock}
use Rattle.opfs_locks.specs.declared.LockValue.TheVariants as value
use Rattle.opfs_locks.specs.declared.Want.{Want}
use Rattle.opfs_locks.specs.declared.Want.TheVariants as want
use Rattle.opfs_machine.specs.declared.own.Outline.{Outline}
use Rattle.opfs_machine.specs.declared.state.Agent.{Agent}
use Rattle.opfs_machine.specs.declared.state.FileRow.{FileRow}
use Rattle.opfs_machine.specs.Agents.{agent_of, nobody}
use Rattle.opfs_machine.specs.Rows.{file_at}
use Rattle.opfs_machine.specs.Rulings.{lock_in}
use Rattle.opfs_machine.specs.Sums.{all_own}
use Rattle.opfs_register.specs.Slots.{most_rows}
use Rattle.opfs_state_rows.specs.Standing.Seen.{Machine}

pub below-or-last : (k n : ℕ) → k < n + 1 → (k < n) ⊎ (k ≡ n)
below-or-last zero zero h = inr refl
below-or-last zero (suc n) h = inl (omega arith)
below-or-last (suc k) zero h = absurd (omega (arith, h))
below-or-last (suc k) (suc n) h = elim (below-or-last k n (omega (arith, h))) [
  | inl less ↦ inl (omega (arith, less))
  | inr same ↦ inr (ap suc same)
]

at-most-one : (b : Bool) → cond b 1 0 ≤ 1
at-most-one true = omega arith
at-most-one false = omega arith

counts-one : (place : Place) (w : Want) (o : Option (Place × Want)) → counts place w o ≤ 1
counts-one place w None = omega arith
counts-one place w (Some held) = at-most-one _

sum-most : (f : Outline → ℕ) → ((x : Outline) → f x ≤ 1) → (xs : List Outline) → sum_by f xs ≤ length xs
sum-most f most [] = omega arith
sum-most f most (x ∷ xs) = let rest = sum-most f most xs in let whole = sum_by-cons f x xs in omega (arith, rest, whole, most x)

own-most : (agents : List (Agent Outline)) → ((i : ℕ) → i < length agents → length (unwrap_or (slice_get agents i) nobody).own ≤ 60000001) → length (flat_map (λ (a : Agent Outline). a.own) agents) ≤ length agents * 60000001
own-most [] few = omega arith
own-most (a ∷ agents) few =
    let rest = own-most agents (λ i inside. few (suc i) (omega (arith, inside))) in
    let first : length a.own ≤ 60000001 = few 0 (omega arith) in
    let whole = length-append a.own (flat_map (λ (a : Agent Outline). a.own) agents) in
    omega (arith, rest, first, whole)

holders-of : (l : Lock) (count : Want → ℕ) (most : ℕ) → IsLockOf l count → ((w : Want) → count w ≤ most) → l.1 ≤ most
holders-of (value.Free, n) count most h few = omega (arith, h.0)
holders-of (value.Exclusive, n) count most h few = omega (arith, h.0)
holders-of (value.Shared, n) count most h few = omega (arith, h.1.shared, few want.Shared)
holders-of (value.ReadOnly, n) count most h few = omega (arith, h.1.read_only, few want.ReadOnly)

times-most : (n : ℕ) → n ≤ 64 → n * 60000001 < 4294967295
times-most n h = omega (arith, h)

pub lock-small : (m : Machine) (place : Place) (f : FileRow ℕ) → Kept m → file_at m place ≡ Some f → length m.agents ≤ 64 → ((at : ℕ) → at < length m.agents → length (agent_of m (suc at)).own ≤ most_rows) → f.lock.1 < 4294967295
lock-small m place f kept found few rows =
    let all = own-most m.agents rows in
    let count = λ (w : Want). sum-most (λ r. counts place w (hold_in r)) (λ r. counts-one place w (hold_in r)) (all_own m) in
    let held = holders-of f.lock (holders_in m place) (length (all_own m)) (subst (λ o. IsLockOf (lock_in o) (holders_in m place)) found (kept.locks place)) count in
    omega (arith, held, all, times-most (length m.agents) few)
