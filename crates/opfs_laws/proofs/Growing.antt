-- How much the pool and the charge may grow by a call.
use Rattle.std.proofs.Common.{◌≡◌, ℕ, ◌+◌, ◌*◌, ◌≤◌, zero, suc, not, List, [], ◌∷◌, length, sum_by, Option, Some, None, option_map, refl, ap, ◌∙◌, inl, inr, arith}
use Rattle.std.proofs.lemmas.List.Sums.{sum_by-cons}
use Rattle.opfs_base.specs.Blocks.{blocks}
use Rattle.opfs_base.specs.Places.{Place, is_within}
use Rattle.opfs_base.specs.Texts.{Text}
use Rattle.opfs_base.specs.declared.locator.Kind.{Kind}
use Rattle.opfs_locks.specs.Taking.{Lock}
use Rattle.opfs_locks.specs.declared.LockValue.TheVariants as value
use Rattle.opfs_locks.specs.declared.Want.{Want}
use Rattle.opfs_locks.specs.declared.Want.TheVariants as want
use Rattle.opfs_machine.specs.declared.own.Own.{Own}
use Rattle.opfs_machine.specs.declared.own.Own.TheVariants as own
use Rattle.opfs_machine.specs.declared.state.Agent.{Agent}
use Rattle.opfs_machine.specs.declared.state.FileRow.{FileRow}
use Rattle.opfs_machine.specs.declared.state.Row.{Row}
use Rattle.opfs_machine.specs.declared.state.State.{State}
use Rattle.opfs_machine.specs.Agents.{agent_of, own_of, with_own, with_agent, adds_own}
use Rattle.opfs_machine.specs.Contents.{in_bytes, outline_of}
use Rattle.opfs_machine.specs.Effects.{made, with_changed, flushed, unlocked}
use Rattle.opfs_machine.specs.Rows.{row_at, file_at, with_row, with_file, without}
use Rattle.opfs_machine.specs.Rulings.{making, lock_in}
use Rattle.opfs_machine.specs.Sums.{row_charge, reserve_of, all_own, pool}
use Rattle.opfs_base.specs.Measures.{place_charge, mode_charge}
use Rattle.opfs_laws.specs.Covered.{writer_reserve, reserve_at, AreCovered}
use Rattle.opfs_laws.specs.Holders.{hold_of, counts, holders, IsLockOf, AreLocksOfHolders}
use Rattle.opfs_laws.proofs.LocksKept.{counts-here}
use Rattle.opfs_laws.proofs.Numbers.{IsNumber}
use Rattle.opfs_laws.proofs.OwnSums.{sum-adds, sum-sets, sum-same, row-part}
use Rattle.opfs_laws.proofs.RowSums.{sum-less, sum-put, sum-change, charge-change, stored_in, row_stored}

abbrev pub kept_by : Own → ℕ
kept_by r = reserve_of (outline_of r)

-- What the rows and modes are charged, the pool aside.
abbrev pub plain_charge : State Text Own → ℕ
plain_charge s = sum_by row_charge s.rows + sum_by mode_charge s.persistent

pub record Grows (s t : State Text Own) (n c : ℕ) : Type 0 where
  pub pool : pool in_bytes t ≤ pool in_bytes s + n
  pub plain : plain_charge t ≤ plain_charge s + c

pub grows-none : (s : State Text Own) → Grows s s 0 0
grows-none s = record { pool = omega arith; plain = omega arith }

-- Rows that stay, with own rows that keep so much more.
pub grows-agent : (s : State Text Own) (k : ℕ) (a : Agent Own) → IsNumber s k → a.own ≡ (agent_of s k).own → Grows s (with_agent s k a) 0 0
grows-agent s k a number same = let sum = sum-same kept_by s k a number same in record { pool = omega (arith, sum); plain = omega arith }

pub grows-adds : (s : State Text Own) (k : ℕ) (r : Own) → IsNumber s k → Grows s (adds_own s k r) (kept_by r) 0
grows-adds s k r number = let sum = sum-adds kept_by s k r number in record { pool = omega (arith, sum); plain = omega arith }

pub grows-sets : (s : State Text Own) (k n : ℕ) (r new : Own) (more : ℕ) → IsNumber s k → own_of (agent_of s k) n ≡ Some r → kept_by new ≤ kept_by r + more → Grows s (with_own s k n new) more 0
grows-sets s k n r new more number is most = let sum = sum-sets kept_by s k n r new number is in record { pool = omega (arith, sum, most); plain = omega arith }

pub grows-changed : (s : State Text Own) (k n : ℕ) (change : Own → Own) (more : ℕ) → IsNumber s k
    → ((r : Own) → own_of (agent_of s k) n ≡ Some r → kept_by (change r) ≤ kept_by r + more) → Grows s (with_changed s k n change) more 0
unfolding with_changed
grows-changed s k n change more number most =
    elim (own_of (agent_of s k) n) as (λ o. own_of (agent_of s k) n ≡ o → Grows s (elim o as (λ x. State Text Own) [ Some r ↦ with_own s k n (change r) | None ↦ s ]) more 0) [
      | Some r ↦ λ is. grows-sets s k n r (change r) more number is (most r is)
      | None ↦ λ is. record { pool = omega arith; plain = omega arith }
    ] refl

pub grows-both : (s t u : State Text Own) (n m c d : ℕ) → Grows s t n c → Grows t u m d → Grows s u (n + m) (c + d)
grows-both s t u n m c d a b = record { pool = omega (arith, a.pool, b.pool); plain = omega (arith, a.plain, b.plain) }

-- A file that is stored as it was.
stored-same : (change : FileRow Text → FileRow Text) (o : Option (FileRow Text)) → ((f : FileRow Text) → (change f).durable ≡ f.durable) → stored_in (option_map change o) ≡ stored_in o
stored-same change None keeps = refl
stored-same change (Some f) keeps = ap (λ b. blocks (length b)) (keeps f)

pub grows-file : (s : State Text Own) (p : Place) (change : FileRow Text → FileRow Text) → ((f : FileRow Text) → (change f).durable ≡ f.durable) → Grows s (with_file s p change) 0 0
grows-file s p change keeps =
    let sum = sum-change p change s.rows in
    let same = stored-same change (file_at s p) keeps in
    let plain = charge-change p change s.rows in
    record { pool = omega (arith, sum, same); plain = omega (arith, plain) }

pub grows-without : (s : State Text Own) (p : Place) → Grows s (without s p) 0 0
grows-without s p =
    let stored = sum-less row_stored (λ e. not (is_within p e.0)) s.rows in
    let plain = sum-less row_charge (λ e. not (is_within p e.0)) s.rows in
    record { pool = omega (arith, stored); plain = omega (arith, plain) }

pub grows-made : (s : State Text Own) (p : Place) (r : Row Text) (k : Kind) → row_charge (p, r) ≡ place_charge k p → row_stored (p, r) ≡ 0 → Grows s (made s p r) 0 (making k p (row_at s p)).charge
grows-made s p r k charged none =
    elim (row_at s p) as (λ o. row_at s p ≡ o → Grows s (elim o as (λ x. State Text Own) [ Some old ↦ s | None ↦ with_row s p r ]) 0 (making k p o).charge) [
      | Some old ↦ λ is. grows-none s
      | None ↦ λ is.
          let stored = sum-put row_stored p r s.rows is in
          let plain = sum-put row_charge p r s.rows is in
          record { pool = omega (arith, stored, none); plain = omega (arith, plain, charged) }
    ] refl

number-file : (s : State Text Own) (k : ℕ) (p : Place) (change : FileRow Text → FileRow Text) → IsNumber s k → IsNumber (with_file s p change) k
number-file s k p change h = record { index = h.index; is = h.is; within = h.within }

own-file : (s : State Text Own) (k n : ℕ) (p : Place) (change : FileRow Text → FileRow Text) → own_of (agent_of (with_file s p change) k) n ≡ own_of (agent_of s k) n
own-file s zero n p change = refl
own-file s (suc i) n p change = refl

-- A file that is stored with blocks that a row kept.
pub grows-stores : (s : State Text Own) (k n : ℕ) (r new : Own) (p : Place) (change : FileRow Text → FileRow Text) → IsNumber s k → own_of (agent_of s k) n ≡ Some r → kept_by new ≡ 0
    → stored_in (option_map change (file_at s p)) ≤ stored_in (file_at s p) + kept_by r
    → Grows s (with_own (with_file (with_file s p change) p unlocked) k n new) 0 0
grows-stores s k n r new p change number is none most =
    let u = with_file s p change in
    let v = with_file u p unlocked in
    let sum = sum-change p change s.rows in
    let plain = charge-change p change s.rows in
    let last = grows-file u p unlocked (λ f. refl) in
    let row_there = own-file u k n p unlocked ∙ own-file s k n p change ∙ is in
    let rows = sum-sets kept_by v k n r new (number-file u k p unlocked (number-file s k p change number)) row_there in
    record { pool = omega (arith, sum, last.pool, rows, none, most); plain = omega (arith, plain, last.plain) }

pub grows-flushes : (s : State Text Own) (k n : ℕ) (r new : Own) (p : Place) (change : FileRow Text → FileRow Text) → IsNumber s k → own_of (agent_of s k) n ≡ Some r → kept_by new ≡ 0
    → stored_in (option_map change (file_at s p)) ≤ stored_in (file_at s p) + kept_by r
    → Grows s (with_own (with_file s p change) k n new) 0 0
grows-flushes s k n r new p change number is none most =
    let u = with_file s p change in
    let sum = sum-change p change s.rows in
    let plain = charge-change p change s.rows in
    let rows = sum-sets kept_by u k n r new (number-file s k p change number) (own-file s k n p change ∙ is) in
    record { pool = omega (arith, sum, rows, none, most); plain = omega (arith, plain) }

-- The access handle that may write a file is the only one that keeps blocks for it.
none-kept : (q : Place) (xs : List Own) → sum_by (λ r. counts q want.Exclusive (hold_of r)) xs ≡ 0 → sum_by (writer_reserve q) xs ≡ 0
none-kept q [] h = refl
none-kept q (x ∷ xs) h =
    let split = sum_by-cons (λ r. counts q want.Exclusive (hold_of r)) x xs in
    let rest = none-kept q xs (omega (arith, split, h)) in
    let here : counts q want.Exclusive (hold_of x) ≡ 0 = omega (arith, split, h) in
    let nothing : writer_reserve q x ≡ 0 * reserve_of (outline_of x) = ap (λ n. n * reserve_of (outline_of x)) here in
    let whole = sum_by-cons (writer_reserve q) x xs in
    omega (arith, whole, rest, nothing)

one-writer : (lock : Lock) (count : Want → ℕ) → IsLockOf lock count → 1 ≤ count want.Exclusive → count want.Exclusive ≡ 1
one-writer (value.Free, n) count h one = absurd (omega (arith, h.1.exclusive, one))
one-writer (value.Exclusive, n) count h one = h.1.exclusive
one-writer (value.Shared, n) count h one = absurd (omega (arith, h.1.exclusive, one))
one-writer (value.ReadOnly, n) count h one = absurd (omega (arith, h.1.exclusive, one))

only-reserve : (s : State Text Own) (k n : ℕ) (r : Own) (p : Place) → IsNumber s k → own_of (agent_of s k) n ≡ Some r → hold_of r ≡ Some (p, want.Exclusive) → AreLocksOfHolders s
    → reserve_at s p ≡ kept_by r
only-reserve s k n r p number is holds locks =
    let t = with_own s k n own.ClosedHandle in
    let one : counts p want.Exclusive (hold_of r) ≡ 1 = counts-here p want.Exclusive want.Exclusive r holds in
    let part = row-part (λ x. counts p want.Exclusive (hold_of x)) s k n r is in
    let all = one-writer (lock_in (file_at s p)) (holders s p) (locks p) (omega (arith, part, one)) in
    let count = sum-sets (λ x. counts p want.Exclusive (hold_of x)) s k n r own.ClosedHandle number is in
    let left = none-kept p (all_own t) (omega (arith, count, one, all)) in
    let kept = sum-sets (writer_reserve p) s k n r own.ClosedHandle number is in
    let mine : writer_reserve p r ≡ 1 * reserve_of (outline_of r) = ap (λ n. n * reserve_of (outline_of r)) one in
    omega (arith, left, kept, mine)

-- What a flush stores, the row had kept.
pub flush-most : (s : State Text Own) (k n : ℕ) (r : Own) (p : Place) → IsNumber s k → own_of (agent_of s k) n ≡ Some r → hold_of r ≡ Some (p, want.Exclusive) → AreLocksOfHolders s → AreCovered s
    → stored_in (option_map flushed (file_at s p)) ≤ stored_in (file_at s p) + kept_by r
flush-most s k n r p number is holds locks covered =
    elim (file_at s p) as (λ o. file_at s p ≡ o → stored_in (option_map flushed o) ≤ stored_in o + kept_by r) [
      | None ↦ λ there. omega arith
      | Some f ↦ λ there. elim (covered p f there) as (λ c. stored_in (option_map flushed (Some f)) ≤ stored_in (Some f) + kept_by r) [
        | inl even ↦ let same : blocks (length f.present) ≡ blocks (length f.durable) = ap (λ (c : Text × ℕ). blocks (length c.0)) even in omega (arith, same)
        | inr more ↦ let only = only-reserve s k n r p number is holds locks in omega (arith, more.1, only)
      ]
    ] refl
