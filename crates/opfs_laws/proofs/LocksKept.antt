-- How the small changes of a state keep that each lock tells its holders.
use Rattle.std.proofs.Common.{◌≡◌, ◌≢◌, ℕ, Bool, true, false, cond, not, ◌&&◌, [], ◌∷◌, filter, sum_by, flat_map, Option, Some, None, option_map, unwrap_or, refl, sym, ap, ◌∙◌, subst, inl, inr, arith}
use Rattle.std.specs.Prelude.{is_none, ◌||◌}
use Rattle.std.specs.List.{list_all}
use Rattle.std.specs.FinMap.Entries.{find}
use Rattle.std.specs.Ordering.{eq_by_cmp}
use Rattle.std.proofs.lemmas.Bool.{false≢true, and_parts}
use Rattle.opfs_base.specs.Places.{Place, place_cmp, is_within}
use Rattle.opfs_base.specs.Texts.{Text, same_text}
use Rattle.opfs_hist.specs.declared.op.Mode.{Mode}
use Rattle.opfs_hist.specs.declared.op.Mode.TheVariants as mode
use Rattle.opfs_locks.specs.Taking.{Lock, taken, released, open_lock, is_open}
use Rattle.opfs_locks.specs.declared.LockValue.TheVariants as value
use Rattle.opfs_locks.specs.declared.Want.{Want}
use Rattle.opfs_machine.specs.declared.own.Own.{Own}
use Rattle.opfs_machine.specs.declared.state.Agent.{Agent}
use Rattle.opfs_machine.specs.declared.state.FileRow.{FileRow}
use Rattle.opfs_machine.specs.declared.state.Row.{Row}
use Rattle.opfs_machine.specs.declared.state.Row.TheVariants as row
use Rattle.opfs_machine.specs.declared.state.State.{State}
use Rattle.opfs_machine.specs.Agents.{agent_of, own_of, with_agent, with_own, adds_own}
use Rattle.opfs_machine.specs.Effects.{made, with_changed, with_written, with_lock, unlocked}
use Rattle.opfs_machine.specs.Rows.{Rows, row_at, file_at, file_of, with_row, with_file, without, rows_within, first_locked, taken_lock}
use Rattle.opfs_machine.specs.Rulings.{lock_in}
use Rattle.opfs_machine.specs.Steps.{evicted}
use Rattle.opfs_machine.specs.Victims.{none_taken}
use Rattle.opfs_laws.specs.Holders.{hold_of, same_want, counts, holders, IsLockOf, AreLocksOfHolders}
use Rattle.opfs_laws.proofs.Held.{one_of, lock-same, lock-taken, lock-released}
use Rattle.opfs_laws.proofs.Numbers.{IsNumber}
use Rattle.opfs_laws.proofs.OwnSums.{sum-adds, sum-sets, sum-same}
use Rattle.opfs_laws.proofs.Spots.{same_or_apart, same_place, place_itself, place_apart, file-changed, file-other, row-put, row-without}

-- The same locks, and the same agents.
pub record AreAlike (s t : State Text Own) : Type 0 where
  pub locks : (q : Place) → lock_in (file_at t q) ≡ lock_in (file_at s q)
  pub agents : t.agents ≡ s.agents

pub locks-alike : (s t : State Text Own) → AreAlike s t → AreLocksOfHolders s → AreLocksOfHolders t
locks-alike s t same h p =
    subst (λ l. IsLockOf l (holders t p)) (sym (same.locks p))
    (lock-same (lock_in (file_at s p)) (holders s p) (holders t p)
    (λ w. ap (λ agents. sum_by (λ r. counts p w (hold_of r)) (flat_map (λ a. a.own) agents)) same.agents) (h p))

lock-option : (change : FileRow Text → FileRow Text) (f : Option (FileRow Text)) → ((g : FileRow Text) → (change g).lock ≡ g.lock) → lock_in (option_map change f) ≡ lock_in f
lock-option change None keeps = refl
lock-option change (Some f) keeps = keeps f

pub alike-file : (s : State Text Own) (p : Place) (change : FileRow Text → FileRow Text) → ((f : FileRow Text) → (change f).lock ≡ f.lock) → AreAlike s (with_file s p change)
alike-file s p change keeps = record {
  locks = λ q. elim (same_or_apart p q) as (λ x. lock_in (file_at (with_file s p change) q) ≡ lock_in (file_at s q)) [
    | inl same ↦ subst (λ r. lock_in (file_at (with_file s p change) r) ≡ lock_in (file_at s r)) same
        (ap lock_in (file-changed s p change) ∙ lock-option change (file_at s p) keeps)
    | inr apart ↦ ap lock_in (file-other s p q change apart)
  ];
  agents = refl;
}

pub alike-written : (s : State Text Own) (m : Mode) (p : Place) (change : FileRow Text → FileRow Text) → ((f : FileRow Text) → (change f).lock ≡ f.lock)
    → AreAlike s (with_written s m p change)
alike-written s mode.ReadWrite p change keeps = alike-file s p change keeps
alike-written s mode.ReadOnly p change keeps = record { locks = λ q. refl; agents = refl }

put-lock : (r : Row Text) (old : Option (Row Text)) (b : Bool) → lock_in (file_of (Some r)) ≡ open_lock → (b ≡ true → old ≡ None)
    → lock_in (file_of (cond b (Some r) old)) ≡ lock_in (file_of old)
put-lock r old true plain free = plain ∙ sym (ap (λ o. lock_in (file_of o)) (free refl))
put-lock r old false plain free = refl

pub alike-made : (s : State Text Own) (p : Place) (r : Row Text) → lock_in (file_of (Some r)) ≡ open_lock → AreAlike s (made s p r)
alike-made s p r plain =
    elim (row_at s p) as (λ o. row_at s p ≡ o → AreAlike s (elim o as (λ x. State Text Own) [ Some old ↦ s | None ↦ with_row s p r ])) [
      | Some old ↦ λ is. record { locks = λ q. refl; agents = refl }
      | None ↦ λ is. record {
        locks = λ q. ap (λ o. lock_in (file_of o)) (row-put s p q r)
            ∙ put-lock r (row_at s q) (eq_by_cmp place_cmp q p) plain (λ same. ap (row_at s) (same_place q p same) ∙ is);
        agents = refl;
      }
    ] refl

-- A lock that is open has no holder.
open-lock : (lock : Lock) (count : Want → ℕ) → is_open lock.0 ≡ true → IsLockOf lock count → lock ≡ open_lock
open-lock (value.Free, n) count h is = ap (λ m. (value.Free, m)) is.0
open-lock (value.Exclusive, n) count h is = cc
open-lock (value.Shared, n) count h is = cc
open-lock (value.ReadOnly, n) count h is = cc

abbrev pub lock_or : Option Lock → Option Lock → Option Lock
lock_or found rest = elim found [ Some lock ↦ Some lock | None ↦ rest ]

pub none_first : (found rest : Option Lock) → lock_or found rest ≡ None → (found ≡ None) × (rest ≡ None)
none_first None rest h = (refl, h)
none_first (Some lock) rest h = absurd (some_none h)
  where
    some_none : Some lock ≡ None → ⊥
    some_none e = cc

-- A row among those of which none has a taken lock.
row_same : {a b : Row Text} → Some a ≡ Some b → a ≡ b
row_same h = cc

open-found : (p q : Place) (es : Rows Text) (r : Row Text) → first_locked (filter (λ e. is_within p e.0) es) ≡ None → is_within p q ≡ true
    → find place_cmp q es ≡ Some r → taken_lock r ≡ None
open-found p q [] r none inside is = cc
open-found p q (e ∷ es) r none inside is =
    elim (eq_by_cmp place_cmp q e.0) as (λ b. eq_by_cmp place_cmp q e.0 ≡ b → cond b (Some e.1) (find place_cmp q es) ≡ Some r → taken_lock r ≡ None) [
      | true ↦ λ same found.
          let here : is_within p e.0 ≡ true = sym (ap (is_within p) (same_place q e.0 same)) ∙ inside in
          let kept = ap (λ b. first_locked (cond b (e ∷ filter (λ d. is_within p d.0) es) (filter (λ d. is_within p d.0) es))) (sym here) ∙ none in
          ap taken_lock (sym (row_same found)) ∙ (none_first (taken_lock e.1) _ kept).0
      | false ↦ λ same found. open-found p q es r (rest-none p e es none) inside found
    ] refl is
  where
    rest-none : (p : Place) (e : Place × Row Text) (es : Rows Text) → first_locked (filter (λ d. is_within p d.0) (e ∷ es)) ≡ None → first_locked (filter (λ d. is_within p d.0) es) ≡ None
    rest-none p e es h =
        elim (is_within p e.0) as (λ b. first_locked (cond b (e ∷ filter (λ d. is_within p d.0) es) (filter (λ d. is_within p d.0) es)) ≡ None → first_locked (filter (λ d. is_within p d.0) es) ≡ None) [
          | true ↦ λ n. (none_first (taken_lock e.1) _ n).1
          | false ↦ λ n. n
        ] h

open-row : (r : Row Text) → taken_lock r ≡ None → is_open (lock_in (file_of (Some r))).0 ≡ true
open-row row.Directory h = refl
open-row (row.File f) h =
    elim (is_open f.lock.0) as (λ b. elim b as (λ x. Option Lock) [ true ↦ None | false ↦ Some f.lock ] ≡ None → b ≡ true) [ true ↦ λ e. refl | false ↦ λ e. cc ] h

-- The lock of a file that goes was open.
pub open-within : (s : State Text Own) (p q : Place) → first_locked (rows_within s p) ≡ None → is_within p q ≡ true → AreLocksOfHolders s → lock_in (file_at s q) ≡ open_lock
open-within s p q none inside h =
    elim (row_at s q) as (λ o. row_at s q ≡ o → IsLockOf (lock_in (file_of o)) (holders s q) → lock_in (file_of o) ≡ open_lock) [
      | Some r ↦ λ is told. open-lock (lock_in (file_of (Some r))) (holders s q) (open-row r (open-found p q s.rows r none inside is)) told
      | None ↦ λ is told. refl
    ] refl (h q)

pub alike-without : (s : State Text Own) (p : Place) → first_locked (rows_within s p) ≡ None → AreLocksOfHolders s → AreAlike s (without s p)
alike-without s p none h = record {
  locks = λ q.
      ap (λ o. lock_in (file_of o)) (row-without s p q)
      ∙ elim (is_within p q) as (λ b. is_within p q ≡ b → lock_in (file_of (cond (not b) (row_at s q) None)) ≡ lock_in (file_at s q)) [
        | true ↦ λ is. sym (open-within s p q none is h)
        | false ↦ λ is. refl
      ] refl;
  agents = refl;
}

-- An agent whose rows stay.
pub locks-agent : (s : State Text Own) (k : ℕ) (a : Agent Own) → IsNumber s k → a.own ≡ (agent_of s k).own → AreLocksOfHolders s → AreLocksOfHolders (with_agent s k a)
locks-agent s k a number same h p =
    lock-same (lock_in (file_at s p)) (holders s p) (holders (with_agent s k a) p) (λ w. sum-same (λ r. counts p w (hold_of r)) s k a number same) (h p)

-- A row that holds nothing.
pub locks-adds : (s : State Text Own) (k : ℕ) (r : Own) → IsNumber s k → hold_of r ≡ None → AreLocksOfHolders s → AreLocksOfHolders (adds_own s k r)
locks-adds s k r number plain h p =
    lock-same (lock_in (file_at s p)) (holders s p) (holders (adds_own s k r) p)
    (λ w. let f : Own → ℕ = λ r. counts p w (hold_of r) in let none : f r ≡ 0 = ap (counts p w) plain in let sum = sum-adds f s k r number in omega (arith, none, sum)) (h p)

-- A row that holds what it held.
pub locks-sets : (s : State Text Own) (k n : ℕ) (r new : Own) → IsNumber s k → own_of (agent_of s k) n ≡ Some r → hold_of new ≡ hold_of r → AreLocksOfHolders s → AreLocksOfHolders (with_own s k n new)
locks-sets s k n r new number is same h p =
    lock-same (lock_in (file_at s p)) (holders s p) (holders (with_own s k n new) p)
    (λ w. let f : Own → ℕ = λ r. counts p w (hold_of r) in let alike : f new ≡ f r = ap (counts p w) same in let sum = sum-sets f s k n r new number is in omega (arith, alike, sum)) (h p)

pub locks-changed : (s : State Text Own) (k n : ℕ) (change : Own → Own) → IsNumber s k → ((r : Own) → hold_of (change r) ≡ hold_of r) → AreLocksOfHolders s → AreLocksOfHolders (with_changed s k n change)
unfolding with_changed
locks-changed s k n change number same h =
    elim (own_of (agent_of s k) n) as (λ o. own_of (agent_of s k) n ≡ o → AreLocksOfHolders (elim o as (λ x. State Text Own) [ Some r ↦ with_own s k n (change r) | None ↦ s ])) [
      | Some r ↦ λ is. locks-sets s k n r (change r) number is (same r) h
      | None ↦ λ is. h
    ] refl

pub counts-here : (p : Place) (w v : Want) (r : Own) → hold_of r ≡ Some (p, w) → counts p v (hold_of r) ≡ one_of v w
counts-here p w v r is = ap (counts p v) is ∙ ap (λ b. cond (b && same_want v w) 1 0) (place_itself p)

pub counts-there : (p q : Place) (w v : Want) (r : Own) → p ≢ q → hold_of r ≡ Some (p, w) → counts q v (hold_of r) ≡ 0
counts-there p q w v r apart is = ap (counts q v) is ∙ ap (λ b. cond (b && same_want v w) 1 0) (place_apart q p (λ e. apart (sym e)))

-- A lock is taken with the row that holds it.
pub locks-takes : (s : State Text Own) (k : ℕ) (p : Place) (w : Want) (r : Own) (f : FileRow Text) (new : Lock) → IsNumber s k → hold_of r ≡ Some (p, w)
    → file_at s p ≡ Some f → taken w f.lock ≡ Some new → AreLocksOfHolders s → AreLocksOfHolders (adds_own (with_file s p (with_lock w)) k r)
locks-takes s k p w r f new number holds there gives h q =
    let t = adds_own (with_file s p (with_lock w)) k r in
    let more = λ (q : Place) (v : Want). sum-adds (λ x. counts q v (hold_of x)) (with_file s p (with_lock w)) k r (record { index = number.index; is = number.is; within = number.within }) in
    elim (same_or_apart p q) as (λ x. IsLockOf (lock_in (file_at t q)) (holders t q)) [
      | inl same ↦ subst (λ x. IsLockOf (lock_in (file_at t x)) (holders t x)) same
          (subst (λ l. IsLockOf l (holders t p))
          (sym (ap lock_in (file-changed s p (with_lock w) ∙ ap (option_map (with_lock w)) there) ∙ ap (λ o. unwrap_or o f.lock) gives))
          (lock-taken w f.lock new (holders s p) (holders t p) gives
          (λ v. let sum = more p v in let one = counts-here p w v r holds in omega (arith, sum, one))
          (subst (λ o. IsLockOf (lock_in o) (holders s p)) there (h p))))
      | inr apart ↦
          subst (λ o. IsLockOf (lock_in o) (holders t q)) (sym (file-other s p q (with_lock w) apart))
          (lock-same (lock_in (file_at s q)) (holders s q) (holders t q)
          (λ v. let sum = more q v in let none = counts-there p q w v r apart holds in omega (arith, sum, none)) (h q))
    ]

released-option : (f : Option (FileRow Text)) → lock_in (option_map unlocked f) ≡ released (lock_in f)
released-option None = refl
released-option (Some f) = refl

-- A lock is released as the row that holds it goes.
pub locks-releases : (s : State Text Own) (k n : ℕ) (p : Place) (w : Want) (r new : Own) → IsNumber s k → own_of (agent_of s k) n ≡ Some r → hold_of r ≡ Some (p, w)
    → hold_of new ≡ None → AreLocksOfHolders s → AreLocksOfHolders (with_own (with_file s p unlocked) k n new)
locks-releases s k n p w r new number is holds plain h q =
    let t = with_own (with_file s p unlocked) k n new in
    let less = λ (q : Place) (v : Want). sum-sets (λ x. counts q v (hold_of x)) (with_file s p unlocked) k n r new (record { index = number.index; is = number.is; within = number.within }) is in
    elim (same_or_apart p q) as (λ x. IsLockOf (lock_in (file_at t q)) (holders t q)) [
      | inl same ↦ subst (λ x. IsLockOf (lock_in (file_at t x)) (holders t x)) same
          (subst (λ l. IsLockOf l (holders t p)) (sym (ap lock_in (file-changed s p unlocked) ∙ released-option (file_at s p)))
          (lock-released w (lock_in (file_at s p)) (holders s p) (holders t p)
          (λ v. let sum = less p v in let one = counts-here p w v r holds in let none : counts p v (hold_of new) ≡ 0 = ap (counts p v) plain in omega (arith, sum, one, none))
          (h p)))
      | inr apart ↦
          subst (λ o. IsLockOf (lock_in o) (holders t q)) (sym (file-other s p q unlocked apart))
          (lock-same (lock_in (file_at s q)) (holders s q) (holders t q)
          (λ v. let sum = less q v in let none = counts-there p q w v r apart holds in let gone : counts q v (hold_of new) ≡ 0 = ap (counts q v) plain in omega (arith, sum, none, gone)) (h q))
    ]

-- A unit that is cleared.
none-first : (unit : Text) (es : Rows Text) → list_all (λ e. not (same_text unit e.0.0) || is_none (taken_lock e.1)) es ≡ true → first_locked (filter (λ e. is_within (unit, []) e.0) es) ≡ None
none-first unit [] h = refl
none-first unit (e ∷ es) h =
    let rest = none-first unit es (and_parts _ _ h).1 in
    elim (same_text unit e.0.0) as (λ b. (not b || is_none (taken_lock e.1)) ≡ true → first_locked (cond (b && true) (e ∷ filter (λ d. is_within (unit, []) d.0) es) (filter (λ d. is_within (unit, []) d.0) es)) ≡ None) [
      | true ↦ λ n. elim (taken_lock e.1) as (λ o. is_none o ≡ true → lock_or o (first_locked (filter (λ d. is_within (unit, []) d.0) es)) ≡ None) [ Some lock ↦ λ x. absurd (false≢true x) | None ↦ λ x. rest ] n
      | false ↦ λ n. rest
    ] (and_parts _ _ h).0

pub unit-open : (s : State Text Own) (unit : Text) → none_taken s unit ≡ true → first_locked (rows_within s (unit, [])) ≡ None
unit-open s unit h = none-first unit s.rows h

pub locks-evicted : (s : State Text Own) (unit : Text) → none_taken s unit ≡ true → AreLocksOfHolders s → AreLocksOfHolders (evicted s unit)
locks-evicted s unit none h = locks-alike s (without s (unit, [])) (alike-without s (unit, []) (unit-open s unit none) h) h
