-- A file's writer keeps nothing, or blocks enough for the file: through small changes of a state.
use Rattle.std.proofs.Common.{◌≡◌, ◌⊎◌, ℕ, ◌≤◌, Bool, true, false, cond, not, List, [], ◌∷◌, fold, length, Option, Some, None, option_map, refl, sym, ap, ◌∙◌, subst, inl, inr, arith}
use Rattle.std.specs.Ordering.{eq_by_cmp}
use Rattle.opfs_base.specs.Blocks.{blocks}
use Rattle.opfs_base.specs.Places.{Place, place_cmp, is_within}
use Rattle.opfs_base.specs.Texts.{Text}
use Rattle.opfs_machine.specs.declared.own.Own.{Own}
use Rattle.opfs_machine.specs.declared.state.Agent.{Agent}
use Rattle.opfs_machine.specs.declared.state.FileRow.{FileRow}
use Rattle.opfs_machine.specs.declared.state.Row.{Row}
use Rattle.opfs_machine.specs.declared.state.State.{State}
use Rattle.opfs_machine.specs.Agents.{agent_of, own_of, with_own, with_agent, adds_own}
use Rattle.opfs_machine.specs.Effects.{made, with_changed}
use Rattle.opfs_machine.specs.Rows.{row_at, file_at, file_of, with_row, with_file, without}
use Rattle.opfs_machine.specs.Steps.{evicted}
use Rattle.opfs_laws.specs.Covered.{writer_reserve, reserve_at}
use Rattle.opfs_laws.proofs.Numbers.{IsNumber}
use Rattle.opfs_laws.proofs.OwnSums.{sum-adds, sum-sets, sum-same}
use Rattle.opfs_laws.proofs.Spots.{same_or_apart, file-changed, file-other, row-put, row-without}

abbrev pub IsAllOrNone : State Text Own → Place → FileRow Text → Type 0
IsAllOrNone s place f = (reserve_at s place ≡ 0) ⊎ (blocks (length f.present) ≤ reserve_at s place)

abbrev pub AreAllOrNone : State Text Own → Type 0
AreAllOrNone s = (place : Place) (f : FileRow Text) → file_at s place ≡ Some f → IsAllOrNone s place f

-- As much is kept at a place, or nothing any more.
abbrev pub KeepsAt : State Text Own → State Text Own → Place → Type 0
KeepsAt s t q = (reserve_at t q ≡ reserve_at s q) ⊎ (reserve_at t q ≡ 0)

pub all-like : (s t : State Text Own) (q : Place) (f : FileRow Text) → KeepsAt s t q → IsAllOrNone s q f → IsAllOrNone t q f
all-like s t q f (inr none) is = inl none
all-like s t q f (inl same) (inl none) = inl (omega (arith, same, none))
all-like s t q f (inl same) (inr fits) = inr (omega (arith, same, fits))

pub all-own : (s t : State Text Own) → ((q : Place) → file_at t q ≡ file_at s q) → ((q : Place) → KeepsAt s t q) → AreAllOrNone s → AreAllOrNone t
all-own s t same keeps h q f is = all-like s t q f (keeps q) (h q f (sym (same q) ∙ is))

-- ---- own rows

pub all-agent : (s : State Text Own) (k : ℕ) (a : Agent Own) → IsNumber s k → a.own ≡ (agent_of s k).own → AreAllOrNone s → AreAllOrNone (with_agent s k a)
all-agent s k a number same h = all-own s (with_agent s k a) (λ q. refl) (λ q. inl (sum-same (writer_reserve q) s k a number same)) h

pub all-adds : (s : State Text Own) (k : ℕ) (r : Own) → IsNumber s k → ((q : Place) → writer_reserve q r ≡ 0) → AreAllOrNone s → AreAllOrNone (adds_own s k r)
all-adds s k r number none h =
    all-own s (adds_own s k r) (λ q. refl) (λ q. let w = sum-adds (writer_reserve q) s k r number in let z = none q in inl (omega (arith, w, z))) h

-- A row keeps as much as before, or it was all that was kept there and keeps nothing.
abbrev pub ChangesTo : State Text Own → Place → Own → Own → Type 0
ChangesTo s q r new = (writer_reserve q new ≡ writer_reserve q r) ⊎ ((writer_reserve q new ≡ 0) × (reserve_at s q ≡ writer_reserve q r))

pub keeps-sets : (s : State Text Own) (k n : ℕ) (r new : Own) (q : Place) → IsNumber s k → own_of (agent_of s k) n ≡ Some r → ChangesTo s q r new → KeepsAt s (with_own s k n new) q
keeps-sets s k n r new q number is (inl same) = let w = sum-sets (writer_reserve q) s k n r new number is in inl (omega (arith, w, same))
keeps-sets s k n r new q number is (inr gone) = let w = sum-sets (writer_reserve q) s k n r new number is in inr (omega (arith, w, gone.0, gone.1))

pub all-sets : (s : State Text Own) (k n : ℕ) (r new : Own) → IsNumber s k → own_of (agent_of s k) n ≡ Some r → ((q : Place) → ChangesTo s q r new) → AreAllOrNone s → AreAllOrNone (with_own s k n new)
all-sets s k n r new number is to h = all-own s (with_own s k n new) (λ q. refl) (λ q. keeps-sets s k n r new q number is (to q)) h

pub all-changed : (s : State Text Own) (k n : ℕ) (change : Own → Own) → IsNumber s k → ((r : Own) → own_of (agent_of s k) n ≡ Some r → (q : Place) → ChangesTo s q r (change r)) → AreAllOrNone s
    → AreAllOrNone (with_changed s k n change)
unfolding with_changed
all-changed s k n change number to h =
    elim (own_of (agent_of s k) n) as (λ o. own_of (agent_of s k) n ≡ o → AreAllOrNone (elim o as (λ x. State Text Own) [ Some r ↦ with_own s k n (change r) | None ↦ s ])) [
      | Some r ↦ λ is. all-sets s k n r (change r) number is (to r is) h
      | None ↦ λ is. h
    ] refl

-- ---- files

pub some-file : {a b : FileRow Text} → Some a ≡ Some b → a ≡ b
some-file h = cc

pub option-file : (change : FileRow Text → FileRow Text) (o : Option (FileRow Text)) (f : FileRow Text) → option_map change o ≡ Some f → (g : FileRow Text) × (o ≡ Some g) × (f ≡ change g)
option-file change None f h = absurd (none_some h)
  where
    none_some : None ≡ Some f → ⊥
    none_some e = cc
option-file change (Some g) f h = (g, refl, sym (some-file h))

-- The file that is changed, or one that is not.
pub found-changed : (s : State Text Own) (p q : Place) (change : FileRow Text → FileRow Text) (f : FileRow Text) → p ≡ q → file_at (with_file s p change) q ≡ Some f
    → (g : FileRow Text) × (file_at s q ≡ Some g) × (f ≡ change g)
found-changed s p q change f same is =
    option-file change (file_at s q) f (sym (subst (λ x. file_at (with_file s p change) x ≡ option_map change (file_at s x)) same (file-changed s p change)) ∙ is)

pub all-file : (s : State Text Own) (p : Place) (change : FileRow Text → FileRow Text) → ((f : FileRow Text) → (change f).present ≡ f.present) → AreAllOrNone s → AreAllOrNone (with_file s p change)
all-file s p change same h q f is = elim (same_or_apart p q) as (λ c. IsAllOrNone s q f) [
  | inl here ↦
      let old = found-changed s p q change f here is in
      subst (λ (b : Text). (reserve_at s q ≡ 0) ⊎ (blocks (length b) ≤ reserve_at s q)) (sym (ap (λ (x : FileRow Text). x.present) old.2 ∙ same old.0)) (h q old.0 old.1)
  | inr apart ↦ h q f (sym (file-other s p q change apart) ∙ is)
]

-- A file for which nothing is kept may become any.
pub all-idle : (s : State Text Own) (p : Place) (change : FileRow Text → FileRow Text) → reserve_at s p ≡ 0 → AreAllOrNone s → AreAllOrNone (with_file s p change)
all-idle s p change none h q f is = elim (same_or_apart p q) as (λ c. IsAllOrNone s q f) [
  | inl here ↦ inl (ap (reserve_at s) (sym here) ∙ none)
  | inr apart ↦ h q f (sym (file-other s p q change apart) ∙ is)
]

put-empty : (r : Row Text) (old : Option (Row Text)) (b : Bool) (f : FileRow Text) → file_of (cond b (Some r) old) ≡ Some f → ((g : FileRow Text) → file_of (Some r) ≡ Some g → g.present ≡ [])
    → (f.present ≡ []) ⊎ (file_of old ≡ Some f)
put-empty r old true f is empty = inl (empty f is)
put-empty r old false f is empty = inr is

no-blocks : (n : ℕ) → blocks (length {A = ℕ} []) ≤ n
no-blocks n = omega arith

pub all-made : (s : State Text Own) (p : Place) (r : Row Text) → ((g : FileRow Text) → file_of (Some r) ≡ Some g → g.present ≡ []) → AreAllOrNone s → AreAllOrNone (made s p r)
all-made s p r empty h =
    elim (row_at s p) as (λ o. AreAllOrNone (elim o as (λ x. State Text Own) [ Some old ↦ s | None ↦ with_row s p r ])) [
      | Some old ↦ h
      | None ↦ λ q f is. elim (put-empty r (row_at s q) (eq_by_cmp place_cmp q p) f (sym (ap file_of (row-put s p q r)) ∙ is) empty) as (λ x. IsAllOrNone s q f) [
        | inl now ↦ inr (subst (λ (b : Text). blocks (length b) ≤ reserve_at s q) (sym now) (no-blocks (reserve_at s q)))
        | inr old ↦ h q f old
      ]
    ]

left-file : (b : Bool) (o : Option (Row Text)) (f : FileRow Text) → file_of (cond b o None) ≡ Some f → file_of o ≡ Some f
left-file true o f h = h
left-file false o f h = absurd (none_some h)
  where
    none_some : None ≡ Some f → ⊥
    none_some e = cc

pub all-without : (s : State Text Own) (p : Place) → AreAllOrNone s → AreAllOrNone (without s p)
all-without s p h q f is = h q f (left-file (not (is_within p q)) (row_at s q) f (sym (ap file_of (row-without s p q)) ∙ is))

pub all-gone : (gone : List Text) (s : State Text Own) → AreAllOrNone s → AreAllOrNone (fold evicted s gone)
all-gone [] s h = h
all-gone (unit ∷ units) s h = all-gone units (evicted s unit) (all-without s (unit, []) h)
