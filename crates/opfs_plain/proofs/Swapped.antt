-- A row that is taken from its place, changed, and put back.
use Rattle.std.proofs.Common.{◌≡◌, ℕ, zero, suc, List, [], ◌∷◌, slice_set, Option, Some, None, refl, sym, ap, subst, ◌∙◌, arith}
use Rattle.std.specs.Prelude.{slice_get}
use Rattle.std.proofs.lemmas.List.{length-set, set-set, take-set}
use Rattle.opfs_base.specs.Places.{Place}
use Rattle.opfs_base.specs.Texts.{Text}
use Rattle.opfs_machine.specs.declared.own.Own.{Own}
use Rattle.opfs_machine.specs.declared.own.Own.TheVariants as own
use Rattle.opfs_machine.specs.declared.state.FileRow.{FileRow}
use Rattle.opfs_machine.specs.declared.state.Row.{Row}
use Rattle.opfs_machine.specs.declared.state.State.{State}
use Rattle.opfs_machine.specs.Agents.{agent_of, own_of, with_own}
use Rattle.opfs_machine.specs.Contents.{advanced_row, next_of}
use Rattle.opfs_machine.specs.Effects.{with_changed}
use Rattle.opfs_machine.specs.Replies.{given_in}
use Rattle.opfs_machine.specs.Rows.{Rows, with_file, change_at, changed_row}
use Rattle.opfs_rulings.specs.Spots.{IsThere, IsBehind}
use Rattle.opfs_rulings.specs.Courses.{given_row}
use Rattle.opfs_rulings.proofs.Rising.{change_there}

set_get : {X : Type 0} (n : ℕ) (old new : X) (xs : List X) → slice_get xs n ≡ Some old → slice_get (slice_set xs n new) n ≡ Some new
set_get n old new [] is = cc
set_get zero old new (x ∷ xs) is = refl
set_get (suc n) old new (x ∷ xs) is = set_get n old new xs is

module _ (p : Place) (n : ℕ) (s mid : State Text Own) (r held : Row Text) (there : IsThere p s.rows n) (was : slice_get s.rows n ≡ Some (p, r)) (taken : mid ≡ record s { rows = slice_set s.rows n (p, held) }) where
  still_set : IsThere p (slice_set s.rows n (p, held)) n
  still_set = record {
    row = held;
    within = omega (arith, there.within, length-set s.rows n (p, held));
    is = set_get n (p, r) (p, held) s.rows was;
    behind = subst (λ (es : Rows Text). IsBehind p es) (sym (take-set s.rows n (p, held))) there.behind;
  }

  pub still_there : IsThere p mid.rows n
  still_there = subst (λ (t : State Text Own). IsThere p t.rows n) (sym taken) still_set

  pub file_changed : (change : FileRow Text → FileRow Text) (now : Row Text) (new : State Text Own) → now ≡ changed_row change r → new ≡ record mid { rows = slice_set mid.rows n (p, now) } → new ≡ with_file s p change
  file_changed change now new is put =
      put
      ∙ ap (λ (t : State Text Own). record t { rows = slice_set t.rows n (p, now) }) taken
      ∙ ap (λ (es : Rows Text). record s { rows = es }) (set-set s.rows n (p, held) (p, now) ∙ ap (λ (x : Row Text). slice_set s.rows n (p, x)) is ∙ sym (change_there p change n r s.rows was there.behind))

-- Where no row is found, none is changed.
pub nothing_changed : (s : State Text Own) (p : Place) (change : FileRow Text → FileRow Text) → s.rows ≡ change_at p change s.rows → s ≡ with_file s p change
nothing_changed s p change is = ap (λ (es : Rows Text). record s { rows = es }) is

-- What is changed alike is the same.
pub changed_alike : (s : State Text Own) (k n : ℕ) (f g : Own → Own) → ((r : Own) → own_of (agent_of s k) n ≡ Some r → f r ≡ g r) → with_changed s k n f ≡ with_changed s k n g
unfolding with_changed
changed_alike s k n f g alike = by (own_of (agent_of s k) n) alike
  where
    changed : (Own → Own) → Option Own → State Text Own
    changed h o = elim o [ Some x ↦ with_own s k n (h x) | None ↦ s ]

    by : (o : Option Own) → ((r : Own) → o ≡ Some r → f r ≡ g r) → changed f o ≡ changed g o
    by (Some r) same = ap (with_own s k n) (same r refl)
    by None same = refl

-- An iterator that was given the next name has gone on.
pub given_advanced : (r : Own) (o : Option Own) (name : Option Text) (names : List Text) → o ≡ Some r → name ≡ next_of (given_in o) names → given_row r name ≡ advanced_row r names
given_advanced (own.Iterator i) o name names was is =
    ap (λ (n : Option Text). given_row (own.Iterator i) n) (is ∙ ap (λ (x : Option Own). next_of (given_in x) names) was)
given_advanced (own.Stream w) o name names was is = refl
given_advanced own.ClosedStream o name names was is = refl
given_advanced (own.Handle h) o name names was is = refl
given_advanced own.ClosedHandle o name names was is = refl
given_advanced (own.Snapshot b) o name names was is = refl
