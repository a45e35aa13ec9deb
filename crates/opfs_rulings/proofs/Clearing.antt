-- How many units are cleared, one after another, with the pool at each step.
use Rattle.std.proofs.Common.{arith, ◌≡◌, ℕ, ◌+◌, ◌-◌, ◌||◌, ◌<◌, nat_le, true≢false, length, Bool, true, false, List, [], ◌∷◌, ◌++◌, append_assoc, Option, Some, None, refl, sym, ap, ◌∙◌, fold, map}
use Rattle.std.specs.Prelude.{option_map}
use Rattle.opfs_base.specs.Texts.{Text}
use Rattle.opfs_machine.specs.declared.own.Own.{Own}
use Rattle.opfs_machine.specs.declared.state.State.{State}
use Rattle.opfs_machine.specs.Contents.{in_bytes}
use Rattle.opfs_machine.specs.Sums.{pool, fits_pool}
use Rattle.opfs_machine.specs.Victims.{cleared, shortest_front}
use Rattle.opfs_rulings.specs.Known.{freed}
use Rattle.opfs_rulings.proofs.Cleared.{limits_fold, pool_freed}
use Rattle.opfs_rulings.proofs.Fronts.{front_at_once}

nothing_more : {X : Type 0} (xs : List X) → xs ++ [] ≡ xs
nothing_more [] = refl
nothing_more (x ∷ xs) = ap (λ ys. x ∷ ys) (nothing_more xs)

fold_last : {A B : Type 0} (f : B → A → B) (start : B) (xs : List A) (x : A) → fold f start (xs ++ x ∷ []) ≡ f (fold f start xs) x
fold_last f start [] x = refl
fold_last f start (y ∷ ys) x = fold_last f (f start y) ys x

one_then : {X : Type 0} (xs : List X) (x : X) (m : Option (List X))
    → option_map (λ more. xs ++ more) (option_map (λ more. x ∷ more) m) ≡ option_map (λ more. (xs ++ x ∷ []) ++ more) m
one_then xs x None = refl
one_then xs x (Some ys) = ap Some (sym (append_assoc xs (x ∷ []) ys))

front_goes : (s : State Text Own) (need : ℕ) (unit : Text) (units : List Text) → fits_pool in_bytes s need ≡ false
    → shortest_front in_bytes s need (unit ∷ units) ≡ option_map (λ more. unit ∷ more) (shortest_front in_bytes (cleared s unit) need units)
front_goes s need unit units h =
    ap (λ t. elim t [
      | true ↦ Some []
      | false ↦ option_map (λ more. unit ∷ more) (shortest_front in_bytes (cleared s unit) need units)
    ]) h

tested : (s : State Text Own) (gone : List Text) (need held : ℕ) (b : Bool) → held ≡ pool in_bytes (fold cleared s gone)
    → (nat_le need 0 || nat_le (held + need) s.limits.blocks) ≡ b → fits_pool in_bytes (fold cleared s gone) need ≡ b
tested s gone need held b is test = (λ i. nat_le need 0 || nat_le (sym is i + need) (limits_fold gone s i).blocks) ∙ test

-- The front ends where the need fits.
pub front_stops : (s : State Text Own) (need held : ℕ) (gone : List Text) (left : List Text) (whole : Option (List Text))
    → whole ≡ option_map (λ more. gone ++ more) (shortest_front in_bytes (fold cleared s gone) need left)
    → held ≡ pool in_bytes (fold cleared s gone)
    → (nat_le need 0 || nat_le (held + need) s.limits.blocks) ≡ true → Some gone ≡ whole
front_stops s need held gone left whole so_far is test =
    sym (so_far
    ∙ ap (option_map (λ more. gone ++ more)) (front_at_once (fold cleared s gone) need left (tested s gone need held true is test))
    ∙ ap Some (nothing_more gone))

-- There is no front where the need does not fit at last.
pub front_fails : (s : State Text Own) (need held : ℕ) (gone : List Text) (left : List Text) (whole : Option (List Text))
    → whole ≡ option_map (λ more. gone ++ more) (shortest_front in_bytes (fold cleared s gone) need left)
    → held ≡ pool in_bytes (fold cleared s gone)
    → left ≡ []
    → (nat_le need 0 || nat_le (held + need) s.limits.blocks) ≡ false → None ≡ whole
front_fails s need held gone left whole so_far is none test =
    sym (so_far
    ∙ ap (λ units. option_map (λ more. gone ++ more) (shortest_front in_bytes (fold cleared s gone) need units)) none
    ∙ ap (λ t. option_map (λ more. gone ++ more) (elim t as (λ u. Option (List Text)) [ true ↦ Some [] | false ↦ None ])) (tested s gone need held false is test))

-- Where no unit is left.
pub none_left : (units : List (ℕ × Text)) → (0 < length units → false ≡ true) → map (λ e. e.1) units ≡ []
none_left [] h = refl
none_left (unit ∷ units) h = absurd (true≢false (sym (h (omega arith))))

-- The front goes on with one unit more.
pub front_more : (s : State Text Own) (need held after used : ℕ) (gone more : List Text) (unit : ℕ × Text) (left rest : List (ℕ × Text)) (whole : Option (List Text))
    → whole ≡ option_map (λ units. gone ++ units) (shortest_front in_bytes (fold cleared s gone) need (map (λ e. e.1) left))
    → held ≡ pool in_bytes (fold cleared s gone)
    → (nat_le need 0 || nat_le (held + need) s.limits.blocks) ≡ false
    → left ≡ unit ∷ rest → used ≡ freed gone unit.1 s.rows → after ≡ held - used → more ≡ gone ++ unit.1 ∷ []
    → (whole ≡ option_map (λ units. more ++ units) (shortest_front in_bytes (fold cleared s more) need (map (λ e. e.1) rest)))
    × (after ≡ pool in_bytes (fold cleared s more))
front_more s need held after used gone more unit left rest whole so_far is test parts frees less grown =
    let freeing = pool_freed s gone unit.1 in
    let now = ap (λ units. pool in_bytes (fold cleared s units)) grown in (
      so_far
          ∙ ap (λ es. option_map (λ units. gone ++ units) (shortest_front in_bytes (fold cleared s gone) need (map (λ e. e.1) es))) parts
          ∙ ap (option_map (λ units. gone ++ units)) (front_goes (fold cleared s gone) need unit.1 (map (λ e. e.1) rest) (tested s gone need held false is test))
          ∙ one_then gone unit.1 (shortest_front in_bytes (cleared (fold cleared s gone) unit.1) need (map (λ e. e.1) rest))
          ∙ ap (λ t. option_map (λ units. (gone ++ unit.1 ∷ []) ++ units) (shortest_front in_bytes t need (map (λ e. e.1) rest))) (sym (fold_last cleared s gone unit.1))
          ∙ ap (λ us. option_map (λ units. us ++ units) (shortest_front in_bytes (fold cleared s us) need (map (λ e. e.1) rest))) (sym grown),
      omega (arith, is, frees, less, freeing, now),
    )
