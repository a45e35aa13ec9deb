-- Which units and rows are listed.
use Rattle.std.proofs.Common.{◌≡◌, ◌||◌, Bool, true, false, cond, List, [], ◌∷◌, ◌++◌, take, drop, refl, sym, ap, ◌∙◌}
use Rattle.std.specs.Prelude.{map}
use Rattle.std.specs.List.{list_any, flat_map}
use Rattle.std.proofs.lemmas.List.{take-append-drop}
use Rattle.opfs_base.specs.Texts.{Text, same_text}
use Rattle.opfs_base.specs.Places.{Place}
use Rattle.opfs_tools.specs.Sights.{Sights}
use Rattle.opfs_tools.specs.Units.{UnitSeen, with_row, by_unit, merged, units_of, alone, unit_with, count_before, from_unit, count_first}
use Rattle.opfs_tools.specs.declared.sights.Sight.{Sight}
use Rattle.opfs_tools.proofs.Merging.{tied}

-- ---- units

module _ (unit : Text) where
  abbrev is_group : Text × Sights → Bool
  is_group u = same_text unit u.0

  abbrev is_row : Place × Sight → Bool
  is_row e = same_text unit e.0.0

  abbrev is_key : UnitSeen → Bool
  is_key u = same_text unit u.key

  or_same : (a b : Bool) → (a || (a || b)) ≡ (a || b)
  or_same true b = refl
  or_same false b = refl

  row_in : (e : Place × Sight) (us : List (Text × Sights)) → list_any is_group (with_row e us) ≡ (is_row e || list_any is_group us)
  row_in e [] = refl
  row_in e (u ∷ us) =
      elim (same_text e.0.0 u.0) as (λ t. same_text e.0.0 u.0 ≡ t → list_any is_group (cond t ((u.0, e ∷ u.1) ∷ us) ((e.0.0, e ∷ []) ∷ u ∷ us)) ≡ (is_row e || (is_group u || list_any is_group us))) [
        | true ↦ λ is.
            let key : is_row e ≡ is_group u = ap (same_text unit) (tied e.0.0 u.0 is) in
            sym (ap (λ t. t || (is_group u || list_any is_group us)) key ∙ or_same (is_group u) (list_any is_group us))
        | false ↦ λ is. refl
      ] refl

  groups_in : (rows : Sights) → list_any is_group (by_unit rows) ≡ list_any is_row rows
  unfolding by_unit
  groups_in [] = refl
  groups_in (e ∷ es) = row_in e (by_unit es) ∙ ap (λ t. is_row e || t) (groups_in es)

  alone_in : (units : List Text) → list_any is_key (map alone units) ≡ list_any (same_text unit) units
  alone_in [] = refl
  alone_in (u ∷ us) = ap (λ t. same_text unit u || t) (alone_in us)

  or-assoc : (a b c : Bool) → ((a || b) || c) ≡ (a || (b || c))
  or-assoc true b c = refl
  or-assoc false b c = refl

  any-append : {X : Type 0} (p : X → Bool) (xs ys : List X) → list_any p (xs ++ ys) ≡ (list_any p xs || list_any p ys)
  any-append p [] ys = refl
  any-append p (x ∷ xs) ys = ap (λ t. p x || t) (any-append p xs ys) ∙ sym (or-assoc (p x) (list_any p xs) (list_any p ys))

  -- the first of a list is not lost where it stands for a unit that is there
  first_in : (key : Text) (units : List Text) → (same_text unit key || list_any (same_text unit) units) ≡ (same_text unit key || list_any (same_text unit) (drop (count_first key units) units))
  first_in key [] = refl
  first_in key (u ∷ us) =
      elim (same_text u key) as (λ t. same_text u key ≡ t → (same_text unit key || (same_text unit u || list_any (same_text unit) us)) ≡ (same_text unit key || list_any (same_text unit) (drop (cond t 1 0) (u ∷ us)))) [
        | true ↦ λ is. ap (λ x. same_text unit key || (same_text unit x || list_any (same_text unit) us)) (tied u key is) ∙ or_same (same_text unit key) (list_any (same_text unit) us)
        | false ↦ λ is. refl
      ] refl

  swap : (a b c d : Bool) → (a || (b || (c || d))) ≡ ((b || c) || (a || d))
  swap true true c d = refl
  swap true false true d = refl
  swap true false false d = refl
  swap false true c d = refl
  swap false false c d = refl

  gathered : (a b c d e : Bool) → (b || e) ≡ (b || d) → (a || (b || (c || d))) ≡ ((b || c) || (a || e))
  gathered a true c d e same = elim a as (λ x. (x || true) ≡ true) [ true ↦ refl | false ↦ refl ]
  gathered a false c d e same = swap a false c d ∙ ap (λ t. c || (a || t)) (sym same)

  merged_in : (us : List (Text × Sights)) (units : List Text) → list_any is_key (merged us units) ≡ (list_any is_group us || list_any (same_text unit) units)
  unfolding merged
  merged_in [] units = alone_in units
  merged_in (u ∷ us) units =
      let front : List Text = take (count_before u.0 units) units in
      let from : List Text = from_unit u.0 units in
      let rest : List Text = drop (count_first u.0 from) from in
      let whole : list_any (same_text unit) units ≡ (list_any (same_text unit) front || list_any (same_text unit) from)
      = ap (list_any (same_text unit)) (sym (take-append-drop (count_before u.0 units) units)) ∙ any-append (same_text unit) front from in
      any-append is_key (map alone front) (unit_with u from ∷ merged us rest)
      ∙ (ap (λ t. t || (is_group u || list_any is_key (merged us rest))) (alone_in front)
      ∙ (ap (λ t. list_any (same_text unit) front || (is_group u || t)) (merged_in us rest)
      ∙ (gathered (list_any (same_text unit) front) (is_group u) (list_any is_group us) (list_any (same_text unit) rest) (list_any (same_text unit) from) (first_in u.0 from)
      ∙ ap (λ t. (is_group u || list_any is_group us) || t) (sym whole))))

pub listed_units : (rows : Sights) (persistent : List Text) (unit : Text) → list_any (λ u. same_text unit u.key) (units_of rows persistent)
    ≡ (list_any (λ e. same_text unit e.0.0) rows || list_any (same_text unit) persistent)
listed_units rows persistent unit = merged_in unit (by_unit rows) persistent ∙ ap (λ t. t || list_any (same_text unit) persistent) (groups_in unit rows)

-- ---- rows

rows_of_row : (e : Place × Sight) (us : List (Text × Sights)) → flat_map (λ u. u.1) (with_row e us) ≡ e ∷ flat_map (λ u. u.1) us
rows_of_row e [] = refl
rows_of_row e (u ∷ us) = elim (same_text e.0.0 u.0) as (λ t. flat_map (λ (x : Text × Sights). x.1) (cond t ((u.0, e ∷ u.1) ∷ us) ((e.0.0, e ∷ []) ∷ u ∷ us)) ≡ e ∷ (u.1 ++ flat_map (λ x. x.1) us)) [ true ↦ refl | false ↦ refl ]

rows_of_groups : (rows : Sights) → flat_map (λ u. u.1) (by_unit rows) ≡ rows
unfolding by_unit
rows_of_groups [] = refl
rows_of_groups (e ∷ es) = rows_of_row e (by_unit es) ∙ ap (λ xs. e ∷ xs) (rows_of_groups es)

rows_of_alone : (units : List Text) (more : List UnitSeen) → flat_map (λ u. u.rows) (map alone units ++ more) ≡ flat_map (λ u. u.rows) more
rows_of_alone [] more = refl
rows_of_alone (u ∷ us) more = rows_of_alone us more

rows_of_none : (units : List Text) → flat_map (λ u. u.rows) (map alone units) ≡ []
rows_of_none [] = refl
rows_of_none (u ∷ us) = rows_of_none us

rows_of_merged : (us : List (Text × Sights)) (units : List Text) → flat_map (λ u. u.rows) (merged us units) ≡ flat_map (λ u. u.1) us
unfolding merged
rows_of_merged [] units = rows_of_none units
rows_of_merged (u ∷ us) units =
    let from : List Text = from_unit u.0 units in
    let rest : List Text = drop (count_first u.0 from) from in
    rows_of_alone (take (count_before u.0 units) units) (unit_with u from ∷ merged us rest) ∙ ap (λ xs. u.1 ++ xs) (rows_of_merged us rest)

pub listed_rows : (rows : Sights) (persistent : List Text) → flat_map (λ u. u.rows) (units_of rows persistent) ≡ rows
listed_rows rows persistent = rows_of_merged (by_unit rows) persistent ∙ rows_of_groups rows
