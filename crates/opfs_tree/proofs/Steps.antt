-- What stands above a place.
use Rattle.std.proofs.Common.{◌≡◌, ◌&&◌, ◌++◌, Bool, true, false, cond, T, List, [], ◌∷◌, filter, Option, Some, None, option_map, unwrap_or, slice_get, refl, sym, ap, subst, ◌∙◌}
use Rattle.std.specs.List.Sorted.{IsStrictlySortedBy}
use Rattle.std.specs.Map.{keys_of, lookup}
use Rattle.std.specs.BTreeMap.{is_at}
use Rattle.std.specs.FinMap.Entries.{is_sorted, below_all}
use Rattle.std.specs.Ordering.{is_eq, is_lt, ordering_then, ordering_reverse}
use Rattle.std.specs.declared.cmp.Ordering.{Ordering}
use Rattle.std.specs.declared.cmp.Ordering.TheVariants.{Less, Equal, Greater}
use Rattle.std.specs.Cmp.{IsTotalOrder, tied_itself}
use Rattle.std.proofs.lemmas.List.Elements.{filter-append}
use Rattle.std.proofs.lemmas.Map.Keys.{sorted_head, sorted_tail}
use Rattle.opfs_base.specs.Texts.{Text}
use Rattle.opfs_base.specs.Places.{Place, place_cmp}
use Rattle.opfs_tree.specs.declared.row.Row.{Row}
use Rattle.opfs_tree.specs.Rows.{Rows, rows_above}
use Rattle.opfs_tree.specs.Units.{UnitRows, text_cmp, path_cmp, unit_rows, placed, all_rows, above, behind}
use Rattle.opfs_tree.proofs.Orders.{text_total, place_total, exact_texts}
use Rattle.opfs_tree.proofs.Places.{unit_found}
use Rattle.opfs_tree.proofs.Writes.{before_all, before_same, no_entry}

abbrev Units : Type 0
Units = List (Text × UnitRows)

module _ (k : Text) (p : List Text) where
  above_less : (u : Text) (es : UnitRows) → text_cmp k u ≡ Less → rows_above (Some (k, p)) (placed u es) ≡ placed u es
  above_less u [] h = refl
  above_less u (e ∷ es) h =
      let rest = rows_above (Some (k, p)) (placed u es) in
      ap (λ o. cond (is_lt (ordering_then o (path_cmp p e.0))) (((u, e.0), e.1) ∷ rest) rest) h ∙ ap (λ xs. ((u, e.0), e.1) ∷ xs) (above_less u es h)

  above_greater : (u : Text) (es : UnitRows) → text_cmp k u ≡ Greater → rows_above (Some (k, p)) (placed u es) ≡ []
  above_greater u [] h = refl
  above_greater u (e ∷ es) h =
      let rest = rows_above (Some (k, p)) (placed u es) in
      ap (λ o. cond (is_lt (ordering_then o (path_cmp p e.0))) (((u, e.0), e.1) ∷ rest) rest) h ∙ above_greater u es h

  above_mine : (es : UnitRows) → rows_above (Some (k, p)) (placed k es) ≡ placed k (above p es)
  above_mine [] = refl
  above_mine (e ∷ es) =
      let rest = rows_above (Some (k, p)) (placed k es) in
      ap (λ o. cond (is_lt (ordering_then o (path_cmp p e.0))) (((k, e.0), e.1) ∷ rest) rest) (tied_itself text_total k)
      ∙ (elim (is_lt (path_cmp p e.0)) as (λ b. cond b (((k, e.0), e.1) ∷ rest) rest ≡ placed k (cond b (e ∷ above p es) (above p es))) [
        | true ↦ ap (λ xs. ((k, e.0), e.1) ∷ xs) (above_mine es)
        | false ↦ above_mine es
      ])

  -- The rows above a place are those of its unit above its path, and then those of the units behind.
  above_split : (us : Units) → IsStrictlySortedBy text_cmp (keys_of us)
      → rows_above (Some (k, p)) (all_rows us) ≡ placed k (above p (unwrap_or (lookup (is_at (text_cmp k)) us) [])) ++ all_rows (behind k us)
  above_split [] sorted = refl
  above_split (u ∷ us) sorted =
      let t = is_at (text_cmp k) in
      let later = sorted_head text_cmp u.0 (keys_of us) sorted in
      let more = above_split us (sorted_tail text_cmp u.0 (keys_of us) sorted) in
      let alone = λ (none : lookup t us ≡ None). more ∙ ap (λ o. placed k (above p (unwrap_or o [])) ++ all_rows (behind k us)) none in
      filter-append (λ e. is_lt (place_cmp (k, p) e.0)) (placed u.0 u.1) (all_rows us)
      ∙ (elim (text_cmp k u.0) as (λ o. text_cmp k u.0 ≡ o → rows_above (Some (k, p)) (placed u.0 u.1) ++ rows_above (Some (k, p)) (all_rows us)
      ≡ placed k (above p (unwrap_or (cond (is_eq o) (Some u.1) (lookup t us)) [])) ++ all_rows (cond (is_lt o && true) (u ∷ behind k us) (behind k us))) [
        | Less ↦ λ is.
            let none = no_entry k us (before_all k u.0 us is later) in
            ap (λ xs. xs ++ rows_above (Some (k, p)) (all_rows us)) (above_less u.0 u.1 is)
            ∙ (ap (λ xs. placed u.0 u.1 ++ xs) (alone none) ∙ ap (λ o. placed k (above p (unwrap_or o [])) ++ (placed u.0 u.1 ++ all_rows (behind k us))) (sym none))
        | Equal ↦ λ is.
            let same = exact_texts k u.0 is in
            let none = no_entry k us (before_same k u.0 us same later) in
            ap (λ x. rows_above (Some (k, p)) (placed x u.1) ++ rows_above (Some (k, p)) (all_rows us)) (sym same)
            ∙ (ap (λ xs. xs ++ rows_above (Some (k, p)) (all_rows us)) (above_mine u.1) ∙ ap (λ xs. placed k (above p u.1) ++ xs) (alone none))
        | Greater ↦ λ is.
            ap (λ xs. xs ++ rows_above (Some (k, p)) (all_rows us)) (above_greater u.0 u.1 is) ∙ more
      ] refl)

abbrev option_or_first : {X : Type 0} → Option X → Option X → Option X
option_or_first (Some x) o = Some x
option_or_first None o = o

first_placed : (k : Text) (es : UnitRows) (rest : Rows) → slice_get (placed k es ++ rest) 0 ≡ option_or_first (option_map (λ e. ((k, e.0), e.1)) (slice_get es 0)) (slice_get rest 0)
first_placed k [] rest = refl
first_placed k (e ∷ es) rest = refl

-- The first row of some units.
pub unit_first : (iter more : Units) (u : Text × UnitRows) (whole : Option (Place × Row)) (e : List Text × Row) → iter ≡ u ∷ more → slice_get (all_rows iter) 0 ≡ whole
    → Some e ≡ slice_get u.1 0 → Some ((u.0, e.0), e.1) ≡ whole
unit_first iter more u whole e is before h =
    ap (λ o. option_or_first (option_map (λ x. ((u.0, x.0), x.1)) o) (slice_get (all_rows more) 0)) h
    ∙ (sym (first_placed u.0 u.1 (all_rows more)) ∙ (ap (λ us. slice_get (all_rows us) 0) (sym is) ∙ before))

pub unit_empty : (iter more : Units) (u : Text × UnitRows) (whole : Option (Place × Row)) → iter ≡ u ∷ more → slice_get (all_rows iter) 0 ≡ whole
    → None ≡ slice_get u.1 0 → slice_get (all_rows more) 0 ≡ whole
unit_empty iter more u whole is before h =
    ap (λ o. option_or_first (option_map (λ x. ((u.0, x.0), x.1)) o) (slice_get (all_rows more) 0)) h
    ∙ (sym (first_placed u.0 u.1 (all_rows more)) ∙ (ap (λ us. slice_get (all_rows us) 0) (sym is) ∙ before))

-- The first row above a place: in its unit, or else in those behind.
module _ (k : Text) (p : List Text) (us : Units) (rows : Rows) (sorted : IsStrictlySortedBy text_cmp (keys_of us)) (same : all_rows us ≡ rows) where
  split_rows : rows_above (Some (k, p)) rows ≡ placed k (above p (unit_rows k rows)) ++ all_rows (behind k us)
  split_rows =
      ap (rows_above (Some (k, p))) (sym same)
      ∙ (above_split k p us sorted ∙ ap (λ es. placed k (above p es) ++ all_rows (behind k us)) (unit_found k us sorted ∙ ap (unit_rows k) same))

  pub first_here : (e : List Text × Row) → Some e ≡ slice_get (above p (unit_rows k rows)) 0 → Some ((k, e.0), e.1) ≡ slice_get (rows_above (Some (k, p)) rows) 0
  first_here e h =
      ap (λ o. option_or_first (option_map (λ x. ((k, x.0), x.1)) o) (slice_get (all_rows (behind k us)) 0)) h
      ∙ (sym (first_placed k (above p (unit_rows k rows)) (all_rows (behind k us))) ∙ ap (λ xs. slice_get xs 0) (sym split_rows))

  pub first_later : None ≡ slice_get (above p (unit_rows k rows)) 0 → slice_get (all_rows (behind k us)) 0 ≡ slice_get (rows_above (Some (k, p)) rows) 0
  first_later h =
      ap (λ o. option_or_first (option_map (λ x. ((k, x.0), x.1)) o) (slice_get (all_rows (behind k us)) 0)) h
      ∙ (sym (first_placed k (above p (unit_rows k rows)) (all_rows (behind k us))) ∙ ap (λ xs. slice_get xs 0) (sym split_rows))

both_first : (a b : Bool) → T (a && b) → T a
both_first true b p = tt
both_first false b p = p

both_second : (a b : Bool) → T (a && b) → T b
both_second true b p = p
both_second false b p = absurd p

less_from : (r : Ordering) → T (is_lt r) → r ≡ Less
less_from Less p = refl
less_from Equal p = absurd p
less_from Greater p = absurd p

less_of : (r : Ordering) → is_lt r ≡ true → r ≡ Less
less_of Less h = refl
less_of Equal h = cc
less_of Greater h = cc

test_of : (r : Ordering) → r ≡ Less → T (is_lt r)
test_of Less h = tt
test_of Equal h = cc
test_of Greater h = cc

-- Above the first row above a place stands the rest.
module _ {K X : Type 0} {R : K → K → Ordering} (o : IsTotalOrder R) where
  all_over : (k : K) (es : List (K × X)) → T (below_all R k es) → filter (λ e. is_lt (R k e.0)) es ≡ es
  all_over k [] h = refl
  all_over k (e ∷ es) h =
      let rest = filter (λ x. is_lt (R k x.0)) es in
      elim (is_lt (R k e.0)) as (λ b. T (b && below_all R k es) → cond b (e ∷ rest) rest ≡ e ∷ es) [
        | true ↦ λ g. ap (λ xs. e ∷ xs) (all_over k es g)
        | false ↦ λ g. absurd g
      ] h

  not_over : (e : K × X) (es : List (K × X)) → T (is_sorted R (e ∷ es)) → filter (λ x. is_lt (R e.0 x.0)) (e ∷ es) ≡ es
  not_over e es h =
      let rest = filter (λ x. is_lt (R e.0 x.0)) es in
      ap (λ r. cond (is_lt r) (e ∷ rest) rest) (tied_itself o e.0) ∙ all_over e.0 es (both_first (below_all R e.0 es) (is_sorted R es) h)

  below_on : (k a : K) (es : List (K × X)) → R k a ≡ Less → T (below_all R a es) → T (below_all R k es)
  below_on k a [] h g = tt
  below_on k a (e ∷ es) h g =
      let first = test_of (R k e.0) (o.trans k a e.0 h (less_from (R a e.0) (both_first (is_lt (R a e.0)) (below_all R a es) g))) in
      let more = below_on k a es h (both_second (is_lt (R a e.0)) (below_all R a es) g) in
      elim (is_lt (R k e.0)) as (λ b. T b → T (b && below_all R k es)) [ true ↦ λ _. more | false ↦ λ x. x ] first

  among : (k a : K) (es : List (K × X)) (f : K × X) (fs : List (K × X)) → T (below_all R a es) → filter (λ x. is_lt (R k x.0)) es ≡ f ∷ fs → R a f.0 ≡ Less
  among k a [] f fs g is = cc
  among k a (e ∷ es) f fs g is =
      let rest = filter (λ x. is_lt (R k x.0)) es in
      elim (is_lt (R k e.0)) as (λ b. cond b (e ∷ rest) rest ≡ f ∷ fs → R a f.0 ≡ Less) [
        | true ↦ λ n. let same : e ≡ f = cc in ap (λ x. R a x.0) (sym same) ∙ less_from (R a e.0) (both_first (is_lt (R a e.0)) (below_all R a es) g)
        | false ↦ λ n. among k a es f fs (both_second (is_lt (R a e.0)) (below_all R a es) g) n
      ] is

  rest_over : (k : K) (es : List (K × X)) (f : K × X) (fs : List (K × X)) → T (is_sorted R es) → filter (λ x. is_lt (R k x.0)) es ≡ f ∷ fs → fs ≡ filter (λ x. is_lt (R f.0 x.0)) es
  rest_over k [] f fs h is = cc
  rest_over k (e ∷ es) f fs h is =
      let rest = filter (λ x. is_lt (R k x.0)) es in
      let sorted = both_second (below_all R e.0 es) (is_sorted R es) h in
      elim (is_lt (R k e.0)) as (λ b. is_lt (R k e.0) ≡ b → cond b (e ∷ rest) rest ≡ f ∷ fs → fs ≡ filter (λ x. is_lt (R f.0 x.0)) (e ∷ es)) [
        | true ↦ λ t n.
            let same : e ≡ f = cc in
            let tail : rest ≡ fs = cc in
            let after = both_first (below_all R e.0 es) (is_sorted R es) h in
            sym tail ∙ (all_over k es (below_on k e.0 es (less_of (R k e.0) t) after) ∙ (sym (not_over e es h) ∙ ap (λ x. filter (λ y. is_lt (R x.0 y.0)) (e ∷ es)) same))
        | false ↦ λ t n.
            let below = among k e.0 es f fs (both_first (below_all R e.0 es) (is_sorted R es) h) n in
            let over : is_lt (R f.0 e.0) ≡ false = ap is_lt (o.antisymm f.0 e.0 ∙ ap ordering_reverse below) in
            rest_over k es f fs sorted n ∙ sym (ap (λ b. cond b (e ∷ filter (λ x. is_lt (R f.0 x.0)) es) (filter (λ x. is_lt (R f.0 x.0)) es)) over)
      ] refl is

sorted_test : (b : Bool) → b ≡ true → T b
sorted_test true h = tt
sorted_test false h = cc

cons_from_first : {X : Type 0} (xs : List X) (e : X) → Some e ≡ slice_get xs 0 → (rest : List X) × (xs ≡ e ∷ rest)
cons_from_first [] e h = cc
cons_from_first (x ∷ xs) e h = (xs, let same : x ≡ e = cc in ap (λ y. y ∷ xs) same)

-- What is above the first row above a place, or the first of all.
pub step_rows : (at : Option Place) (rows : Rows) (place : Place) (r : Row) → is_sorted place_cmp rows ≡ true → Some (place, r) ≡ slice_get (rows_above at rows) 0
    → rows_above at rows ≡ (place, r) ∷ rows_above (Some place) rows
step_rows None rows place r order h =
    let found = cons_from_first rows (place, r) h in
    let sorted = let P = λ (x : Rows). is_sorted place_cmp x ≡ true in subst P found.1 order in
    found.1 ∙ ap (λ xs. (place, r) ∷ xs) (sym (ap (rows_above (Some place)) found.1 ∙ not_over place_total (place, r) found.0 (sorted_test (is_sorted place_cmp ((place, r) ∷ found.0)) sorted)))
step_rows (Some from) rows place r order h =
    let found = cons_from_first (rows_above (Some from) rows) (place, r) h in
    found.1 ∙ ap (λ xs. (place, r) ∷ xs) (rest_over place_total from rows (place, r) found.0 (sorted_test (is_sorted place_cmp rows) order) found.1)

none_from_first : {X : Type 0} (xs : List X) → None ≡ slice_get xs 0 → xs ≡ []
none_from_first [] h = refl
none_from_first (x ∷ xs) h = cc

pub no_step : (at : Option Place) (rows : Rows) → None ≡ slice_get (rows_above at rows) 0 → rows_above at rows ≡ []
no_step at rows h = none_from_first (rows_above at rows) h
