-- What stands in one unit, read from the rows of all.
use Rattle.std.proofs.Common.{◌≡◌, ◌&&◌, ◌||◌, ◌++◌, true, false, cond, List, [], ◌∷◌, map, filter, Option, Some, None, is_some, option_map, unwrap_or, refl, sym, ap, subst, ◌∙◌}
use Rattle.std.specs.List.{AllByRecursion, cons_option}
use Rattle.std.specs.List.Sorted.{IsStrictlySortedBy}
use Rattle.std.specs.Map.{keys_of, lookup}
use Rattle.std.specs.BTreeMap.{is_at}
use Rattle.std.specs.FinMap.Entries.{find}
use Rattle.std.specs.Ordering.{is_eq, ordering_then}
use Rattle.std.specs.declared.cmp.Ordering.TheVariants.{Less, Equal, Greater}
use Rattle.std.specs.Cmp.Lexicographic.{texts_ties}
use Rattle.std.proofs.lemmas.List.Elements.{filter-append}
use Rattle.std.proofs.lemmas.List.{map-append, append-nil}
use Rattle.std.proofs.lemmas.Map.Keys.{sorted_head, sorted_tail}
use Rattle.opfs_base.specs.Texts.{Text, same_text}
use Rattle.opfs_base.specs.Places.{begins_with, rest_below, only_name, is_within}
use Rattle.opfs_base.specs.declared.locator.Kind.{Kind}
use Rattle.opfs_tree.specs.Rows.{Rows, row_at, rows_within, children_of, has_children, kind_of}
use Rattle.opfs_tree.specs.Units.{UnitRows, text_cmp, path_cmp, unit_rows, placed, all_rows, below, values, children_in, has_children_in}
use Rattle.opfs_tree.proofs.Orders.{tied_texts}

module _ (k : Text) (p : List Text) where
  -- The row at a place is the one at its path in its unit.
  pub row_in_unit : (rows : Rows) → row_at (k, p) rows ≡ find path_cmp p (unit_rows k rows)
  row_in_unit [] = refl
  row_in_unit (e ∷ es) =
      let mine = filter (λ x. same_text k x.0.0) es in
      elim (text_cmp k e.0.0) as (λ o. cond (is_eq (ordering_then o (path_cmp p e.0.1))) (Some e.1) (row_at (k, p) es) ≡ find path_cmp p (map (λ x. (x.0.1, x.1)) (cond (is_eq o) (e ∷ mine) mine))) [
        | Less ↦ row_in_unit es
        | Equal ↦ ap (cond (is_eq (path_cmp p e.0.1)) (Some e.1)) (row_in_unit es)
        | Greater ↦ row_in_unit es
      ] ∙ ap (λ b. find path_cmp p (map (λ x. (x.0.1, x.1)) (cond b (e ∷ mine) mine))) (sym (texts_ties k e.0.0))

  -- The rows at a place and below it are those of its unit.
  pub rows_in_unit : (rows : Rows) → rows_within (k, p) rows ≡ values (below p (unit_rows k rows))
  rows_in_unit [] = refl
  rows_in_unit (e ∷ es) =
      let mine = filter (λ x. same_text k x.0.0) es in
      let inside = filter (λ x. is_within (k, p) x.0) es in
      elim (same_text k e.0.0) as (λ b. map (λ x. x.1) (cond (b && begins_with p e.0.1) (e ∷ inside) inside) ≡ values (below p (map (λ x. (x.0.1, x.1)) (cond b (e ∷ mine) mine)))) [
        | true ↦ elim (begins_with p e.0.1) as (λ b. map (λ x. x.1) (cond b (e ∷ inside) inside) ≡ values (cond b ((e.0.1, e.1) ∷ below p (unit_rows k es)) (below p (unit_rows k es)))) [
          | true ↦ ap (λ xs. e.1 ∷ xs) (rows_in_unit es)
          | false ↦ rows_in_unit es
        ]
        | false ↦ rows_in_unit es
      ]

  children_all : (rows : Rows) → children_of (k, p) rows ≡ children_in p (unit_rows k rows)
  children_all [] = refl
  children_all (e ∷ es) =
      let mine = filter (λ x. same_text k x.0.0) es in
      elim (same_text k e.0.0) as (λ b. cons_option (option_map (λ name. (name, kind_of e.1)) (elim b [ true ↦ only_name (rest_below p e.0.1) | false ↦ None ])) (children_of (k, p) es)
      ≡ children_in p (map (λ x. (x.0.1, x.1)) (cond b (e ∷ mine) mine))) [
        | true ↦ ap (cons_option (option_map (λ name. (name, kind_of e.1)) (only_name (rest_below p e.0.1)))) (children_all es)
        | false ↦ children_all es
      ]

  has_all : (rows : Rows) → has_children (k, p) rows ≡ has_children_in p (unit_rows k rows)
  has_all [] = refl
  has_all (e ∷ es) =
      let mine = filter (λ x. same_text k x.0.0) es in
      elim (same_text k e.0.0) as (λ b. (is_some (elim b [ true ↦ only_name (rest_below p e.0.1) | false ↦ None ]) || has_children (k, p) es)
      ≡ has_children_in p (map (λ x. (x.0.1, x.1)) (cond b (e ∷ mine) mine))) [
        | true ↦ ap (λ b. is_some (only_name (rest_below p e.0.1)) || b) (has_all es)
        | false ↦ has_all es
      ]

-- A path that is not below another is no child of it.
not_below : (p q : List Text) → begins_with p q ≡ false → rest_below p q ≡ None
not_below [] q h = cc
not_below (a ∷ p) [] h = refl
not_below (a ∷ p) (b ∷ q) h =
    elim (same_text a b) as (λ t. (t && begins_with p q) ≡ false → ◌≡◌ {A = Option (List Text)} (elim t [ true ↦ rest_below p q | false ↦ None ]) None) [
      | true ↦ λ out. not_below p q out
      | false ↦ λ out. refl
    ] h

module _ (p : List Text) where
  children_below : (es : UnitRows) → children_in p es ≡ children_in p (below p es)
  children_below [] = refl
  children_below (e ∷ es) =
      let name : Option (List Text) → Option (Text × Kind) = λ o. option_map (λ n. (n, kind_of e.1)) (only_name o) in
      elim (begins_with p e.0) as (λ b. begins_with p e.0 ≡ b → cons_option (name (rest_below p e.0)) (children_in p es) ≡ children_in p (cond b (e ∷ below p es) (below p es))) [
        | true ↦ λ is. ap (cons_option (name (rest_below p e.0))) (children_below es)
        | false ↦ λ is. ap (λ o. cons_option (name o) (children_in p es)) (not_below p e.0 is) ∙ children_below es
      ] refl

  has_below : (es : UnitRows) → has_children_in p es ≡ has_children_in p (below p es)
  has_below [] = refl
  has_below (e ∷ es) =
      elim (begins_with p e.0) as (λ b. begins_with p e.0 ≡ b → (is_some (only_name (rest_below p e.0)) || has_children_in p es) ≡ has_children_in p (cond b (e ∷ below p es) (below p es))) [
        | true ↦ λ is. ap (λ t. is_some (only_name (rest_below p e.0)) || t) (has_below es)
        | false ↦ λ is. ap (λ o. is_some (only_name o) || has_children_in p es) (not_below p e.0 is) ∙ has_below es
      ] refl

-- A place's children are those of its path in its unit.
pub children_in_unit : (k : Text) (p : List Text) (rows : Rows) → children_of (k, p) rows ≡ children_in p (below p (unit_rows k rows))
children_in_unit k p rows = children_all k p rows ∙ children_below p (unit_rows k rows)

pub has_in_unit : (k : Text) (p : List Text) (rows : Rows) → has_children (k, p) rows ≡ has_children_in p (below p (unit_rows k rows))
has_in_unit k p rows = has_all k p rows ∙ has_below p (unit_rows k rows)

-- The rows of one unit after those of others.
pub unit_append : (k : Text) (xs ys : Rows) → unit_rows k (xs ++ ys) ≡ unit_rows k xs ++ unit_rows k ys
unit_append k xs ys =
    ap (map (λ x. (x.0.1, x.1))) (filter-append (λ x. same_text k x.0.0) xs ys) ∙ map-append (λ x. (x.0.1, x.1)) (filter (λ x. same_text k x.0.0) xs) (filter (λ x. same_text k x.0.0) ys)

pub unit_same : (k u : Text) (es : UnitRows) → same_text k u ≡ true → unit_rows k (placed u es) ≡ es
unit_same k u [] h = refl
unit_same k u (e ∷ es) h =
    let mine = filter (λ x. same_text k x.0.0) (placed u es) in
    ap (λ b. map (λ x. (x.0.1, x.1)) (cond b (((u, e.0), e.1) ∷ mine) mine)) h ∙ ap (λ xs. e ∷ xs) (unit_same k u es h)

pub unit_other : (k u : Text) (es : UnitRows) → same_text k u ≡ false → unit_rows k (placed u es) ≡ []
unit_other k u [] h = refl
unit_other k u (e ∷ es) h =
    let mine = filter (λ x. same_text k x.0.0) (placed u es) in
    ap (λ b. map (λ x. (x.0.1, x.1)) (cond b (((u, e.0), e.1) ∷ mine) mine)) h ∙ unit_other k u es h

-- A unit before all others has no rows among them.
pub no_unit : (k : Text) (us : List (Text × UnitRows)) → AllByRecursion (λ y. text_cmp k y ≡ Less) (keys_of us) → unit_rows k (all_rows us) ≡ []
no_unit k [] all = refl
no_unit k (u ∷ us) all =
    unit_append k (placed u.0 u.1) (all_rows us)
    ∙ (ap (λ xs. xs ++ unit_rows k (all_rows us)) (unit_other k u.0 u.1 (texts_ties k u.0 ∙ ap is_eq all.0)) ∙ no_unit k us all.1)

-- The rows of a unit are what the map of units has for it.
pub unit_found : (k : Text) (us : List (Text × UnitRows)) → IsStrictlySortedBy text_cmp (keys_of us) → unwrap_or (lookup (is_at (text_cmp k)) us) [] ≡ unit_rows k (all_rows us)
unit_found k [] sorted = refl
unit_found k (u ∷ us) sorted =
    let split = unit_append k (placed u.0 u.1) (all_rows us) in
    elim (is_eq (text_cmp k u.0)) as (λ b. same_text k u.0 ≡ b → unwrap_or (cond b (Some u.1) (lookup (is_at (text_cmp k)) us)) [] ≡ unit_rows k (placed u.0 u.1 ++ all_rows us)) [
      | true ↦ λ is.
          let same : k ≡ u.0 = tied_texts k u.0 is in
          let P = λ (x : Text). AllByRecursion (λ y. text_cmp x y ≡ Less) (keys_of us) in
          sym (split ∙ (ap (λ xs. xs ++ unit_rows k (all_rows us)) (unit_same k u.0 u.1 is)
          ∙ (ap (λ xs. u.1 ++ xs) (no_unit k us (subst P (sym same) (sorted_head text_cmp u.0 (keys_of us) sorted))) ∙ append-nil u.1)))
      | false ↦ λ is.
          unit_found k us (sorted_tail text_cmp u.0 (keys_of us) sorted)
          ∙ sym (split ∙ ap (λ xs. xs ++ unit_rows k (all_rows us)) (unit_other k u.0 u.1 is))
    ] (texts_ties k u.0)
