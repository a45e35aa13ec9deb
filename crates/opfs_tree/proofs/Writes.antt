-- What a write to one unit does to the rows of all.
use Rattle.std.proofs.Common.{◌≡◌, ◌&&◌, ◌++◌, Bool, true, false, cond, not, List, [], ◌∷◌, Some, None, refl, sym, ap, subst, ◌∙◌}
use Rattle.std.specs.List.{AllByRecursion}
use Rattle.std.specs.List.Sorted.{IsStrictlySortedBy}
use Rattle.std.specs.Map.{keys_of, lookup, set_value, remove_entry}
use Rattle.std.specs.BTreeMap.{is_at, insert_entry}
use Rattle.std.specs.FinMap.Entries.{put, by_order}
use Rattle.std.specs.Ordering.{is_eq, ordering_then, match_ordering}
use Rattle.std.specs.declared.cmp.Ordering.{Ordering}
use Rattle.std.specs.declared.cmp.Ordering.TheVariants.{Less, Equal, Greater}
use Rattle.std.specs.Cmp.{tied_itself}
use Rattle.std.specs.Cmp.Lexicographic.{texts_ties}
use Rattle.std.proofs.lemmas.List.Elements.{filter-append}
use Rattle.std.proofs.lemmas.Map.Keys.{sorted_head, sorted_tail}
use Rattle.opfs_base.specs.Texts.{Text, same_text}
use Rattle.opfs_base.specs.Places.{place_cmp, begins_with, is_within}
use Rattle.opfs_tree.specs.declared.row.FileRow.{FileRow}
use Rattle.opfs_tree.specs.declared.row.Row.{Row}
use Rattle.opfs_tree.specs.Rows.{Rows, without, change_at, changed_row}
use Rattle.opfs_tree.specs.Units.{UnitRows, text_cmp, path_cmp, placed, all_rows, beside, change_in}
use Rattle.opfs_tree.proofs.Orders.{exact_texts, text_total}

abbrev Units : Type 0
Units = List (Text × UnitRows)

-- A unit before all others.
abbrev pub IsBefore : Text → Units → Type 0
IsBefore k us = AllByRecursion (λ y. text_cmp k y ≡ Less) (keys_of us)

pub before_all : (k u : Text) (us : Units) → text_cmp k u ≡ Less → IsBefore u us → IsBefore k us
before_all k u [] h all = tt
before_all k u (x ∷ us) h all = (text_total.trans k u x.0 h all.0, before_all k u us h all.1)

pub before_same : (k u : Text) (us : Units) → k ≡ u → IsBefore u us → IsBefore k us
before_same k u us same all = let P = λ (x : Text). IsBefore x us in subst P (sym same) all

pub no_entry : (k : Text) (us : Units) → IsBefore k us → lookup (is_at (text_cmp k)) us ≡ None
no_entry k [] all = refl
no_entry k (u ∷ us) all = ap (λ o. cond (is_eq o) (Some u.1) (lookup (is_at (text_cmp k)) us)) all.0 ∙ no_entry k us all.1

some_units : (es : UnitRows) → Some es ≡ None → ⊥
some_units es h = cc

same_units : (a b : UnitRows) → Some a ≡ Some b → a ≡ b
same_units a b h = cc

-- The one place where a row goes, in the rows of all and in those of its unit.
module _ (k : Text) (p : List Text) (r : Row) where
  put_front_of : (u : Text) (es : UnitRows) (rest : Rows) → text_cmp k u ≡ Less → put place_cmp (k, p) r rest ≡ ((k, p), r) ∷ rest
      → put place_cmp (k, p) r (placed u es ++ rest) ≡ ((k, p), r) ∷ (placed u es ++ rest)
  put_front_of u [] rest h more = more
  put_front_of u (e ∷ es) rest h more =
      let all = ((u, e.0), e.1) ∷ (placed u es ++ rest) in
      ap (λ o. by_order (ordering_then o (path_cmp p e.0)) (((k, p), r) ∷ all) (((u, e.0), r) ∷ (placed u es ++ rest)) (((u, e.0), e.1) ∷ put place_cmp (k, p) r (placed u es ++ rest))) h

  put_front : (us : Units) → IsBefore k us → put place_cmp (k, p) r (all_rows us) ≡ ((k, p), r) ∷ all_rows us
  put_front [] all = refl
  put_front (u ∷ us) all = put_front_of u.0 u.1 (all_rows us) all.0 (put_front us all.1)

  put_mine : (es : UnitRows) (rest : Rows) → put place_cmp (k, p) r rest ≡ ((k, p), r) ∷ rest
      → put place_cmp (k, p) r (placed k es ++ rest) ≡ placed k (put path_cmp p r es) ++ rest
  put_mine [] rest more = more
  put_mine (e ∷ es) rest more =
      let all = ((k, e.0), e.1) ∷ (placed k es ++ rest) in
      let by = λ (o : Ordering). by_order o (((k, p), r) ∷ all) (((k, e.0), r) ∷ (placed k es ++ rest)) (((k, e.0), e.1) ∷ put place_cmp (k, p) r (placed k es ++ rest)) in
      ap (λ o. by (ordering_then o (path_cmp p e.0))) (tied_itself text_total k)
      ∙ (elim (path_cmp p e.0) as (λ o. by o ≡ placed k (by_order o ((p, r) ∷ e ∷ es) ((e.0, r) ∷ es) (e ∷ put path_cmp p r es)) ++ rest) [
        | Less ↦ refl
        | Equal ↦ refl
        | Greater ↦ ap (λ xs. ((k, e.0), e.1) ∷ xs) (put_mine es rest more)
      ])

  put_past : (u : Text) (es : UnitRows) (rest : Rows) → text_cmp k u ≡ Greater → put place_cmp (k, p) r (placed u es ++ rest) ≡ placed u es ++ put place_cmp (k, p) r rest
  put_past u [] rest h = refl
  put_past u (e ∷ es) rest h =
      let all = ((u, e.0), e.1) ∷ (placed u es ++ rest) in
      ap (λ o. by_order (ordering_then o (path_cmp p e.0)) (((k, p), r) ∷ all) (((u, e.0), r) ∷ (placed u es ++ rest)) (((u, e.0), e.1) ∷ put place_cmp (k, p) r (placed u es ++ rest))) h
      ∙ ap (λ xs. ((u, e.0), e.1) ∷ xs) (put_past u es rest h)

  -- A row that goes to a unit which is there.
  pub put_found : (us : Units) (es : UnitRows) → IsStrictlySortedBy text_cmp (keys_of us) → Some es ≡ lookup (is_at (text_cmp k)) us
      → all_rows (set_value (is_at (text_cmp k)) us (put path_cmp p r es)) ≡ put place_cmp (k, p) r (all_rows us)
  put_found [] es sorted h = absurd (some_units es h)
  put_found (u ∷ us) es sorted h =
      let t = is_at (text_cmp k) in
      let new = put path_cmp p r es in
      let later = sorted_head text_cmp u.0 (keys_of us) sorted in
      elim (text_cmp k u.0) as (λ o. text_cmp k u.0 ≡ o → Some es ≡ cond (is_eq o) (Some u.1) (lookup t us)
      → all_rows (cond (is_eq o) ((u.0, new) ∷ us) (u ∷ set_value t us new)) ≡ put place_cmp (k, p) r (placed u.0 u.1 ++ all_rows us)) [
        | Less ↦ λ is n. absurd (some_units es (n ∙ no_entry k us (before_all k u.0 us is later)))
        | Equal ↦ λ is n.
            let same = exact_texts k u.0 is in
            ap (λ x. placed x new ++ all_rows us) (sym same)
            ∙ (ap (λ x. placed k (put path_cmp p r x) ++ all_rows us) (same_units es u.1 n)
            ∙ (sym (put_mine u.1 (all_rows us) (put_front us (before_same k u.0 us same later))) ∙ ap (λ x. put place_cmp (k, p) r (placed x u.1 ++ all_rows us)) same))
        | Greater ↦ λ is n. ap (λ xs. placed u.0 u.1 ++ xs) (put_found us es (sorted_tail text_cmp u.0 (keys_of us) sorted) n) ∙ sym (put_past u.0 u.1 (all_rows us) is)
      ] refl h

  -- A row that goes to a new unit.
  pub put_absent : (us : Units) → IsStrictlySortedBy text_cmp (keys_of us) → None ≡ lookup (is_at (text_cmp k)) us
      → all_rows (insert_entry text_cmp us k (put path_cmp p r [])) ≡ put place_cmp (k, p) r (all_rows us)
  put_absent [] sorted h = refl
  put_absent (u ∷ us) sorted h =
      let t = is_at (text_cmp k) in
      let new = put path_cmp p r [] in
      let later = sorted_head text_cmp u.0 (keys_of us) sorted in
      elim (text_cmp k u.0) as (λ o. text_cmp k u.0 ≡ o → None ≡ cond (is_eq o) (Some u.1) (lookup t us)
      → all_rows (match_ordering o ((k, new) ∷ u ∷ us) ((u.0, new) ∷ us) (u ∷ insert_entry text_cmp us k new)) ≡ put place_cmp (k, p) r (placed u.0 u.1 ++ all_rows us)) [
        | Less ↦ λ is n. sym (put_front (u ∷ us) (is, before_all k u.0 us is later))
        | Equal ↦ λ is n. absurd (some_units u.1 (sym n))
        | Greater ↦ λ is n. ap (λ xs. placed u.0 u.1 ++ xs) (put_absent us (sorted_tail text_cmp u.0 (keys_of us) sorted) n) ∙ sym (put_past u.0 u.1 (all_rows us) is)
      ] refl h

-- An operation on the rows of one unit alone, which leaves those of others.
pub record IsLocal (k : Text) (op : Rows → Rows) (inner : UnitRows → UnitRows) : Type 0 where
  pub none : op [] ≡ []
  pub past : (u : Text) (es : UnitRows) (rest : Rows) → is_eq (text_cmp k u) ≡ false → op (placed u es ++ rest) ≡ placed u es ++ op rest
  pub mine : (es : UnitRows) (rest : Rows) → op rest ≡ rest → op (placed k es ++ rest) ≡ placed k (inner es) ++ rest

module _ (k : Text) (op : Rows → Rows) (inner : UnitRows → UnitRows) (laws : IsLocal k op inner) where
  pub local_absent : (us : Units) → None ≡ lookup (is_at (text_cmp k)) us → all_rows us ≡ op (all_rows us)
  local_absent [] h = sym laws.none
  local_absent (u ∷ us) h =
      elim (is_eq (text_cmp k u.0)) as (λ b. is_eq (text_cmp k u.0) ≡ b → None ≡ cond b (Some u.1) (lookup (is_at (text_cmp k)) us) → placed u.0 u.1 ++ all_rows us ≡ op (placed u.0 u.1 ++ all_rows us)) [
        | true ↦ λ is n. absurd (some_units u.1 (sym n))
        | false ↦ λ is n. ap (λ xs. placed u.0 u.1 ++ xs) (local_absent us n) ∙ sym (laws.past u.0 u.1 (all_rows us) is)
      ] refl h

  pub local_found : (us : Units) (es : UnitRows) → IsStrictlySortedBy text_cmp (keys_of us) → Some es ≡ lookup (is_at (text_cmp k)) us
      → all_rows (set_value (is_at (text_cmp k)) us (inner es)) ≡ op (all_rows us)
  local_found [] es sorted h = absurd (some_units es h)
  local_found (u ∷ us) es sorted h =
      let t = is_at (text_cmp k) in
      let later = sorted_head text_cmp u.0 (keys_of us) sorted in
      elim (text_cmp k u.0) as (λ o. text_cmp k u.0 ≡ o → Some es ≡ cond (is_eq o) (Some u.1) (lookup t us)
      → all_rows (cond (is_eq o) ((u.0, inner es) ∷ us) (u ∷ set_value t us (inner es))) ≡ op (placed u.0 u.1 ++ all_rows us)) [
        | Less ↦ λ is n. absurd (some_units es (n ∙ no_entry k us (before_all k u.0 us is later)))
        | Equal ↦ λ is n.
            let same = exact_texts k u.0 is in
            let rest = sym (local_absent us (sym (no_entry k us (before_same k u.0 us same later)))) in
            ap (λ x. placed x (inner es) ++ all_rows us) (sym same)
            ∙ (ap (λ x. placed k (inner x) ++ all_rows us) (same_units es u.1 n)
            ∙ (sym (laws.mine u.1 (all_rows us) rest) ∙ ap (λ x. op (placed x u.1 ++ all_rows us)) same))
        | Greater ↦ λ is n.
            ap (λ xs. placed u.0 u.1 ++ xs) (local_found us es (sorted_tail text_cmp u.0 (keys_of us) sorted) n) ∙ sym (laws.past u.0 u.1 (all_rows us) (ap is_eq is))
      ] refl h

module _ (k : Text) (p : List Text) where
  -- Taking out a row and all below it.
  without_past : (u : Text) (es : UnitRows) → same_text k u ≡ false → without (k, p) (placed u es) ≡ placed u es
  without_past u [] h = refl
  without_past u (e ∷ es) h =
      let rest = without (k, p) (placed u es) in
      ap (λ b. cond (not (b && begins_with p e.0)) (((u, e.0), e.1) ∷ rest) rest) h ∙ ap (λ xs. ((u, e.0), e.1) ∷ xs) (without_past u es h)

  without_mine : (es : UnitRows) → same_text k k ≡ true → without (k, p) (placed k es) ≡ placed k (beside p es)
  without_mine [] h = refl
  without_mine (e ∷ es) h =
      let rest = without (k, p) (placed k es) in
      ap (λ b. cond (not (b && begins_with p e.0)) (((k, e.0), e.1) ∷ rest) rest) h
      ∙ (elim (begins_with p e.0) as (λ b. cond (not b) (((k, e.0), e.1) ∷ rest) rest ≡ placed k (cond (not b) (e ∷ beside p es) (beside p es))) [
        | true ↦ without_mine es h
        | false ↦ ap (λ xs. ((k, e.0), e.1) ∷ xs) (without_mine es h)
      ])

  pub without_local : IsLocal k (without (k, p)) (beside p)
  without_local = record {
    none = refl;
    past = λ u es rest h. filter-append (λ e. not (is_within (k, p) e.0)) (placed u es) rest ∙ ap (λ xs. xs ++ without (k, p) rest) (without_past u es (texts_ties k u ∙ h));
    mine = λ es rest h.
        filter-append (λ e. not (is_within (k, p) e.0)) (placed k es) rest
        ∙ (ap (λ xs. xs ++ without (k, p) rest) (without_mine es (texts_ties k k ∙ ap is_eq (tied_itself text_total k))) ∙ ap (λ xs. placed k (beside p es) ++ xs) h);
  }

  -- Changing a file.
  module _ (change : FileRow → FileRow) where
    change_past : (u : Text) (es : UnitRows) (rest : Rows) → is_eq (text_cmp k u) ≡ false → change_at (k, p) change (placed u es ++ rest) ≡ placed u es ++ change_at (k, p) change rest
    change_past u [] rest h = refl
    change_past u (e ∷ es) rest h =
        let here = λ (b : Bool). let r : Rows = elim b [ true ↦ ((u, e.0), changed_row change e.1) ∷ (placed u es ++ rest) | false ↦ ((u, e.0), e.1) ∷ change_at (k, p) change (placed u es ++ rest) ] in r in
        (elim (text_cmp k u) as (λ o. is_eq o ≡ false → here (is_eq (ordering_then o (path_cmp p e.0))) ≡ here false) [
          | Less ↦ λ n. refl
          | Equal ↦ λ n. cc
          | Greater ↦ λ n. refl
        ] h) ∙ ap (λ xs. ((u, e.0), e.1) ∷ xs) (change_past u es rest h)

    change_mine : (es : UnitRows) (rest : Rows) → change_at (k, p) change rest ≡ rest → change_at (k, p) change (placed k es ++ rest) ≡ placed k (change_in p change es) ++ rest
    change_mine [] rest h = h
    change_mine (e ∷ es) rest h =
        let here = λ (b : Bool). let r : Rows = elim b [ true ↦ ((k, e.0), changed_row change e.1) ∷ (placed k es ++ rest) | false ↦ ((k, e.0), e.1) ∷ change_at (k, p) change (placed k es ++ rest) ] in r in
        ap (λ o. here (is_eq (ordering_then o (path_cmp p e.0)))) (tied_itself text_total k)
        ∙ (elim (is_eq (path_cmp p e.0)) as (λ b. here b ≡ placed k (elim b [ true ↦ (e.0, changed_row change e.1) ∷ es | false ↦ e ∷ change_in p change es ]) ++ rest) [
          | true ↦ refl
          | false ↦ ap (λ xs. ((k, e.0), e.1) ∷ xs) (change_mine es rest h)
        ])

    pub change_local : IsLocal k (change_at (k, p) change) (change_in p change)
    change_local = record { none = refl; past = change_past; mine = change_mine }

-- A unit without rows may go.
pub empty_gone : (k : Text) (us : Units) → Some [] ≡ lookup (is_at (text_cmp k)) us → all_rows (remove_entry (is_at (text_cmp k)) us) ≡ all_rows us
empty_gone k [] h = absurd (some_units [] h)
empty_gone k (u ∷ us) h =
    elim (is_eq (text_cmp k u.0)) as (λ b. Some [] ≡ cond b (Some u.1) (lookup (is_at (text_cmp k)) us) → all_rows (cond b us (u ∷ remove_entry (is_at (text_cmp k)) us)) ≡ placed u.0 u.1 ++ all_rows us) [
      | true ↦ λ n. ap (λ es. placed u.0 es ++ all_rows us) (same_units [] u.1 n)
      | false ↦ λ n. ap (λ xs. placed u.0 u.1 ++ xs) (empty_gone k us n)
    ] h
