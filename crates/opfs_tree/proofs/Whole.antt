-- What each tree keeps, after a write to one unit.
use Rattle.std.proofs.Common.{◌≡◌, Bool, true, false, cond, not, T, List, [], ◌∷◌, Some, None, unwrap_or, Result, Ok, Err, OnErr, refl, sym, ap, subst, ◌∙◌}
use Rattle.std.specs.List.Sorted.{IsStrictlySortedBy}
use Rattle.std.specs.Map.{keys_of, lookup, set_value}
use Rattle.std.specs.BTreeMap.{is_at, insert_entry}
use Rattle.std.specs.FinMap.Entries.{put, find, is_sorted, is_sorted-put, is_sorted-where_key}
use Rattle.opfs_base.specs.Texts.{Text}
use Rattle.opfs_base.specs.Places.{place_cmp, is_within}
use Rattle.opfs_tree.specs.declared.row.FileRow.{FileRow}
use Rattle.opfs_tree.specs.declared.row.Row.{Row}
use Rattle.opfs_tree.specs.Rows.{Rows, row_at, rows_within, without, change_at, HasParent, IsClosed}
use Rattle.opfs_tree.specs.Units.{UnitRows, text_cmp, path_cmp, unit_rows, all_rows, below, beside, values, change_in, IsWhole}
use Rattle.opfs_tree.proofs.Orders.{place_total}
use Rattle.opfs_tree.proofs.Places.{unit_found, row_in_unit, rows_in_unit}
use Rattle.opfs_tree.proofs.Writes.{put_found, put_absent, local_found, local_absent, without_local, change_local}
use Rattle.opfs_tree.proofs.Closed.{closed_put, closed_without, closed_change, order_change}

abbrev Units : Type 0
Units = List (Text × UnitRows)

pub on_err : {X E : Type 0} (r : Result X E) (P : Type 0) → P → OnErr r P
on_err (Ok x) P h = tt
on_err (Err e) P h = h

true_from : (b : Bool) → T b → b ≡ true
true_from true h = refl
true_from false h = absurd h

test_from : (b : Bool) → b ≡ true → T b
test_from true h = tt
test_from false h = cc

pub whole_same : (us new : Units) → IsWhole us → IsStrictlySortedBy text_cmp (keys_of new) → all_rows new ≡ all_rows us → IsWhole new
whole_same us new whole sorted is = record {
  units = sorted;
  order = ap (is_sorted place_cmp) is ∙ whole.order;
  closed = let P = λ (rows : Rows). IsClosed rows in subst P (sym is) whole.closed;
}

-- Setting what is there.
pub set_same : {K X : Type 0} (t : K → Bool) (es : List (K × X)) (v : X) → Some v ≡ lookup t es → set_value t es v ≡ es
set_same t [] v h = refl
set_same t (e ∷ es) v h =
    elim (t e.0) as (λ b. Some v ≡ cond b (Some e.1) (lookup t es) → cond b ((e.0, v) ∷ es) (e ∷ set_value t es v) ≡ e ∷ es) [
      | true ↦ λ n. let same : v ≡ e.1 = cc in ap (λ x. (e.0, x) ∷ es) same
      | false ↦ λ n. ap (λ xs. e ∷ xs) (set_same t es v n)
    ] h

module _ (k : Text) (p : List Text) (us : Units) (whole : IsWhole us) (rows : Rows) (same : all_rows us ≡ rows) where
  whole_put : (new : Units) (r : Row) → IsStrictlySortedBy text_cmp (keys_of new) → all_rows new ≡ put place_cmp (k, p) r (all_rows us)
      → row_at (k, p) rows ≡ None → HasParent (k, p) rows → IsWhole new
  whole_put new r sorted here free parent =
      let back = sym same in
      let free_here = ap (row_at (k, p)) same ∙ free in
      let parent_here = let P = λ (x : Rows). HasParent (k, p) x in subst P back parent in
      record {
        units = sorted;
        order = ap (is_sorted place_cmp) here ∙ true_from (is_sorted place_cmp (put place_cmp (k, p) r (all_rows us))) (is_sorted-put place_cmp place_total (k, p) r (all_rows us) (test_from (is_sorted place_cmp (all_rows us)) whole.order));
        closed = let P = λ (x : Rows). IsClosed x in subst P (sym here) (closed_put (k, p) r (all_rows us) free_here parent_here whole.closed);
      }

  order_without : is_sorted place_cmp (without (k, p) (all_rows us)) ≡ true
  order_without = true_from (is_sorted place_cmp (without (k, p) (all_rows us))) (is_sorted-where_key place_cmp (λ y. not (is_within (k, p) y)) (all_rows us) (test_from (is_sorted place_cmp (all_rows us)) whole.order))

  -- A unit that was found.
  module _ (es : UnitRows) (found : Some es ≡ lookup (is_at (text_cmp k)) us) where
    its_rows : unit_rows k rows ≡ es
    its_rows = ap (unit_rows k) (sym same) ∙ (sym (unit_found k us whole.units) ∙ ap (λ o. unwrap_or o []) (sym found))

    pub row_there : row_at (k, p) rows ≡ find path_cmp p es
    row_there = row_in_unit k p rows ∙ ap (find path_cmp p) its_rows

    pub rows_there : rows_within (k, p) rows ≡ values (below p es)
    rows_there = rows_in_unit k p rows ∙ ap (λ x. values (below p x)) its_rows

    module _ (new : Units) (value : UnitRows) (written : new ≡ set_value (is_at (text_cmp k)) us value) (sorted : IsStrictlySortedBy text_cmp (keys_of new)) where
      pub kept_whole : value ≡ es → IsWhole new
      kept_whole is = let P = λ (x : Units). IsWhole x in subst P (sym (written ∙ (ap (set_value (is_at (text_cmp k)) us) is ∙ set_same (is_at (text_cmp k)) us es found))) whole

      pub kept_rows : value ≡ es → all_rows new ≡ rows
      kept_rows is = ap all_rows (written ∙ (ap (set_value (is_at (text_cmp k)) us) is ∙ set_same (is_at (text_cmp k)) us es found)) ∙ same

      without_here : value ≡ beside p es → all_rows new ≡ without (k, p) (all_rows us)
      without_here is = ap all_rows (written ∙ ap (set_value (is_at (text_cmp k)) us) is) ∙ local_found k (without (k, p)) (beside p) (without_local k p) us es whole.units found

      pub without_rows : value ≡ beside p es → all_rows new ≡ without (k, p) rows
      without_rows is = without_here is ∙ ap (without (k, p)) same

      pub without_whole : value ≡ beside p es → IsWhole new
      without_whole is = record {
        units = sorted;
        order = ap (is_sorted place_cmp) (without_here is) ∙ order_without;
        closed = let P = λ (x : Rows). IsClosed x in subst P (sym (without_here is)) (closed_without (k, p) (all_rows us) whole.closed);
      }

      module _ (change : FileRow → FileRow) (is : value ≡ change_in p change es) where
        change_here : all_rows new ≡ change_at (k, p) change (all_rows us)
        change_here = ap all_rows (written ∙ ap (set_value (is_at (text_cmp k)) us) is) ∙ local_found k (change_at (k, p) change) (change_in p change) (change_local k p change) us es whole.units found

        pub change_rows : all_rows new ≡ change_at (k, p) change rows
        change_rows = change_here ∙ ap (change_at (k, p) change) same

        pub change_whole : IsWhole new
        change_whole = record {
          units = sorted;
          order = ap (is_sorted place_cmp) change_here ∙ (order_change (k, p) change (all_rows us) ∙ whole.order);
          closed = let P = λ (x : Rows). IsClosed x in subst P (sym change_here) (closed_change (k, p) change (all_rows us) whole.closed);
        }

      module _ (r : Row) (is : value ≡ put path_cmp p r es) where
        put_here : all_rows new ≡ put place_cmp (k, p) r (all_rows us)
        put_here = ap all_rows (written ∙ ap (set_value (is_at (text_cmp k)) us) is) ∙ put_found k p r us es whole.units found

        pub put_rows : all_rows new ≡ put place_cmp (k, p) r rows
        put_rows = put_here ∙ ap (put place_cmp (k, p) r) same

        pub put_whole : row_at (k, p) rows ≡ None → HasParent (k, p) rows → IsWhole new
        put_whole free parent = whole_put new r sorted put_here free parent

  -- No such unit.
  module _ (missing : None ≡ lookup (is_at (text_cmp k)) us) where
    no_rows : unit_rows k rows ≡ []
    no_rows = ap (unit_rows k) (sym same) ∙ (sym (unit_found k us whole.units) ∙ ap (λ o. unwrap_or o []) (sym missing))

    pub row_missing : row_at (k, p) rows ≡ None
    row_missing = row_in_unit k p rows ∙ ap (find path_cmp p) no_rows

    pub rows_missing : rows_within (k, p) rows ≡ []
    rows_missing = rows_in_unit k p rows ∙ ap (λ x. values (below p x)) no_rows

    pub without_missing : rows ≡ without (k, p) rows
    without_missing = let P = λ (x : Rows). x ≡ without (k, p) x in subst P same (local_absent k (without (k, p)) (beside p) (without_local k p) us missing)

    pub change_missing : (change : FileRow → FileRow) → rows ≡ change_at (k, p) change rows
    change_missing change = let P = λ (x : Rows). x ≡ change_at (k, p) change x in subst P same (local_absent k (change_at (k, p) change) (change_in p change) (change_local k p change) us missing)

    module _ (new : Units) (r : Row) (is : new ≡ insert_entry text_cmp us k (put path_cmp p r [])) where
      absent_here : all_rows new ≡ put place_cmp (k, p) r (all_rows us)
      absent_here = ap all_rows is ∙ put_absent k p r us whole.units missing

      pub absent_rows : all_rows new ≡ put place_cmp (k, p) r rows
      absent_rows = absent_here ∙ ap (put place_cmp (k, p) r) same

      pub absent_whole : IsStrictlySortedBy text_cmp (keys_of new) → row_at (k, p) rows ≡ None → HasParent (k, p) rows → IsWhole new
      absent_whole sorted free parent = whole_put new r sorted absent_here free parent
