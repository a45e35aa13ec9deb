-- The rows that stand in some units, once one row is put, removed or changed.
use Rattle.std.proofs.Common.{◌≡◌, ◌&&◌, Bool, true, false, T, cond, List, [], ◌∷◌, filter, Some, None, refl, sym, ap, ◌∙◌}
use Rattle.std.specs.FinMap.Entries.{put, find, is_sorted, below_all, find-where_key, is_sorted-where_key, is_sorted-put, find-put, same_entries}
use Rattle.std.specs.FinMap.{slice_cmp-IsAntisymmetric, nat_cmp-IsAntisymmetric}
use Rattle.std.specs.Cmp.{IsTotalOrder, on_total, then_total}
use Rattle.std.specs.Cmp.Lexicographic.{nat_list_cmp_total, lists_total, slice_cmp}
use Rattle.std.specs.Ordering.{is_eq, is_lt, eq_by_cmp, ordering_then, nat_cmp}
use Rattle.std.specs.declared.cmp.Ordering.{Ordering}
use Rattle.std.specs.declared.cmp.Ordering.TheVariants.{Less, Equal, Greater}
use Rattle.opfs_base.specs.Texts.{Text}
use Rattle.opfs_base.specs.Places.{Place, place_cmp}
use Rattle.opfs_machine.specs.declared.state.FileRow.{FileRow}
use Rattle.opfs_machine.specs.declared.state.Row.{Row}
use Rattle.opfs_machine.specs.Rows.{change_at, changed_row}

pub place_total : IsTotalOrder place_cmp
place_total = then_total (on_total (λ (p : Place). p.0) nat_list_cmp_total) (on_total (λ (p : Place). p.1) (lists_total nat_list_cmp_total))

same_texts_tied : (x y : Text) → slice_cmp nat_cmp x y ≡ Equal → x ≡ y
same_texts_tied = slice_cmp-IsAntisymmetric nat_cmp-IsAntisymmetric

same_paths_tied : (x y : List Text) → slice_cmp (slice_cmp nat_cmp) x y ≡ Equal → x ≡ y
same_paths_tied = slice_cmp-IsAntisymmetric same_texts_tied

-- Places that tie are the same.
pub same_places : (x y : Place) → place_cmp x y ≡ Equal → x ≡ y
same_places x y is =
    elim (slice_cmp nat_cmp x.0 y.0) as (λ r. slice_cmp nat_cmp x.0 y.0 ≡ r → ordering_then r (slice_cmp (slice_cmp nat_cmp) x.1 y.1) ≡ Equal → x ≡ y) [
      | Less ↦ λ p e. cc
      | Equal ↦ λ p e i. (same_texts_tied x.0 y.0 p i, same_paths_tied x.1 y.1 e i)
      | Greater ↦ λ p e. cc
    ] refl is

equal_from : (o : Ordering) → is_eq o ≡ true → o ≡ Equal
equal_from Less h = cc
equal_from Equal h = refl
equal_from Greater h = cc

abbrev pub RowList : Type 0
RowList = List (Place × Row Text)

-- The value put, seen through a filter.
put_seen : {A : Type 0} (m n b : Bool) (x y z : A) → (b ≡ true → m ≡ n) → n ≡ true → cond m (cond b x y) z ≡ cond b x (cond m y z)
put_seen m n true x y z alike is = ap (λ t. cond t x z) (alike refl ∙ is)
put_seen m n false x y z alike is = refl

put_hidden : {A : Type 0} (m n b : Bool) (x y z : A) → (b ≡ true → m ≡ n) → n ≡ false → cond m (cond b x y) z ≡ cond m y z
put_hidden m n true x y z alike is = ap (λ t. cond t x z) (alike refl ∙ is) ∙ sym (ap (λ t. cond t y z) (alike refl ∙ is))
put_hidden m n false x y z alike is = refl

module _ (mine : Text → Bool) where
  abbrev pub own_rows : RowList → RowList
  own_rows rows = filter (λ e. mine e.0.0) rows

  alike : (q x : Place) → place_cmp q x ≡ Equal → mine x.0 ≡ mine q.0
  alike q x is = ap (λ p. mine p.0) (sym (same_places q x is))

  tied : (q x : Place) → eq_by_cmp place_cmp q x ≡ true → mine q.0 ≡ mine x.0
  tied q x is = ap (λ p. mine p.0) (same_places q x (equal_from (place_cmp q x) is))

  pub find-mine : (place : Place) (rows : RowList) → mine place.0 ≡ true → find place_cmp place (own_rows rows) ≡ find place_cmp place rows
  find-mine place rows is =
      find-where_key place_cmp (λ x. mine x.0) place (alike place) rows ∙ ap (λ b. cond b (find place_cmp place rows) None) is

  pub put-mine : (place : Place) (r : Row Text) (rows : RowList) → T (is_sorted place_cmp rows) → mine place.0 ≡ true
      → own_rows (put place_cmp place r rows) ≡ put place_cmp place r (own_rows rows)
  put-mine place r rows sorted is =
      let left = is_sorted-where_key place_cmp (λ x. mine x.0) (put place_cmp place r rows) (is_sorted-put place_cmp place_total place r rows sorted) in
      let right = is_sorted-put place_cmp place_total place r (own_rows rows) (is_sorted-where_key place_cmp (λ x. mine x.0) rows sorted) in
      same_entries place_cmp place_total same_places (own_rows (put place_cmp place r rows)) (put place_cmp place r (own_rows rows)) left right
      (λ q.
      find-where_key place_cmp (λ x. mine x.0) q (alike q) (put place_cmp place r rows)
      ∙ ap (λ o. cond (mine q.0) o None) (find-put place_cmp place_total q place r rows)
      ∙ put_seen (mine q.0) (mine place.0) (eq_by_cmp place_cmp q place) (Some r) (find place_cmp q rows) None (tied q place) is
      ∙ ap (cond (eq_by_cmp place_cmp q place) (Some r)) (sym (find-where_key place_cmp (λ x. mine x.0) q (alike q) rows))
      ∙ sym (find-put place_cmp place_total q place r (own_rows rows)))

  pub put-other : (place : Place) (r : Row Text) (rows : RowList) → T (is_sorted place_cmp rows) → mine place.0 ≡ false
      → own_rows (put place_cmp place r rows) ≡ own_rows rows
  put-other place r rows sorted is =
      let left = is_sorted-where_key place_cmp (λ x. mine x.0) (put place_cmp place r rows) (is_sorted-put place_cmp place_total place r rows sorted) in
      let right = is_sorted-where_key place_cmp (λ x. mine x.0) rows sorted in
      same_entries place_cmp place_total same_places (own_rows (put place_cmp place r rows)) (own_rows rows) left right
      (λ q.
      find-where_key place_cmp (λ x. mine x.0) q (alike q) (put place_cmp place r rows)
      ∙ ap (λ o. cond (mine q.0) o None) (find-put place_cmp place_total q place r rows)
      ∙ put_hidden (mine q.0) (mine place.0) (eq_by_cmp place_cmp q place) (Some r) (find place_cmp q rows) None (tied q place) is
      ∙ sym (find-where_key place_cmp (λ x. mine x.0) q (alike q) rows))

  module _ (place : Place) (change : FileRow Text → FileRow Text) where
    abbrev changed_by : Bool → Place × Row Text → RowList → RowList
    changed_by b e es = elim b [ true ↦ (e.0, changed_row change e.1) ∷ es | false ↦ e ∷ change_at place change es ]

    pub change-mine : (rows : RowList) → mine place.0 ≡ true → own_rows (change_at place change rows) ≡ change_at place change (own_rows rows)
    change-mine [] is = refl
    change-mine (e ∷ es) is =
        let rest = change-mine es is in
        elim (is_eq (place_cmp place e.0)) as (λ b. is_eq (place_cmp place e.0) ≡ b → own_rows (changed_by b e es) ≡ change_at place change (cond (mine e.0.0) (e ∷ own_rows es) (own_rows es))) [
          | true ↦ λ here.
              ap (λ m. cond m ((e.0, changed_row change e.1) ∷ own_rows es) (own_rows es)) (sym (tied place e.0 here) ∙ is)
              ∙ sym (ap (λ m. change_at place change (cond m (e ∷ own_rows es) (own_rows es))) (sym (tied place e.0 here) ∙ is) ∙ ap (λ b. changed_by b e (own_rows es)) here)
          | false ↦ λ here.
              elim (mine e.0.0) as (λ m. cond m (e ∷ own_rows (change_at place change es)) (own_rows (change_at place change es)) ≡ change_at place change (cond m (e ∷ own_rows es) (own_rows es))) [
                | true ↦ ap (λ xs. e ∷ xs) rest ∙ sym (ap (λ b. changed_by b e (own_rows es)) here)
                | false ↦ rest
              ]
        ] refl

    pub change-other : (rows : RowList) → mine place.0 ≡ false → own_rows (change_at place change rows) ≡ own_rows rows
    change-other [] is = refl
    change-other (e ∷ es) is =
        let rest = change-other es is in
        elim (is_eq (place_cmp place e.0)) as (λ b. is_eq (place_cmp place e.0) ≡ b → own_rows (changed_by b e es) ≡ cond (mine e.0.0) (e ∷ own_rows es) (own_rows es)) [
          | true ↦ λ here.
              ap (λ m. cond m ((e.0, changed_row change e.1) ∷ own_rows es) (own_rows es)) (sym (tied place e.0 here) ∙ is)
              ∙ sym (ap (λ m. cond m (e ∷ own_rows es) (own_rows es)) (sym (tied place e.0 here) ∙ is))
          | false ↦ λ here. ap (λ xs. cond (mine e.0.0) (e ∷ xs) xs) rest
        ] refl

-- A change of a file leaves the order.
module _ (place : Place) (change : FileRow Text → FileRow Text) where
  abbrev changed_as : Bool → Place × Row Text → RowList → RowList
  changed_as b e es = elim b [ true ↦ (e.0, changed_row change e.1) ∷ es | false ↦ e ∷ change_at place change es ]

  below-change : (x : Place) (rows : RowList) → below_all place_cmp x (change_at place change rows) ≡ below_all place_cmp x rows
  below-change x [] = refl
  below-change x (e ∷ es) =
      elim (is_eq (place_cmp place e.0)) as (λ b. below_all place_cmp x (changed_as b e es) ≡ (is_lt (place_cmp x e.0) && below_all place_cmp x es)) [
        | true ↦ refl
        | false ↦ ap (λ b. is_lt (place_cmp x e.0) && b) (below-change x es)
      ]

  pub sorted-change : (rows : RowList) → is_sorted place_cmp (change_at place change rows) ≡ is_sorted place_cmp rows
  sorted-change [] = refl
  sorted-change (e ∷ es) =
      elim (is_eq (place_cmp place e.0)) as (λ b. is_sorted place_cmp (changed_as b e es) ≡ (below_all place_cmp e.0 es && is_sorted place_cmp es)) [
        | true ↦ refl
        | false ↦ λ i. below-change e.0 es i && sorted-change es i
      ]
