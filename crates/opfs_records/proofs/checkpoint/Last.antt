-- One row more behind rows that all stand before it.
use Rattle.std.proofs.Common.{◌≡◌, ◌++◌, Bool, true, false, cond, not, List, [], ◌∷◌, filter, Some, None, refl, ap, ◌∙◌}
use Rattle.std.specs.List.{AllByRecursion}
use Rattle.std.specs.FinMap.Entries.{put, is_sorted, below_all, by_order}
use Rattle.std.specs.Ordering.{is_lt, is_eq, ordering_reverse, ordering_then}
use Rattle.std.specs.declared.cmp.Ordering.TheVariants.{Less, Greater}
use Rattle.std.specs.Cmp.{IsTotalOrder, on_total, then_total, tied_itself}
use Rattle.std.specs.Cmp.Lexicographic.{nat_list_cmp_total, lists_total}
use Rattle.std.proofs.lemmas.Bool.{and_parts}
use Rattle.opfs_base.specs.Texts.{Text}
use Rattle.opfs_base.specs.Places.{Place, place_cmp}
use Rattle.opfs_tree.specs.Units.{text_cmp, path_cmp}
use Rattle.opfs_tree.specs.Rows.{Rows, row_at, change_at, changed_row}
use Rattle.opfs_tree.specs.declared.row.FileRow.{FileRow}
use Rattle.opfs_tree.specs.declared.row.Row.{Row}
use Rattle.opfs_records.proofs.checkpoint.Ordered.{lt_less}

text_total : IsTotalOrder text_cmp
text_total = nat_list_cmp_total

path_total : IsTotalOrder path_cmp
path_total = lists_total nat_list_cmp_total

place_total : IsTotalOrder place_cmp
place_total = then_total (on_total (λ (p : Place). p.0) text_total) (on_total (λ (p : Place). p.1) path_total)

-- All rows stand before a place.
abbrev pub AllBefore : Place → Rows → Type 0
AllBefore place rows = AllByRecursion (λ x. place_cmp x.0 place ≡ Less) rows

abbrev Entry : Type 0
Entry = Place × Row

before_at : (x : Place) (done : Rows) (e : Entry) (es : Rows) → below_all place_cmp x (done ++ e ∷ es) ≡ true → place_cmp x e.0 ≡ Less
before_at x [] e es h = lt_less _ (and_parts (is_lt (place_cmp x e.0)) (below_all place_cmp x es) h).0
before_at x (d ∷ ds) e es h = before_at x ds e es (and_parts (is_lt (place_cmp x d.0)) (below_all place_cmp x (ds ++ e ∷ es)) h).1

-- The front of rows in order stands before the next one.
pub all_before : (done : Rows) (e : Entry) (es : Rows) → is_sorted place_cmp (done ++ e ∷ es) ≡ true → AllBefore e.0 done
all_before [] e es h = tt
all_before (d ∷ ds) e es h =
    let parts = and_parts (below_all place_cmp d.0 (ds ++ e ∷ es)) (is_sorted place_cmp (ds ++ e ∷ es)) h in
    (before_at d.0 ds e es parts.0, all_before ds e es parts.1)

behind : (x p : Place) → place_cmp x p ≡ Less → place_cmp p x ≡ Greater
behind x p less = place_total.antisymm p x ∙ ap ordering_reverse less

abbrev changed_by : Bool → Place → (FileRow → FileRow) → Entry → Rows → Rows
changed_by t place change e es = elim t [ true ↦ (e.0, changed_row change e.1) ∷ es | false ↦ e ∷ change_at place change es ]

module _ (place : Place) (r : Row) where
  pub put_last : (done : Rows) → AllBefore place done → put place_cmp place r done ≡ done ++ (place, r) ∷ []
  put_last [] all = refl
  put_last (d ∷ ds) all =
      ap (λ o. by_order o ((place, r) ∷ d ∷ ds) ((d.0, r) ∷ ds) (d ∷ put place_cmp place r ds)) (behind d.0 place all.0) ∙ ap (λ xs. d ∷ xs) (put_last ds all.1)

  pub find_none : (done : Rows) → AllBefore place done → row_at place done ≡ None
  find_none [] all = refl
  find_none (d ∷ ds) all = ap (λ o. cond (is_eq o) (Some d.1) (row_at place ds)) (behind d.0 place all.0) ∙ find_none ds all.1

  pub find_here : (done es : Rows) → AllBefore place done → row_at place (done ++ (place, r) ∷ es) ≡ Some r
  find_here [] es all = ap (λ o. cond (is_eq o) (Some r) (row_at place es)) (tied_itself place_total place)
  find_here (d ∷ ds) es all = ap (λ o. cond (is_eq o) (Some d.1) (row_at place (ds ++ (place, r) ∷ es))) (behind d.0 place all.0) ∙ find_here ds es all.1

  pub change_last : (change : FileRow → FileRow) (done : Rows) → AllBefore place done → change_at place change (done ++ (place, r) ∷ []) ≡ done ++ (place, changed_row change r) ∷ []
  change_last change [] all = ap (λ t. changed_by t place change (place, r) []) (ap is_eq (tied_itself place_total place))
  change_last change (d ∷ ds) all =
      ap (λ t. changed_by t place change d (ds ++ (place, r) ∷ [])) (ap is_eq (behind d.0 place all.0)) ∙ ap (λ xs. d ∷ xs) (change_last change ds all.1)

  pub beside_last : (done : Rows) → AllBefore place done → filter (λ e. not (is_eq (place_cmp place e.0))) (done ++ (place, r) ∷ []) ≡ done
  beside_last [] all = ap (λ o. cond (not (is_eq o)) ((place, r) ∷ []) []) (tied_itself place_total place)
  beside_last (d ∷ ds) all =
      let rest = filter (λ (e : Entry). not (is_eq (place_cmp place e.0))) (ds ++ (place, r) ∷ []) in
      ap (λ o. cond (not (is_eq o)) (d ∷ rest) rest) (behind d.0 place all.0) ∙ ap (λ xs. d ∷ xs) (beside_last ds all.1)

-- ---- a place before the next row's

pub none_below : (q p : Place) (es : Rows) → place_cmp q p ≡ Less → below_all place_cmp p es ≡ true → row_at q es ≡ None
none_below q p [] less h = refl
none_below q p (e ∷ es) less h =
    let parts = and_parts (is_lt (place_cmp p e.0)) (below_all place_cmp p es) h in
    ap (λ o. cond (is_eq o) (Some e.1) (row_at q es)) (place_total.trans q p e.0 less (lt_less _ parts.0)) ∙ none_below q p es less parts.1

-- A place before the next row is looked up in the front.
pub find_front : (q : Place) (done : Rows) (e : Entry) (es : Rows) → place_cmp q e.0 ≡ Less → is_sorted place_cmp (done ++ e ∷ es) ≡ true → row_at q (done ++ e ∷ es) ≡ row_at q done
find_front q [] e es less h =
    let parts = and_parts (below_all place_cmp e.0 es) (is_sorted place_cmp es) h in
    ap (λ o. cond (is_eq o) (Some e.1) (row_at q es)) less ∙ none_below q e.0 es less parts.0
find_front q (d ∷ ds) e es less h =
    let parts = and_parts (below_all place_cmp d.0 (ds ++ e ∷ es)) (is_sorted place_cmp (ds ++ e ∷ es)) h in
    ap (cond (is_eq (place_cmp q d.0)) (Some d.1)) (find_front q ds e es less parts.1)

path_child : (dir : List Text) (name : Text) → path_cmp dir (dir ++ name ∷ []) ≡ Less
path_child [] name = refl
path_child (x ∷ dir) name = ap (λ o. ordering_then o (path_cmp dir (dir ++ name ∷ []))) (tied_itself text_total x) ∙ path_child dir name

-- A directory stands before its children.
pub before_child : (unit : Text) (dir : List Text) (name : Text) → place_cmp (unit, dir) (unit, dir ++ name ∷ []) ≡ Less
before_child unit dir name = ap (λ o. ordering_then o (path_cmp dir (dir ++ name ∷ []))) (tied_itself text_total unit) ∙ path_child dir name
