-- The rows that one change leaves, and what they build.
use Rattle.std.proofs.Common.{◌≡◌, ◌&&◌, ℕ, Bool, true, false, cond, not, List, [], ◌∷◌, map, filter, Option, Some, None, length, refl, sym, ap, subst, ◌∙◌}
use Rattle.std.specs.Prelude.{T}
use Rattle.std.specs.Ordering.{is_eq, is_lt}
use Rattle.std.specs.FinMap.Entries.{is_sorted, below_all, is_sorted-where_key}
use Rattle.std.specs.declared.cmp.Ordering.{Ordering}
use Rattle.std.specs.declared.cmp.Ordering.TheVariants.{Less, Equal, Greater}
use Rattle.std.proofs.lemmas.Bool.{and_parts, true≢false}
use Rattle.opfs_base.specs.Texts.{Text, same_text}
use Rattle.opfs_base.specs.Places.{Place, place_cmp, is_within}
use Rattle.opfs_base.specs.declared.extents.Extent.{Extent}
use Rattle.opfs_codec.specs.declared.change.Change.{Change}
use Rattle.opfs_codec.specs.declared.change.Change.TheVariants.{MakeRoot, MakeDir, MakeFile, Remove, Content, Persist, Evict}
use Rattle.opfs_tree.specs.Rows.{Rows, IsClosed, without, change_at, changed_row, stored}
use Rattle.opfs_tree.specs.declared.row.FileRow.{FileRow}
use Rattle.opfs_tree.specs.declared.row.Row.{Row}
use Rattle.opfs_tree.specs.declared.row.Row.TheVariants as row
use Rattle.opfs_tree.proofs.Closed.{closed_without, closed_change, order_change, exact_places}
use Rattle.opfs_records.specs.Checkpoint.After.{leaves_out, given, row_with, rows_after}
use Rattle.opfs_records.proofs.checkpoint.Modes.{equal_is}
use Rattle.opfs_records.specs.Checkpoint.Written.{stored_row, stored_rows}

-- The rows without what a change takes out, and with the content that it gives.
abbrev pub kept_rows : Change → Rows → Rows
kept_rows (Remove unit path) rows = without (unit, path) rows
kept_rows (Evict unit) rows = without (unit, []) rows
kept_rows (Content unit path stamp length extents) rows = change_at (unit, path) (stored length stamp extents) rows
kept_rows (MakeRoot unit) rows = rows
kept_rows (MakeDir unit path) rows = rows
kept_rows (MakeFile unit path stamp) rows = rows
kept_rows (Persist unit) rows = rows

all_same : (rows : Rows) → map (λ (e : Place × Row). (e.0, e.1)) (filter (λ (e : Place × Row). true) rows) ≡ rows
all_same [] = refl
all_same (e ∷ es) = ap (λ xs. e ∷ xs) (all_same es)

map_same : (rows : Rows) → map (λ (e : Place × Row). (e.0, e.1)) rows ≡ rows
map_same [] = refl
map_same (e ∷ es) = ap (λ xs. e ∷ xs) (map_same es)

and_true : (b : Bool) → b ≡ (b && true)
and_true true = refl
and_true false = refl

without_root : (unit : Text) (rows : Rows) → filter (λ (e : Place × Row). not (same_text unit e.0.0)) rows ≡ without (unit, []) rows
without_root unit [] = refl
without_root unit (e ∷ es) =
    ap (λ t. cond (not t) (e ∷ filter (λ (x : Place × Row). not (same_text unit x.0.0)) es) (filter (λ (x : Place × Row). not (same_text unit x.0.0)) es)) (and_true (same_text unit e.0.0))
    ∙ ap (λ xs. cond (not (is_within (unit, []) e.0)) (e ∷ xs) xs) (without_root unit es)

less_not : (o : Ordering) → is_lt o ≡ true → is_eq o ≡ false
less_not Less h = refl
less_not Equal h = absurd cc
less_not Greater h = absurd cc

module _ (place : Place) (f : FileRow) where
  abbrev at_place : Place → Option FileRow
  at_place q = cond (is_eq (place_cmp place q)) (Some f) None

  abbrev put_on : Rows → Rows
  put_on rows = map (λ (e : Place × Row). (e.0, row_with (at_place e.0) e.1)) (filter (λ (e : Place × Row). true) rows)

  behind_same : (rows : Rows) → below_all place_cmp place rows ≡ true → put_on rows ≡ rows
  behind_same [] below = refl
  behind_same (e ∷ es) below =
      let parts = and_parts (is_lt (place_cmp place e.0)) (below_all place_cmp place es) below in
      ap (λ t. (e.0, row_with (cond t (Some f) None) e.1) ∷ put_on es) (less_not _ parts.0) ∙ ap (λ xs. e ∷ xs) (behind_same es parts.1)

  content_put : (rows : Rows) → is_sorted place_cmp rows ≡ true → put_on rows ≡ change_at place (stored f.length f.stamp f.extents) rows
  content_put [] order = refl
  content_put (e ∷ es) order =
      let parts = and_parts (below_all place_cmp e.0 es) (is_sorted place_cmp es) order in
      elim (is_eq (place_cmp place e.0)) as (λ t. is_eq (place_cmp place e.0) ≡ t → (e.0, row_with (cond t (Some f) None) e.1) ∷ put_on es ≡ elim t [ true ↦ (e.0, changed_row (stored f.length f.stamp f.extents) e.1) ∷ es | false ↦ e ∷ change_at place (stored f.length f.stamp f.extents) es ]) [
        | true ↦ λ is.
            let same : e.0 ≡ place = sym (exact_places place e.0 (equal_is _ is)) in
            ap (λ xs. (e.0, changed_row (stored f.length f.stamp f.extents) e.1) ∷ xs) (behind_same es (subst (λ (q : Place). below_all place_cmp q es ≡ true) same parts.0))
        | false ↦ λ is. ap (λ xs. e ∷ xs) (content_put es parts.1)
      ] refl

pub rows_after_are : (change : Change) (rows : Rows) → is_sorted place_cmp rows ≡ true → rows_after change rows ≡ kept_rows change rows
unfolding leaves_out given
rows_after_are (MakeRoot unit) rows order = all_same rows
rows_after_are (MakeDir unit path) rows order = all_same rows
rows_after_are (MakeFile unit path stamp) rows order = all_same rows
rows_after_are (Remove unit path) rows order = map_same (without (unit, path) rows)
rows_after_are (Content unit path stamp len extents) rows order = content_put (unit, path) _ rows order
rows_after_are (Persist unit) rows order = all_same rows
rows_after_are (Evict unit) rows order = map_same (filter (λ (e : Place × Row). not (same_text unit e.0.0)) rows) ∙ without_root unit rows

-- ---- as they are stored

stored_without : (place : Place) (rows : Rows) → stored_rows (without place rows) ≡ without place (stored_rows rows)
stored_without place [] = refl
stored_without place (e ∷ es) =
    elim (is_within place e.0) as (λ t. stored_rows (cond (not t) (e ∷ without place es) (without place es)) ≡ cond (not t) ((e.0, stored_row e.1) ∷ without place (stored_rows es)) (without place (stored_rows es))) [
      | true ↦ stored_without place es
      | false ↦ ap (λ xs. (e.0, stored_row e.1) ∷ xs) (stored_without place es)
    ]

module _ (place : Place) (len stamp : ℕ) (extents : List Extent) where
  stored_content : (r : Row) → stored_row (changed_row (stored len stamp extents) r) ≡ changed_row (stored len stamp extents) (stored_row r)
  stored_content row.Dir = refl
  stored_content (row.File f) = refl

  stored_change : (rows : Rows) → stored_rows (change_at place (stored len stamp extents) rows) ≡ change_at place (stored len stamp extents) (stored_rows rows)
  stored_change [] = refl
  stored_change (e ∷ es) =
      elim (is_eq (place_cmp place e.0)) as (λ t. stored_rows (elim t [ true ↦ (e.0, changed_row (stored len stamp extents) e.1) ∷ es | false ↦ e ∷ change_at place (stored len stamp extents) es ])
      ≡ elim t [ true ↦ (e.0, changed_row (stored len stamp extents) (stored_row e.1)) ∷ stored_rows es | false ↦ (e.0, stored_row e.1) ∷ change_at place (stored len stamp extents) (stored_rows es) ]) [
        | true ↦ ap (λ r. (e.0, r) ∷ stored_rows es) (stored_content e.1)
        | false ↦ ap (λ xs. (e.0, stored_row e.1) ∷ xs) (stored_change es)
      ]

pub stored_kept : (change : Change) (rows : Rows) → stored_rows (kept_rows change rows) ≡ kept_rows change (stored_rows rows)
stored_kept (MakeRoot unit) rows = refl
stored_kept (MakeDir unit path) rows = refl
stored_kept (MakeFile unit path stamp) rows = refl
stored_kept (Remove unit path) rows = stored_without (unit, path) rows
stored_kept (Content unit path stamp len extents) rows = stored_change (unit, path) len stamp extents rows
stored_kept (Persist unit) rows = refl
stored_kept (Evict unit) rows = stored_without (unit, []) rows

-- ---- in order, each but the roots in a directory

told : (b : Bool) → b ≡ true → T b
told true h = tt
told false h = absurd (true≢false (sym h))

tell : (b : Bool) → T b → b ≡ true
tell true h = refl
tell false h = absurd h

order_without : (place : Place) (rows : Rows) → is_sorted place_cmp rows ≡ true → is_sorted place_cmp (without place rows) ≡ true
order_without place rows h = tell _ (is_sorted-where_key place_cmp (λ x. not (is_within place x)) rows (told _ h))

pub kept_order : (change : Change) (rows : Rows) → is_sorted place_cmp rows ≡ true → is_sorted place_cmp (kept_rows change rows) ≡ true
kept_order (MakeRoot unit) rows h = h
kept_order (MakeDir unit path) rows h = h
kept_order (MakeFile unit path stamp) rows h = h
kept_order (Remove unit path) rows h = order_without (unit, path) rows h
kept_order (Content unit path stamp len extents) rows h = order_change (unit, path) (stored len stamp extents) rows ∙ h
kept_order (Persist unit) rows h = h
kept_order (Evict unit) rows h = order_without (unit, []) rows h

pub kept_closed : (change : Change) (rows : Rows) → IsClosed rows → IsClosed (kept_rows change rows)
kept_closed (MakeRoot unit) rows h = h
kept_closed (MakeDir unit path) rows h = h
kept_closed (MakeFile unit path stamp) rows h = h
kept_closed (Remove unit path) rows h = closed_without (unit, path) rows h
kept_closed (Content unit path stamp len extents) rows h = closed_change (unit, path) (stored len stamp extents) rows h
kept_closed (Persist unit) rows h = h
kept_closed (Evict unit) rows h = closed_without (unit, []) rows h
