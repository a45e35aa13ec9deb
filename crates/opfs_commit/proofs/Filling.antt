-- Changes of rows are changes of what the rows hold.
use Rattle.std.proofs.Common.{◌≡◌, ℕ, true, false, cond, not, List, [], ◌∷◌, map, filter, Option, Some, is_some, refl, sym, ap, ◌∙◌}
use Rattle.std.specs.Ordering.{is_eq}
use Rattle.std.specs.declared.cmp.Ordering.TheVariants.{Less, Equal, Greater}
use Rattle.std.specs.FinMap.Entries.{put, by_order, is_sorted, below_all}
use Rattle.std.proofs.lemmas.Bool.{and_parts, false≢true}
use Rattle.opfs_base.specs.Texts.{Text}
use Rattle.opfs_base.specs.Places.{Place, place_cmp, is_within}
use Rattle.opfs_base.specs.declared.extents.Extent.{Extent}
use Rattle.opfs_codec.specs.Spelling.{IsChange}
use Rattle.opfs_codec.specs.declared.change.Format.TheVariants.{New}
use Rattle.opfs_codec.specs.declared.change.Change.{Change as Spelled}
use Rattle.opfs_codec.specs.declared.change.Change.TheVariants.{MakeRoot, MakeDir, MakeFile, Remove, Content, Persist, Evict}
use Rattle.opfs_commit.specs.Images.{Account}
use Rattle.opfs_commit.specs.Making.{IsKept, told_as, new_bytes}
use Rattle.opfs_commit.specs.Seen.{IsQuiet}
use Rattle.opfs_data.specs.Places.{bytes_of}
use Rattle.opfs_image.specs.Filling.{filled, filled_row}
use Rattle.opfs_machine.specs.Changes.{Change, changed, is_content}
use Rattle.opfs_machine.specs.Openings.{Map, Stored, document}
use Rattle.opfs_records.specs.Replay.Applying.{tried, can_apply, applied, can_hold}
use Rattle.opfs_records.specs.Replay.Built.{Built, named_beside}
use Rattle.opfs_tree.specs.Rows.{Rows, row_at, file_at, file_of, file_in, without, change_at, changed_row, stored}
use Rattle.opfs_tree.specs.declared.row.Row.{Row}
use Rattle.opfs_tree.specs.declared.row.Row.TheVariants as row
use Rattle.opfs_records.proofs.checkpoint.Last.{none_below}
use Rattle.opfs_records.proofs.checkpoint.OneMore.{told_by}

module _ (base : ℕ) (c : List ℕ) where
  abbrev fill : Place × Row → Place × Stored
  fill e = (e.0, filled_row base c e.1)

  abbrev fills : Rows → List (Place × Stored)
  fills rows = map fill rows

  fills_put : (place : Place) (r : Row) (rows : Rows) → fills (put place_cmp place r rows) ≡ put place_cmp place (filled_row base c r) (fills rows)
  fills_put place r [] = refl
  fills_put place r (e ∷ es) =
      elim (place_cmp place e.0) as (λ o. fills (by_order o ((place, r) ∷ e ∷ es) ((e.0, r) ∷ es) (e ∷ put place_cmp place r es))
      ≡ by_order o ((place, filled_row base c r) ∷ fill e ∷ fills es) ((e.0, filled_row base c r) ∷ fills es) (fill e ∷ put place_cmp place (filled_row base c r) (fills es))) [
        | Less ↦ refl
        | Equal ↦ refl
        | Greater ↦ ap (λ xs. fill e ∷ xs) (fills_put place r es)
      ]

  fills_without : (place : Place) (rows : Rows) → fills (without place rows) ≡ filter (λ (e : Place × Stored). not (is_within place e.0)) (fills rows)
  fills_without place [] = refl
  fills_without place (e ∷ es) =
      elim (is_within place e.0) as (λ t. fills (cond (not t) (e ∷ without place es) (without place es)) ≡ cond (not t) (fill e ∷ filter (λ (x : Place × Stored). not (is_within place x.0)) (fills es)) (filter (λ (x : Place × Stored). not (is_within place x.0)) (fills es))) [
        | true ↦ fills_without place es
        | false ↦ ap (λ xs. fill e ∷ xs) (fills_without place es)
      ]

  module _ (place : Place) (len stamp : ℕ) (extents : List Extent) where
    abbrev new : Stored
    new = document (bytes_of c base extents len) stamp

    fills_file : (r : Row) → is_some (file_in r) ≡ true → filled_row base c (changed_row (stored len stamp extents) r) ≡ new
    fills_file row.Dir there = absurd (false≢true there)
    fills_file (row.File f) there = refl

    fills_content : (rows : Rows) → is_sorted place_cmp rows ≡ true → is_some (file_at place rows) ≡ true → fills (change_at place (stored len stamp extents) rows) ≡ put place_cmp place new (fills rows)
    fills_content [] order there = absurd (false≢true there)
    fills_content (e ∷ es) order there =
        let parts = and_parts (below_all place_cmp e.0 es) (is_sorted place_cmp es) order in
        elim (place_cmp place e.0) as (λ o. place_cmp place e.0 ≡ o → is_some (file_of (cond (is_eq o) (Some e.1) (row_at place es))) ≡ true
        → fills (elim (is_eq o) [ true ↦ (e.0, changed_row (stored len stamp extents) e.1) ∷ es | false ↦ e ∷ change_at place (stored len stamp extents) es ])
        ≡ by_order o ((place, new) ∷ fill e ∷ fills es) ((e.0, new) ∷ fills es) (fill e ∷ put place_cmp place new (fills es))) [
          | Less ↦ λ is h. absurd (false≢true (sym (ap (λ (o : Option Row). is_some (file_of o)) (none_below place e.0 es is parts.0)) ∙ h))
          | Equal ↦ λ is h. ap (λ (x : Stored). (e.0, x) ∷ fills es) (fills_file e.1 h)
          | Greater ↦ λ is h. ap (λ xs. fill e ∷ xs) (fills_content es parts.1 h)
        ] refl there

abbrev with_rows : List (Place × Stored) → List Text → Map
with_rows rows persistent = record { rows = rows; persistent = persistent }

module _ (size base : ℕ) (c : List ℕ) (b : Built) where
  -- What a change makes of rows, it makes of what they hold, with the bytes that the image has in the blocks of a content.
  pub fills_changed : (next : Built) (change : Spelled) → is_sorted place_cmp b.rows ≡ true → tried New size b change ≡ Some next → filled base c next ≡ changed (filled base c b) (told_as (new_bytes base c change) change)
  unfolding can_apply applied told_as new_bytes
  fills_changed next (MakeRoot unit) order h =
      ap (filled base c) (sym (told_by (can_apply New size b (MakeRoot unit)) _ next h).1) ∙ ap (λ rows. with_rows rows b.persistent) (fills_put base c (unit, []) row.Dir b.rows)
  fills_changed next (MakeDir unit path) order h =
      ap (filled base c) (sym (told_by (can_apply New size b (MakeDir unit path)) _ next h).1) ∙ ap (λ rows. with_rows rows b.persistent) (fills_put base c (unit, path) row.Dir b.rows)
  fills_changed next (MakeFile unit path stamp) order h =
      ap (filled base c) (sym (told_by (can_apply New size b (MakeFile unit path stamp)) _ next h).1) ∙ ap (λ rows. with_rows rows b.persistent) (fills_put base c (unit, path) _ b.rows)
  fills_changed next (Remove unit path) order h =
      ap (filled base c) (sym (told_by (can_apply New size b (Remove unit path)) _ next h).1) ∙ ap (λ rows. with_rows rows b.persistent) (fills_without base c (unit, path) b.rows)
  fills_changed next (Content unit path stamp len extents) order h =
      let told = told_by (can_apply New size b (Content unit path stamp len extents)) _ next h in
      let there = (and_parts (is_some (file_at (unit, path) b.rows)) (can_hold size (named_beside (unit, path) b.rows) len extents) told.0).0 in
      ap (filled base c) (sym told.1) ∙ ap (λ rows. with_rows rows b.persistent) (fills_content base c (unit, path) len stamp extents b.rows order there)
  fills_changed next (Persist unit) order h = ap (filled base c) (sym (told_by (can_apply New size b (Persist unit)) _ next h).1)
  fills_changed next (Evict unit) order h =
      ap (filled base c) (sym (told_by (can_apply New size b (Evict unit)) _ next h).1) ∙ ap (λ rows. with_rows rows b.persistent) (fills_without base c (unit, []) b.rows)

-- A change that is no content is told without bytes.
pub told_quiet : (bytes : Text) (change : Spelled) → IsQuiet change → (told_as bytes change ≡ told_as [] change) × (is_content (told_as [] change) ≡ false)
unfolding told_as IsQuiet
told_quiet bytes (MakeRoot unit) quiet = (refl, refl)
told_quiet bytes (MakeDir unit path) quiet = (refl, refl)
told_quiet bytes (MakeFile unit path stamp) quiet = (refl, refl)
told_quiet bytes (Remove unit path) quiet = (refl, refl)
told_quiet bytes (Content unit path stamp len extents) quiet = absurd quiet
told_quiet bytes (Persist unit) quiet = (refl, refl)
told_quiet bytes (Evict unit) quiet = (refl, refl)

-- So it may be kept back.
pub quiet_kept : (a : Account) (change : Spelled) (next : Built) → is_sorted place_cmp a.rows.rows ≡ true → IsQuiet change → IsChange New change → tried New a.geometry.blocks a.rows change ≡ Some next → IsKept a change (told_as [] change) next
quiet_kept a change next order quiet again found = record {
  again = again;
  found = found;
  makes = λ base c. fills_changed a.geometry.blocks base c a.rows next change order found ∙ ap (λ (x : Change). changed (filled base c a.rows) x) (told_quiet (new_bytes base c change) change quiet).0;
  quiet = (told_quiet [] change quiet).1;
}
