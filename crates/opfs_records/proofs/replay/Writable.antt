-- Rows and units that can be written, as changes are applied.
use Rattle.std.proofs.Common.{◌≡◌, ℕ, ◌<◌, ◌≤◌, ◌^◌, true, false, cond, not, List, [], ◌∷◌, length, Option, Some, None, is_some, sym, ap, subst, arith}
use Rattle.std.specs.Prelude.{nat_le}
use Rattle.std.specs.List.{AllByRecursion}
use Rattle.std.specs.Ordering.{is_eq, nat_cmp}
use Rattle.std.specs.declared.cmp.Ordering.TheVariants.{Less, Equal, Greater}
use Rattle.std.specs.FinMap.Entries.{put, by_order}
use Rattle.std.specs.Cmp.Lexicographic.{slice_cmp}
use Rattle.std.proofs.lemmas.Bool.{false≢true, and_parts, leb-true, not-true}
use Rattle.opfs_base.proofs.UnitLemmas.{origin_of-plain}
use Rattle.opfs_base.specs.Names.{is_valid_name, fits_limits}
use Rattle.opfs_base.specs.Texts.{Text}
use Rattle.opfs_base.specs.Places.{Place, place_cmp}
use Rattle.opfs_base.specs.declared.extents.Extent.{Extent}
use Rattle.opfs_codec.specs.Spelling.{IsKey, IsPath, AreExtents}
use Rattle.opfs_codec.specs.declared.change.Format.{Format}
use Rattle.opfs_codec.specs.declared.change.Format.TheVariants.{Old, New}
use Rattle.opfs_machine.specs.Ordered.{insert_by}
use Rattle.opfs_tree.specs.declared.row.Row.{Row}
use Rattle.opfs_tree.specs.declared.row.Row.TheVariants as row
use Rattle.opfs_tree.specs.Rows.{Rows, row_at, without, change_at, changed_row, stored}
use Rattle.opfs_records.specs.Replay.Applying.{is_unit_in, is_directory, parted, can_make_named, can_make, empty_file}
use Rattle.opfs_records.specs.Checkpoint.Written.{IsWritableRow}
use Rattle.opfs_records.proofs.checkpoint.Keys.{plain_key}
use Rattle.opfs_records.proofs.replay.Holding.{four}
use Rattle.opfs_records.proofs.replay.Rows.{all_filter}

abbrev AllWritable : Rows → Type 0
AllWritable rows = AllByRecursion (λ e. IsWritableRow e.0 e.1) rows

-- A unit that a format can name is one that format 2 can spell.
pub key_in : (f : Format) (unit : Text) → IsKey f unit → is_unit_in f unit ≡ true → IsKey New unit
key_in New unit key told = key
key_in Old unit key told = (plain_key unit (omega (arith, ap length (origin_of-plain unit (not-true _ told))))).0 key.0

some_none : (x : Row) → ◌≡◌ {A = Option Row} (Some x) None → ⊥
some_none x e = cc

pub writable_put : (place : Place) (r : Row) (rows : Rows) → IsWritableRow place r → AllWritable rows → row_at place rows ≡ None → AllWritable (put place_cmp place r rows)
writable_put place r [] here all none = (here, tt)
writable_put place r (e ∷ es) here all none =
    elim (place_cmp place e.0) as (λ o. cond (is_eq o) (Some e.1) (row_at place es) ≡ None → AllWritable (by_order o ((place, r) ∷ e ∷ es) ((e.0, r) ∷ es) (e ∷ put place_cmp place r es))) [
      | Less ↦ λ h. (here, all)
      | Equal ↦ λ h. absurd (some_none e.1 h)
      | Greater ↦ λ h. (all.0, writable_put place r es here all.1 h)
    ] none

pub writable_without : (place : Place) (rows : Rows) → AllWritable rows → AllWritable (without place rows)
writable_without place rows all = all_filter (λ (e : Place × Row). IsWritableRow e.0 e.1) _ rows all

module _ (place : Place) (len stamp : ℕ) (extents : List Extent) (long : len < 2 ^ 64) (late : stamp < 2 ^ 64) (few : AreExtents extents) where
  writable_row : (at : Place) (r : Row) → IsWritableRow at r → IsWritableRow at (changed_row (stored len stamp extents) r)
  writable_row at row.Dir good = good
  writable_row at (row.File f) good = (good.0, (good.1.0, late, long, few))

  pub writable_change : (rows : Rows) → AllWritable rows → AllWritable (change_at place (stored len stamp extents) rows)
  writable_change [] all = tt
  writable_change (e ∷ es) all =
      elim (is_eq (place_cmp place e.0)) as (λ t. AllWritable (elim t [ true ↦ (e.0, changed_row (stored len stamp extents) e.1) ∷ es | false ↦ e ∷ change_at place (stored len stamp extents) es ])) [
        | true ↦ (writable_row e.0 e.1 all.0, all.1)
        | false ↦ (all.0, writable_change es all.1)
      ]

-- One unit more in a list.
pub insert_all : (P : Text → Type 0) (unit : Text) (units : List Text) → P unit → AllByRecursion P units → AllByRecursion P (insert_by (slice_cmp nat_cmp) unit units)
insert_all P unit [] here all = (here, tt)
insert_all P unit (u ∷ us) here all =
    elim (slice_cmp nat_cmp unit u) as (λ o. AllByRecursion P (by_order o (unit ∷ u ∷ us) (u ∷ us) (u ∷ insert_by (slice_cmp nat_cmp) unit us))) [
      | Less ↦ (here, all)
      | Equal ↦ all
      | Greater ↦ (all.0, insert_all P unit us here all.1)
    ]

-- A path where a row can be made has 1 to 32 names.
short_by : (unit : Text) (path : List Text) (rows : Rows) (o : Option (List Text × Text)) → can_make_named unit path rows o ≡ true → length path ≤ 32
short_by unit path rows None can = absurd (false≢true can)
short_by unit path rows (Some p) can =
    let all = four (is_directory (row_at (unit, p.0) rows)) (not (is_some (row_at (unit, path) rows))) (is_valid_name p.1) (fits_limits p.1 path) can in
    leb-true (length path) 32 (and_parts (nat_le (length p.1) 255) (nat_le (length path) 32) all.3).1

short : (unit : Text) (path : List Text) (rows : Rows) → can_make unit path rows ≡ true → length path ≤ 32
short unit path rows can = short_by unit path rows (parted path) can

nonempty : (unit : Text) (path : List Text) (rows : Rows) → can_make unit path rows ≡ true → 0 < length path
nonempty unit [] rows can = absurd (false≢true can)
nonempty unit (name ∷ names) rows can = omega arith

-- The rows that are made.
pub root_writable : (f : Format) (unit : Text) → IsKey f unit → is_unit_in f unit ≡ true → IsWritableRow (unit, []) row.Dir
root_writable f unit key told = (key_in f unit key told, (omega arith, tt), omega arith)

pub dir_writable : (f : Format) (unit : Text) (path same : List Text) (rows : Rows) → IsKey f unit × IsPath path → is_unit_in f unit ≡ true → (same ≡ path) × (can_make unit path rows ≡ true) → IsWritableRow (unit, same) row.Dir
dir_writable f unit path same rows spelled told can =
    subst (λ (p : List Text). IsWritableRow (unit, p) row.Dir) (sym can.0) (key_in f unit spelled.0 told, spelled.1, short unit path rows can.1)

pub file_writable : (f : Format) (unit : Text) (path same : List Text) (rows : Rows) (stamp : ℕ) → IsKey f unit × IsPath path → is_unit_in f unit ≡ true → (same ≡ path) × (can_make unit path rows ≡ true) → stamp < 2 ^ 64
    → IsWritableRow (unit, same) (empty_file stamp)
file_writable f unit path same rows stamp spelled told can late =
    subst (λ (p : List Text). IsWritableRow (unit, p) (empty_file stamp)) (sym can.0)
    ((key_in f unit spelled.0 told, spelled.1, short unit path rows can.1), (nonempty unit path rows can.1, late, omega arith, (omega arith, tt)))
