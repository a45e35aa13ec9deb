-- What is written of a tree and a shed with one change more.
use Rattle.std.proofs.Common.{◌≡◌, ◌+◌, ◌≤◌, ◌++◌, ℕ, true, false, cond, not, List, [], ◌∷◌, map, filter, Some, None, length, refl, sym, ap, subst, ◌∙◌, arith}
use Rattle.std.specs.Prelude.{if◌then◌else◌}
use Rattle.std.specs.List.{AllByRecursion}
use Rattle.std.specs.List.Sorted.{IsStrictlySortedBy}
use Rattle.std.proofs.lemmas.List.{length-append}
use Rattle.std.specs.Ordering.{is_eq}
use Rattle.opfs_base.specs.Texts.{Text}
use Rattle.opfs_base.specs.Places.{Place, place_cmp}
use Rattle.opfs_codec.specs.Charges.{charge}
use Rattle.opfs_codec.specs.Spelling.{IsChange}
use Rattle.opfs_codec.specs.declared.change.Format.TheVariants.{New}
use Rattle.opfs_codec.specs.declared.change.Change.{Change}
use Rattle.opfs_codec.specs.declared.change.Change.TheVariants.{MakeRoot, MakeDir, MakeFile, Remove, Content, Persist, Evict}
use Rattle.opfs_locks.specs.Taking.{open_lock}
use Rattle.opfs_shed.specs.Buckets.{Buckets, text_cmp}
use Rattle.opfs_tree.specs.Rows.{Rows, IsInOrder, IsClosed}
use Rattle.opfs_tree.specs.declared.row.Row.{Row}
use Rattle.opfs_tree.specs.declared.row.Row.TheVariants as row
use Rattle.opfs_records.specs.Replay.Applying.{tried, rows_of}
use Rattle.opfs_records.specs.Replay.Built.{Built, nothing_built, IsSound, IsSoundRow}
use Rattle.opfs_records.specs.Replay.Sums.{charge_of, persistent_in}
use Rattle.opfs_records.specs.Checkpoint.After.{leaves_out, given, row_with, is_shown, made_bytes, rows_after}
use Rattle.opfs_records.specs.Checkpoint.Written.{rows_bytes, units_bytes, stored_rows, IsWritableRow}
use Rattle.opfs_records.proofs.checkpoint.Building.{one_record, builds_both, builds_same}
use Rattle.opfs_records.proofs.checkpoint.Charging.{written_below, charge_parts}
use Rattle.opfs_records.proofs.checkpoint.Left.{AllSound, AllWritable, AllKeys, charge_rows, charge_units}
use Rattle.opfs_records.proofs.checkpoint.Making.{rows_built, builds_rows}
use Rattle.opfs_records.proofs.checkpoint.OneMore.{built, kept_sound, last_builds, last_charge, made_below}
use Rattle.opfs_records.proofs.checkpoint.Ordered.{keys, persistent_sorted}
use Rattle.opfs_records.proofs.checkpoint.Persisting.{builds_units}
use Rattle.opfs_records.proofs.checkpoint.Remaining.{kept_rows, rows_after_are, stored_kept, kept_order, kept_closed}
use Rattle.opfs_records.proofs.checkpoint.StoredRows.{stored_bytes, stored_charge, stored_writable, stored_each, stored_order, stored_closed, sound_each}

module _ (size : ℕ) (rows : Rows) (buckets : Buckets) (change : Change) (next : Built) (order : IsInOrder rows) (closed : IsClosed rows) (sound : IsSound size (stored_rows rows)) (ordered : IsStrictlySortedBy text_cmp (keys buckets))
    (h : tried New size (built (stored_rows rows) (persistent_in buckets)) change ≡ Some next) where
  abbrev units : List Text
  units = persistent_in buckets

  abbrev left : Rows
  left = kept_rows change (stored_rows rows)

  order_stored : IsInOrder (stored_rows rows)
  order_stored = stored_order rows ∙ order

  left_is : stored_rows (rows_after change rows) ≡ left
  left_is = ap stored_rows (rows_after_are change rows order) ∙ stored_kept change rows

  left_bytes : rows_bytes left ≡ rows_bytes (rows_after change rows)
  left_bytes = ap rows_bytes (sym left_is) ∙ stored_bytes (rows_after change rows)

  left_sound : IsSound size left
  left_sound = kept_sound size (stored_rows rows) buckets next ordered change sound order_stored h

  pub left_each : AllSound size (rows_after change rows)
  left_each = sound_each size (rows_after change rows) (subst (λ (xs : Rows). AllByRecursion (λ e. IsSoundRow size e.1) xs) (sym left_is) left_sound.files)

  pub after_builds : (bytes : List ℕ) → bytes ≡ (rows_bytes (rows_after change rows) ++ units_bytes units) ++ made_bytes buckets change → IsChange New change → AllWritable (rows_after change rows) → AllKeys units
      → rows_of New size (bytes ∷ []) ≡ Some next
  after_builds bytes is good writable named =
      let writable_left = subst AllWritable left_is (stored_writable (rows_after change rows) writable) in
      let first = builds_rows size [] left (kept_order change (stored_rows rows) order_stored) (kept_closed change (stored_rows rows) (stored_closed rows closed)) left_sound.once left_sound.files writable_left in
      let second = builds_units size left [] units (persistent_sorted buckets ordered) named in
      let third = last_builds size (stored_rows rows) buckets next ordered change good h in
      let both = builds_both size (rows_bytes left) (units_bytes units) nothing_built (rows_built left) (built left units) first second in
      let all = builds_both size (rows_bytes left ++ units_bytes units) (made_bytes buckets change) nothing_built (built left units) next both third in
      one_record size bytes next (builds_same size _ bytes nothing_built next next (ap (λ xs. (xs ++ units_bytes units) ++ made_bytes buckets change) left_bytes ∙ sym is) refl all)

  pub after_fits : (bytes : List ℕ) → bytes ≡ (rows_bytes (rows_after change rows) ++ units_bytes units) ++ made_bytes buckets change → length bytes ≤ charge_of New next
  after_fits bytes is =
      let front : length (rows_bytes (rows_after change rows) ++ units_bytes units) ≤ charge_of New (built left units) =
      subst (λ (xs : List ℕ). length (xs ++ units_bytes units) ≤ charge_of New (built left units)) left_bytes (written_below size left units (subst (AllSound size) left_is (stored_each size (rows_after change rows) (subst (λ (xs : Rows). AllByRecursion (λ e. IsSoundRow size e.1) xs) (sym left_is) left_sound.files)))) in
      omega (arith, ap length is, length-append (rows_bytes (rows_after change rows) ++ units_bytes units) (made_bytes buckets change), front, made_below buckets change, last_charge size (stored_rows rows) buckets next ordered change h)

  -- What is written part after part is charged no more than what is built.
  pub after_charge : charge_rows (rows_after change rows) + charge_units units + (if is_shown buckets change then 0 else charge change) ≤ charge_of New next
  after_charge =
      let same : charge_rows left ≡ charge_rows (rows_after change rows) = ap charge_rows (sym left_is) ∙ stored_charge (rows_after change rows) in
      omega (arith, same, charge_parts left units, last_charge size (stored_rows rows) buckets next ordered change h)

-- Where rows and a change can be written, so can the rows that it leaves.
row_writable : (change : Change) (place : Place) (r : Row) → IsChange New change → IsWritableRow place r → IsWritableRow place (row_with (given change place) r)
unfolding given IsChange
row_writable (MakeRoot unit) place r again good = good
row_writable (MakeDir unit path) place r again good = good
row_writable (MakeFile unit path stamp) place r again good = good
row_writable (Remove unit path) place r again good = good
row_writable (Content unit path stamp len extents) place row.Dir again good =
    elim (is_eq (place_cmp (unit, path) place)) as (λ t. IsWritableRow place (row_with (cond t (Some (record { length = len; stamp = stamp; present = len; present_stamp = stamp; extents = extents; lock = open_lock })) None) row.Dir)) [
      | true ↦ good
      | false ↦ good
    ]
row_writable (Content unit path stamp len extents) place (row.File f) again good =
    elim (is_eq (place_cmp (unit, path) place)) as (λ t. IsWritableRow place (row_with (cond t (Some (record { length = len; stamp = stamp; present = len; present_stamp = stamp; extents = extents; lock = open_lock })) None) (row.File f))) [
      | true ↦ (good.0, (good.1.0, again.2, again.3, again.4))
      | false ↦ good
    ]
row_writable (Persist unit) place r again good = good
row_writable (Evict unit) place r again good = good

pub left_writable : (change : Change) (rows : Rows) → IsChange New change → AllWritable rows → AllWritable (rows_after change rows)
left_writable change [] again good = tt
left_writable change (e ∷ es) again good =
    let rest = filter (λ (x : Place × Row). not (leaves_out change x.0)) es in
    elim (leaves_out change e.0) as (λ t. AllWritable (map (λ (x : Place × Row). (x.0, row_with (given change x.0) x.1)) (cond (not t) (e ∷ rest) rest))) [
      | true ↦ left_writable change es again good.1
      | false ↦ (row_writable change e.0 e.1 again good.0, left_writable change es again good.1)
    ]
