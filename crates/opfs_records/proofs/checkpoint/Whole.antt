-- What the bytes of rows and of persistent units build from nothing.
use Rattle.std.proofs.Common.{◌≡◌, ◌++◌, ℕ, List, [], ◌∷◌, Some, refl, sym, ap, ◌∙◌}
use Rattle.std.specs.List.{AllByRecursion}
use Rattle.std.specs.List.Sorted.{IsStrictlySortedBy}
use Rattle.opfs_base.specs.Texts.{Text}
use Rattle.opfs_codec.specs.Spelling.{IsKey}
use Rattle.opfs_codec.specs.declared.change.Format.TheVariants.{New}
use Rattle.opfs_shed.specs.Buckets.{text_cmp}
use Rattle.opfs_tree.specs.Rows.{Rows, IsInOrder, IsClosed}
use Rattle.opfs_records.specs.Replay.Built.{Built, nothing_built, IsSound}
use Rattle.opfs_records.specs.Replay.Applying.{rows_of}
use Rattle.opfs_records.specs.Checkpoint.Written.{rows_bytes, units_bytes, stored_rows, IsWritableRow}
use Rattle.opfs_records.proofs.checkpoint.Building.{one_record, builds_both, builds_same}
use Rattle.opfs_records.proofs.checkpoint.Making.{rows_built, builds_rows}
use Rattle.opfs_records.proofs.checkpoint.Persisting.{builds_units}
use Rattle.opfs_records.proofs.checkpoint.StoredRows.{stored_bytes, stored_writable, stored_order, stored_closed}

pub snapshot_builds : (size : ℕ) (rows : Rows) (units : List Text) (bytes : List ℕ) → bytes ≡ rows_bytes rows ++ units_bytes units → IsInOrder rows → IsClosed rows → IsSound size (stored_rows rows)
    → AllByRecursion (λ e. IsWritableRow e.0 e.1) rows → IsStrictlySortedBy text_cmp units → AllByRecursion (IsKey New) units
    → rows_of New size (bytes ∷ []) ≡ Some (record { rows = stored_rows rows; persistent = units })
snapshot_builds size rows units bytes is order closed sound good ordered keys =
    let first = builds_rows size [] (stored_rows rows) (stored_order rows ∙ order) (stored_closed rows closed) sound.once sound.files (stored_writable rows good) in
    let second = builds_units size (stored_rows rows) [] units ordered keys in
    let whole : Built = record { rows = stored_rows rows; persistent = units } in
    one_record size bytes whole
    (builds_same size _ _ nothing_built _ _ (ap (λ xs. xs ++ units_bytes units) (stored_bytes rows) ∙ sym is) refl
    (builds_both size (rows_bytes (stored_rows rows)) (units_bytes units) nothing_built (rows_built (stored_rows rows)) whole first second))
