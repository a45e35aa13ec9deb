use Rattle.std.proofs.Common.{arith, ◌≡◌, ◌≤◌, ◌++◌, [], List, ℕ, length, sym, ap, subst, ◌∙◌}
use Rattle.std.proofs.lemmas.Bool.{false≢true}
use Rattle.std.proofs.lemmas.List.{length-append}
use Rattle.opfs_base.specs.Texts.{Text}
use Rattle.opfs_records.specs.Replay.Sums.{persistent_in, charge_of}
use Rattle.opfs_codec.specs.declared.change.Format.TheVariants.{New}
use Rattle.opfs_tree.specs.Rows.{Rows}
use Rattle.opfs_records.specs.Checkpoint.Written.{rows_bytes, units_bytes, stored_rows}
use Rattle.opfs_records.proofs.checkpoint.Charging.{written_below, rows_below, charge_parts}
use Rattle.opfs_records.proofs.checkpoint.Whole.{snapshot_builds}
use Rattle.opfs_records.proofs.checkpoint.StoredRows.{stored_bytes, stored_charge, stored_each, sound_each}
use Rattle.opfs_records.proofs.checkpoint.body.write_all.Goals as goal

-- what is in the buffer after both parts were written into it
both_parts : (none now whole : List ℕ) (rows : Rows) (units : List Text) → none ≡ [] → now ≡ none ++ rows_bytes rows → whole ≡ now ++ units_bytes units → rows_bytes rows ++ units_bytes units ≡ whole
both_parts none now whole rows units empty first second = sym (second ∙ ap (λ (xs : List ℕ). xs ++ units_bytes units) (first ∙ ap (λ (xs : List ℕ). xs ++ rows_bytes rows) empty))

pub returns-clause-bytes : goal.returns-clause-bytes
returns-clause-bytes c =
    sym (both_parts _ _ c.write_units.new.into.items c.args.tree.now.rows (persistent_in c.args.shed.now.buckets) c.requires.empty c.in_ok-write_rows.ensures.written c.in_ok-write_units.ensures.written)

pub returns-clause-builds : goal.returns-clause-builds
returns-clause-builds c size sound =
    let units = persistent_in c.args.shed.now.buckets in
    let bytes = both_parts _ _ c.write_units.new.into.items c.args.tree.now.rows units c.requires.empty c.in_ok-write_rows.ensures.written c.in_ok-write_units.ensures.written in
    snapshot_builds size c.args.tree.now.rows units c.write_units.new.into.items (sym bytes) c.know_order.ensures.order c.know_order.ensures.closed sound c.requires.writable.0
    c.in_ok-write_units.ensures.ordered c.requires.writable.1

pub returns-clause-fits : goal.returns-clause-fits
returns-clause-fits c size sound =
    let rows = c.args.tree.now.rows in
    let units = persistent_in c.args.shed.now.buckets in
    let bytes = both_parts _ _ c.write_units.new.into.items rows units c.requires.empty c.in_ok-write_rows.ensures.written c.in_ok-write_units.ensures.written in
    let same : rows_bytes (stored_rows rows) ++ units_bytes units ≡ c.write_units.new.into.items = ap (λ xs. xs ++ units_bytes units) (stored_bytes rows) ∙ bytes in
    subst (λ (xs : List ℕ). length xs ≤ charge_of New (record { rows = stored_rows rows; persistent = units })) same (written_below size (stored_rows rows) units (stored_each size rows sound.files))

pub returns-in_err-write_rows-clause-room : goal.returns-in_err-write_rows-clause-room
returns-in_err-write_rows-clause-room c size sound le =
    let rows = c.args.tree.now.rows in
    let sums = charge_parts (stored_rows rows) (persistent_in c.args.shed.now.buckets) in
    absurd (false≢true (c.in_err-write_rows.ensures.room size (sound_each size rows sound.files) (omega (arith, le, sums, stored_charge rows, c.args.into.now.ok.0, ap length c.requires.empty))))

pub returns-in_err-write_units-clause-room : goal.returns-in_err-write_units-clause-room
returns-in_err-write_units-clause-room c size sound le =
    let rows = c.args.tree.now.rows in
    let sums = charge_parts (stored_rows rows) (persistent_in c.args.shed.now.buckets) in
    let bytes = ap length c.in_ok-write_rows.ensures.written ∙ length-append c.args.into.now.items (rows_bytes rows) in
    absurd (false≢true (c.in_err-write_units.ensures.room (omega (arith, le, sums, stored_charge rows, c.write_rows.new.into.ok.0, bytes, ap length c.requires.empty, rows_below size rows (sound_each size rows sound.files), c.in_ok-write_rows.ensures.capacity))))
