-- The machine's charge covers that of what is stored; and an eviction makes of the stored rows what it leaves.
use Rattle.std.proofs.Common.{◌≡◌, ℕ, ◌+◌, ◌*◌, ◌≤◌, true, false, not, [], ◌∷◌, Some, is_some, sum_by, refl, sym, ap, ◌∙◌, arith}
use Rattle.std.proofs.lemmas.List.Sums.{sum_by-cons}
use Rattle.opfs_base.specs.Places.{Place}
use Rattle.opfs_base.specs.Texts.{Text}
use Rattle.opfs_codec.specs.declared.change.Change.TheVariants.{Evict}
use Rattle.opfs_codec.specs.declared.change.Format.TheVariants.{New}
use Rattle.opfs_machine.specs.Contents.{in_lengths}
use Rattle.opfs_machine.specs.Rows.{row_at}
use Rattle.opfs_machine.specs.Sums.{durable_blocks, charge, is_persistent}
use Rattle.opfs_machine.specs.Sums.{row_charge as line_charge}
use Rattle.opfs_records.specs.Replay.Applying.{can_apply, applied, tried}
use Rattle.opfs_records.specs.Replay.Sums.{row_charge, charge_of}
use Rattle.opfs_records.specs.Checkpoint.Written.{stored_row, stored_rows}
use Rattle.opfs_state_rows.specs.Standing.Seen.{Machine, line_of, lines_of}
use Rattle.opfs_tree.specs.declared.row.Row.{Row}
use Rattle.opfs_tree.specs.declared.row.Row.TheVariants as row
use Rattle.opfs_tree.specs.Rows.{Rows, without}
use Rattle.opfs_books.specs.Stored.Spelled.{stored_built}
use Rattle.opfs_books.proofs.stored.Making.{tried-of, some-tied, and-all}
use Rattle.opfs_books.proofs.stored.Stored.{stored-without}

row-covered : (place : Place) (r : Row) → row_charge New place (stored_row r) ≡ line_charge (place, line_of r) + 8 * durable_blocks in_lengths (line_of r)
row-covered (unit, []) row.Dir = omega arith
row-covered (unit, name ∷ names) row.Dir = omega arith
row-covered (unit, path) (row.File f) = omega arith

rows-covered : (t : Rows) → sum_by (λ e. row_charge New e.0 e.1) (stored_rows t) ≡ sum_by line_charge (lines_of t) + 8 * sum_by (λ e. durable_blocks in_lengths e.1) (lines_of t)
rows-covered [] = refl
rows-covered (e ∷ es) =
    omega (
      arith,
      rows-covered es,
      row-covered e.0 e.1,
      sum_by-cons (λ (x : Place × Row). row_charge New x.0 x.1) (e.0, stored_row e.1) (stored_rows es),
      sum_by-cons line_charge (e.0, line_of e.1) (lines_of es),
      sum_by-cons (λ x. durable_blocks in_lengths x.1) (e.0, line_of e.1) (lines_of es),
    )

pub covered : (m : Machine) (t : Rows) → lines_of t ≡ m.rows → charge_of New (stored_built t m.persistent) ≤ charge in_lengths m
unfolding charge_of
covered m t tied =
    let lines : sum_by line_charge (lines_of t) ≡ sum_by line_charge m.rows = ap (sum_by line_charge) tied in
    let blocks : sum_by (λ e. durable_blocks in_lengths e.1) (lines_of t) ≡ sum_by (λ e. durable_blocks in_lengths e.1) m.rows = ap (sum_by (λ e. durable_blocks in_lengths e.1)) tied in
    omega (arith, rows-covered t, lines, blocks)

pub evict-makes : (size : ℕ) (m : Machine) (t : Rows) (unit : Text) → lines_of t ≡ m.rows → is_some (row_at m (unit, [])) ≡ true → is_persistent m unit ≡ false
    → tried New size (stored_built t m.persistent) (Evict unit) ≡ Some (stored_built (without (unit, []) t) m.persistent)
unfolding can_apply applied
evict-makes size m t unit tied there mode =
    tried-of size (stored_built t m.persistent) (stored_built (without (unit, []) t) m.persistent) (Evict unit)
    (and-all _ _ (some-tied size m t 0 tied (unit, []) ∙ there) (ap not mode))
    (ap (λ (rows : Rows). record { rows = rows; persistent = m.persistent }) (sym (stored-without (unit, []) t)))
