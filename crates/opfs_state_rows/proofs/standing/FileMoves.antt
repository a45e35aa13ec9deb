-- A file that is changed moves its unit alone.
use Rattle.std.proofs.Common.{◌≡◌, ℕ, true, false, not, ◌&&◌, [], Some, is_some, refl, sym, ap, ◌∙◌, arith}
use Rattle.opfs_base.specs.Blocks.{blocks}
use Rattle.opfs_base.specs.Places.{Place}
use Rattle.opfs_machine.specs.declared.state.FileRow.{FileRow}
use Rattle.opfs_machine.specs.Contents.{in_lengths}
use Rattle.opfs_machine.specs.Rows.{row_at, file_at, with_file}
use Rattle.opfs_machine.specs.Sums.{durable_blocks, present_blocks, is_persistent}
use Rattle.opfs_machine.specs.Victims.{none_taken}
use Rattle.opfs_state_rows.specs.Standing.Seen.{Machine}
use Rattle.opfs_state_rows.specs.Standing.Moves.{Amounts, Moves}
use Rattle.opfs_state_rows.proofs.standing.Places.{there-changed}
use Rattle.opfs_state_rows.proofs.standing.RowSums.{sum-changed, charge-changed, taken-changed}
use Rattle.opfs_state_rows.proofs.standing.Units.{apart_back}

-- What a file counts as.
abbrev pub amounts_of : FileRow ℕ → Amounts
amounts_of f = record { usage = blocks f.present; blocks = blocks f.durable; charge = 0 }

true_false : true ≡ false → ⊥
true_false h = cc

pub file-moves : (m : Machine) (place : Place) (change : FileRow ℕ → FileRow ℕ) (f : FileRow ℕ) → file_at m place ≡ Some f
    → Moves m (with_file m place change) place.0 (amounts_of f) (amounts_of (change f))
file-moves m place change f found = record {
  limits = refl;
  known = λ q there. record { known = λ none. absurd (true_false (sym there ∙ (there-changed change place q m.rows ∙ none))) };
  usage = λ p. omega (arith, sum-changed place change f p (present_blocks in_lengths) m.rows found);
  blocks = λ p. omega (arith, sum-changed place change f p (durable_blocks in_lengths) m.rows found);
  clear = λ u apart.
      ap (λ t. t && not (is_persistent m u) && none_taken (with_file m place change) u) (there-changed change place (u, []) m.rows)
      ∙ ap (λ t. is_some (row_at m (u, [])) && not (is_persistent m u) && t) (taken-changed place change u (apart_back place.0 u apart) m.rows);
  charge = omega (arith, charge-changed place change m.rows);
}
