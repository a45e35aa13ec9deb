-- What a read of a file gives, from the tree.
use Rattle.std.proofs.Common.{◌≡◌, ℕ, Option, Some, None, option_map, refl, sym, ap, ◌∙◌}
use Rattle.opfs_base.specs.Places.{Place}
use Rattle.opfs_machine.specs.declared.state.FileRow.{FileRow as File}
use Rattle.opfs_machine.specs.Rows as machine
use Rattle.opfs_state_rows.proofs.standing.Lines.{file_line, file-at}
use Rattle.opfs_state_rows.specs.Standing.Seen.{Machine, lines_of}
use Rattle.opfs_tree.specs.declared.row.FileRow.{FileRow}
use Rattle.opfs_tree.specs.Rows.{Rows, file_at}

of-line : (o : Option FileRow) → option_map {U = ℕ × ℕ} (λ (f : FileRow). (f.present, f.present_stamp)) o ≡ option_map {U = ℕ × ℕ} (λ (f : File ℕ). (f.present, f.stamp)) (option_map file_line o)
of-line None = refl
of-line (Some f) = refl

pub present-of : (m : Machine) (t : Rows) (place : Place) (o : Option FileRow) → m.rows ≡ lines_of t → o ≡ file_at place t
    → option_map {U = ℕ × ℕ} (λ (f : FileRow). (f.present, f.present_stamp)) o ≡ option_map {U = ℕ × ℕ} (λ (f : File ℕ). (f.present, f.stamp)) (machine.file_at m place)
present-of m t place o lines is =
    of-line o ∙ ap (λ x. option_map {U = ℕ × ℕ} (λ (f : File ℕ). (f.present, f.stamp)) (option_map file_line x)) is
    ∙ ap (option_map {U = ℕ × ℕ} (λ (f : File ℕ). (f.present, f.stamp))) (sym (ap (λ (rows : machine.Rows ℕ). machine.file_at (record m { rows = rows }) place) lines ∙ file-at place t))
