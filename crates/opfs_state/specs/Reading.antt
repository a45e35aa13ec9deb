-- What is read of the shared state. This project's own.
use Rattle.std.specs.Prelude.{ℕ, Option, Some, None}
use Rattle.opfs_base.specs.Places.{Place}
use Rattle.opfs_machine.specs.declared.own.HandleOutline.{HandleOutline}
use Rattle.opfs_machine.specs.declared.own.StreamOutline.{StreamOutline}
use Rattle.opfs_machine.specs.Agents.{open_stream, open_handle}
use Rattle.opfs_machine.specs.Contents.{in_lengths}
use Rattle.opfs_state_rows.specs.Standing.Seen.{Machine}

abbrev pub file_of_row : Option StreamOutline → Option HandleOutline → Option Place
file_of_row (Some w) h = Some w.file
file_of_row None (Some h) = Some h.file
file_of_row None None = None

-- The file of the open stream or access handle of a number.
abbrev pub row_file : Machine → ℕ → ℕ → Option Place
row_file m k n = file_of_row (open_stream in_lengths m k n) (open_handle in_lengths m k n)
