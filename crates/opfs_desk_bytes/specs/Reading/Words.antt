-- A read of an access handle: where it begins, how many bytes it asks for, and where it leaves the cursor. This project's own.
use Rattle.std.specs.Prelude.{ℕ, ◌+◌, ◌-◌, min, Bool, true, false, []}
use Rattle.opfs_base.specs.Places.{Place, place_of}
use Rattle.opfs_hist.specs.declared.op.Op.{Op}
use Rattle.opfs_hist.specs.declared.op.Op.TheVariants as op
use Rattle.opfs_machine.specs.declared.state.Sizes.{Sizes}
use Rattle.opfs_machine.specs.Rulings.{start_of}

abbrev pub reads_row : Op → Bool
reads_row (op.SyncRead n len at) = true
reads_row o = false

-- With getFile.
abbrev pub reads_bytes : Op → Bool
reads_bytes (op.SyncRead n len at) = true
reads_bytes (op.GetFile at) = true
reads_bytes o = false

abbrev pub gets_file : Op → Bool
gets_file (op.GetFile at) = true
gets_file o = false

-- The place of the file that getFile reads.
abbrev pub file_read : Op → Place
file_read (op.GetFile at) = place_of at
file_read o = ([], [])

abbrev pub read_start : Sizes → Op → ℕ
read_start z (op.SyncRead n len at) = start_of z at
read_start z o = 0

abbrev pub read_len : Op → ℕ
read_len (op.SyncRead n len at) = len
read_len o = 0

-- Behind the bytes that there are, and within the file.
abbrev pub end_of_read : ℕ → ℕ → ℕ → ℕ
end_of_read size start len = min size (start + min len (size - start))

abbrev pub cursor_read : Sizes → Op → ℕ
cursor_read z o = end_of_read z.size (read_start z o) (read_len o)
