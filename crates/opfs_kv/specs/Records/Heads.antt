-- The front of a record, up to its value, as it is read. This project's own.
use Rattle.std.specs.Prelude.{ℕ, ◌+◌, ◌==◌, nat_lt, if◌then◌else◌, [], ◌∷◌, ◌++◌, length, take, drop, Option, Some, None}
use Rattle.std.specs.Int.{w32, to_le_bytes, from_le_bytes}
use Rattle.opfs_base.specs.Texts.{Text}

-- A key, and the length of its value; None where it is taken out.
abbrev pub Head : Type 0
Head = Text × Option ℕ

-- The bytes of a record before its value.
abbrev pub front_of : Text → Option ℕ → Text
front_of key (Some size) = 1 ∷ length key ∷ (key ++ to_le_bytes w32 size)
front_of key None = 2 ∷ length key ∷ key

-- How many bytes the record takes.
abbrev pub size_by : ℕ → Option ℕ → ℕ
size_by key (Some size) = 6 + key + size
size_by key None = 2 + key

-- Reading, from the left: None where no record begins so, or its front is not there whole.
unfoldable pub sized_by : Text → Text → Option Head
sized_by key rest =
    if nat_lt (length rest) 4 then None
    else (if nat_lt 65536 (from_le_bytes w32 (take 4 rest)) then None else Some (key, Some (from_le_bytes w32 (take 4 rest))))

unfoldable pub kind_by : ℕ → Text → Text → Option Head
kind_by kind key rest = if kind == 1 then sized_by key rest else (if kind == 2 then Some (key, None) else None)

unfoldable pub key_by : ℕ → ℕ → Text → Option Head
key_by kind size rest =
    if size == 0 then None else (if nat_lt (length rest) size then None else kind_by kind (take size rest) (drop size rest))

unfoldable pub head_at : Text → Option Head
head_at [] = None
head_at (kind ∷ []) = None
head_at (kind ∷ (size ∷ rest)) = key_by kind size rest
