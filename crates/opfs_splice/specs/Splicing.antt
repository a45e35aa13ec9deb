-- Bytes by position (File System: write a chunk; file position and truncation).
use Rattle.std.specs.Prelude.{ℕ, ◌+◌, ◌-◌, ◌++◌, length, take, drop, replicate}
use Rattle.opfs_base.specs.Texts.{Text}

-- The bytes after new ones were written at a position: a gap past the old end is filled with 0, and what stands behind
-- the written range stays.
abbrev pub splice : Text → ℕ → Text → Text
splice old position new =
    take position (old ++ replicate (position - length old) 0) ++ new ++ drop (position + length new) old

-- The bytes cut or extended with 0 to a size.
abbrev pub resize : Text → ℕ → Text
resize old size = take size old ++ replicate (size - length old) 0

-- The bytes from a place on, at most so many; none from the end on.
abbrev pub window : Text → ℕ → ℕ → Text
window bytes start len = take len (drop start bytes)
