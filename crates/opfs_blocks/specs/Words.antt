-- Sets of blocks as words of 64 bits: block k is bit k % 64 of word k / 64. This project's own.
use Rattle.std.specs.Prelude.{ℕ, ◌/◌, ◌%◌, ◌==◌, Bool, List, map, slice_index}
use Rattle.std.specs.List.{range_with_len}
use Rattle.std.specs.Int.{bit_at}

-- Whether a block's bit is set.
unfoldable pub bit_of : List ℕ → ℕ → Bool
bit_of words block = bit_at (slice_index words (block / 64)) (block % 64) == 1

-- The bits of the blocks below a size.
unfoldable pub flags_of : List ℕ → ℕ → List Bool
flags_of words size = map (bit_of words) (range_with_len 0 size)
