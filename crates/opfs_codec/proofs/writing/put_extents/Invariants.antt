use Rattle.std.proofs.Common.{◌≡◌, ◌+◌, ◌*◌, ◌≤◌, ◌++◌, length, take}
use Rattle.std.specs.Int.{w32, to_le_bytes}
use Rattle.std.specs.List.{flat_map}
use Rattle.std.specs.Prelude.{vec_len, vec_capacity}
use Rattle.opfs_codec.specs.Spelling.{extent}
use Rattle.opfs_codec.proofs.writing.put_extents.Given as goal

abbrev pub invariant-loop-run : goal.invariant-loop-run
invariant-loop-run l =
    (l.into.items ≡ l.fn.into.items ++ (to_le_bytes w32 (length l.runs-2) ++ flat_map extent (take l.run-index l.runs-2)))
    × (vec_len l.into ≡ vec_len l.fn.into + (4 + 8 * l.run-index))
    × (vec_capacity l.fn.into ≤ vec_capacity l.into)
