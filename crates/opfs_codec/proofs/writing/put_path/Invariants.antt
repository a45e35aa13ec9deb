use Rattle.std.proofs.Common.{◌≡◌, ◌+◌, ◌≤◌, ◌++◌, length, take, sum_by}
use Rattle.std.specs.Int.{w8, to_le_bytes}
use Rattle.std.specs.List.{flat_map}
use Rattle.std.specs.Prelude.{vec_len, vec_capacity}
use Rattle.opfs_codec.specs.Spelling.{text}
use Rattle.opfs_codec.proofs.WritingLemmas.{name_bytes}
use Rattle.opfs_codec.proofs.writing.put_path.Given as goal

abbrev pub invariant-loop-name : goal.invariant-loop-name
invariant-loop-name l =
    (l.into.items ≡ l.fn.into.items ++ (to_le_bytes w8 (length l.names) ++ flat_map (text w8) (take l.name-index l.names)))
    × (vec_len l.into ≡ vec_len l.fn.into + (1 + sum_by name_bytes (take l.name-index l.names)))
    × (vec_capacity l.fn.into ≤ vec_capacity l.into)
