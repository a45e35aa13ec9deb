use Rattle.std.proofs.Common.{◌≡◌, ◌+◌, take, sum_by}
use Rattle.opfs_codec.proofs.WritingLemmas.{name_bytes}
use Rattle.opfs_codec.proofs.lengths.path_len.Given as goal

abbrev pub invariant-loop-name : goal.invariant-loop-name
invariant-loop-name l = l.total ≡ 1 + sum_by name_bytes (take l.name-index l.name-items)
