use Rattle.std.proofs.Common.{◌≡◌, ◌+◌, length, sum_by, drop}
use Rattle.opfs_base.proofs.measures.path_bytes.Given as goal

abbrev pub invariant-loop-name : goal.invariant-loop-name
invariant-loop-name l = l.total + sum_by (λ name. 1 + length name) (drop l.name-index l.name-items) ≡ 1 + sum_by (λ name. 1 + length name) l.name-items
