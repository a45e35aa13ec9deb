use Rattle.std.proofs.Common.{◌≡◌, ◌+◌, length, drop, sum_by}
use Rattle.opfs_base.specs.Measures.{path_bytes}
use Rattle.opfs_tree.proofs.sums.path_bytes.Given as goal

abbrev pub invariant-loop-name : goal.invariant-loop-name
invariant-loop-name l = l.total + sum_by (λ name. 1 + length name) (drop l.name-index l.path) ≡ path_bytes l.path
