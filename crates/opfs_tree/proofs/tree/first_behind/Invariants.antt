use Rattle.std.proofs.Common.{◌≡◌, slice_get}
use Rattle.opfs_tree.specs.Units.{all_rows, behind}
use Rattle.opfs_tree.proofs.tree.first_behind.Given as goal

abbrev pub invariant-loop-next : goal.invariant-loop-next
invariant-loop-next l = slice_get (all_rows l.next-iterator) 0 ≡ slice_get (all_rows (behind l.key l.units.entries)) 0
