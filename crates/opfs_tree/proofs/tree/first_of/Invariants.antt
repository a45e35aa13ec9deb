use Rattle.std.proofs.Common.{◌≡◌, slice_get}
use Rattle.opfs_tree.specs.Units.{all_rows}
use Rattle.opfs_tree.proofs.tree.first_of.Given as goal

abbrev pub invariant-loop-key : goal.invariant-loop-key
invariant-loop-key l = slice_get (all_rows l.key-iterator) 0 ≡ slice_get (all_rows l.units.entries) 0
