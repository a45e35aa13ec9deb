use Rattle.std.proofs.Common.{◌≡◌, ◌++◌, take, drop}
use Rattle.opfs_machine.specs.Ordered.{insert_by}
use Rattle.opfs_rulings.proofs.ordered.first_not_below.Given as goal

abbrev pub invariant-loop-at : goal.invariant-loop-at
invariant-loop-at g l = insert_by g.T.Ord.cmp l.item l.items ≡ take l.at l.items ++ insert_by g.T.Ord.cmp l.item (drop l.at l.items)
