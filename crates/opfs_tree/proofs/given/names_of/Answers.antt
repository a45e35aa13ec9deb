use Rattle.std.proofs.Common.{arith, add-one}
use Rattle.opfs_tree.proofs.Sets.{names_next}
use Rattle.opfs_tree.proofs.given.names_of.Goals as goal

pub loop-name-preserved : goal.loop-name-preserved
loop-name-preserved c =
    rw add-one
    (λ x. names_next c.args.past.now c.loop-name.name-index c.name-item.result _ _ _ (omega arith) c.name-item.is c.in_ok-copy.ensures c.in_ok-insert.ensures.updates.0 x (c.loop-name.invariant x))
