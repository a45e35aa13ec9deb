use Rattle.std.proofs.Common.{subst}
use Rattle.opfs_tree.specs.Rows.{IsInOrder}
use Rattle.opfs_desk_contents.proofs.unchanged.Wordings.{silent}
use Rattle.opfs_desk_contents.proofs.unchanged.idle.enter_idle.Goals as goal

pub tell_ready-requires-clause-silent : goal.tell_ready-requires-clause-silent
tell_ready-requires-clause-silent g c = silent _ _ _ _ _ c.requires.word

pub returns-clause-order : goal.returns-clause-order
returns-clause-order g c = record { before = c.know_order.ensures; after = subst IsInOrder c.tell_ready.ensures.tree c.know_order-2.ensures }
