use Rattle.std.proofs.Common.{subst}
use Rattle.opfs_tree.specs.Rows.{IsInOrder}
use Rattle.opfs_desk_entries.proofs.releases.Words.{silent}
use Rattle.opfs_desk_entries.proofs.releases.leaving.enter_leave.Goals as goal

pub tell_ready-requires-clause-silent : goal.tell_ready-requires-clause-silent
tell_ready-requires-clause-silent g c = silent _ _ _ _ _ c.requires.word

pub returns-clause-order : goal.returns-clause-order
returns-clause-order g c = record { before = c.know_order.ensures; after = subst IsInOrder c.tell_ready.ensures.tree c.know_order-2.ensures }
