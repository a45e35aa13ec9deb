use Rattle.opfs_dump.specs.Text.Seen.{stored_of}
use Rattle.opfs_dump.proofs.loading.Orders.{standing}
use Rattle.opfs_dump.proofs.loading.following.insert.Goals as goal

pub add-requires-clause-free : goal.add-requires-clause-free
add-requires-clause-free c = (standing c.args.tree.now c.args.row.now.place (stored_of c.args.row.now.file) c.requires).0

pub add-requires-clause-parent : goal.add-requires-clause-parent
add-requires-clause-parent c = (standing c.args.tree.now c.args.row.now.place (stored_of c.args.row.now.file) c.requires).1
