use Rattle.opfs_tree.proofs.Closed.{nothing_taken}
use Rattle.opfs_tree.proofs.tree.Tree.take_lock.Goals as goal

pub returns-clause-refused : goal.returns-clause-refused
returns-clause-refused c = nothing_taken c.args.want (c.args.key.now, c.args.path.now) c.args.self.now _ _ c.take.ensures.rows c.take.ensures.given
