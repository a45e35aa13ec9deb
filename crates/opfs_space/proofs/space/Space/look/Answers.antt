use Rattle.opfs_records.specs.Replay.Built.{named}
use Rattle.opfs_space.proofs.Looking.{look_used, look_found}
use Rattle.opfs_space.proofs.space.Space.look.Goals as goal

pub returns-clause-used : goal.returns-clause-used
returns-clause-used c =
    look_used (named c.args.tree.now.rows) c.args.swap.now c.args.self.now c.begin.new.self c.see_tree.new.self c.see_rows.new.self c.see_rows.ensures.order c.begin.ensures c.see_tree.ensures c.see_rows.ensures.seen

pub returns-clause-found : goal.returns-clause-found
returns-clause-found c =
    look_found (named c.args.tree.now.rows) c.args.swap.now c.args.self.now c.begin.new.self c.see_tree.new.self c.see_rows.new.self c.see_rows.ensures.order c.begin.ensures c.see_tree.ensures c.see_rows.ensures.seen
