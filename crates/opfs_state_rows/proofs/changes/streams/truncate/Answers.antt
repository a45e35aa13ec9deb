use Rattle.opfs_state_rows.proofs.changes.Widened.{truncate-grows, truncate-done}
use Rattle.opfs_state_rows.proofs.changes.streams.truncate.Goals as goal

pub grow-requires-clause-grows : goal.grow-requires-clause-grows
grow-requires-clause-grows c = truncate-grows c.args.store.now.machine c.args.sizes c.args.agent c.args.row c.args.size c.requires.may.may

pub returns-clause-done : goal.returns-clause-done
returns-clause-done c = λ extents. truncate-done c.args.store.now c.grow.new.store c.args.sizes c.args.agent c.args.row extents c.grow.ensures.tree c.args.size c.grow.ensures.machine
