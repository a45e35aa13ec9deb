use Rattle.std.proofs.Common.{ap}
use Rattle.opfs_desk.proofs.dispatch.Words.{is_persisted, is_waiting, mode-asked, told-waiting}
use Rattle.opfs_desk.proofs.dispatch.kinds.kind_of.Goals as goal

pub returns-in-Persisted : goal.returns-in-Persisted
returns-in-Persisted c = mode-asked c.args.state.now.store.machine c.args.agent c.args.op.now (ap is_persisted c.in-Persisted.is)

pub returns-in-Post : goal.returns-in-Post
returns-in-Post c = told-waiting c.args.state.now.store.machine c.args.agent c.args.op.now (ap is_waiting c.in-Post.is)

pub returns-in-Await : goal.returns-in-Await
returns-in-Await c = told-waiting c.args.state.now.store.machine c.args.agent c.args.op.now (ap is_waiting c.in-Await.is)

pub returns-in-Wait : goal.returns-in-Wait
returns-in-Wait c = told-waiting c.args.state.now.store.machine c.args.agent c.args.op.now (ap is_waiting c.in-Wait.is)

pub returns-in-End : goal.returns-in-End
returns-in-End c = told-waiting c.args.state.now.store.machine c.args.agent c.args.op.now (ap is_waiting c.in-End.is)
