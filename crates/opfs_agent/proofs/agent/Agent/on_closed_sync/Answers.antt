use Rattle.opfs_turns.proofs.asking.Plains.{closed-handle-local}
use Rattle.opfs_agent.proofs.agent.Agent.on_closed_sync.Goals as goal

pub keep_refusal-requires-clause-local : goal.keep_refusal-requires-clause-local
keep_refusal-requires-clause-local g c =
    closed-handle-local g.S.Store.tells c.args.self.now c.know_kept.ensures c.args.handle.now.row c.args.op c.requires.handle c.requires.word c.requires.row
