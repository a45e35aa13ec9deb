use Rattle.opfs_turns.proofs.asking.Plains.{closed-again-local}
use Rattle.opfs_agent.proofs.agent.Agent.close_again.Goals as goal

pub keep_call-requires-clause-local : goal.keep_call-requires-clause-local
keep_call-requires-clause-local g c = closed-again-local g.S.Store.tells c.args.self.now c.know_kept.ensures c.args.handle.now.row c.requires.handle
