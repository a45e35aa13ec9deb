use Rattle.opfs_turns.proofs.asking.Plains.{moment-local}
use Rattle.opfs_agent.proofs.agent.Agent.moment.Goals as goal

pub keep_call-requires-clause-local : goal.keep_call-requires-clause-local
keep_call-requires-clause-local g c = moment-local g.S.Store.tells c.args.self.now c.know_kept.ensures c.args.ms
