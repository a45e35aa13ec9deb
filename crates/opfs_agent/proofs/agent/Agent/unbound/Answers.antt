use Rattle.opfs_turns.proofs.asking.Plains.{unbound-local}
use Rattle.opfs_agent.proofs.agent.Agent.unbound.Goals as goal

pub keep_refusal-requires-clause-local : goal.keep_refusal-requires-clause-local
keep_refusal-requires-clause-local g c = unbound-local g.S.Store.tells c.args.self.now c.know_kept.ensures c.args.word
