use Rattle.opfs_turns.proofs.asking.Plains.{closed-stream-local}
use Rattle.opfs_agent.proofs.agent.Agent.on_closed_stream.Goals as goal

pub keep_refusal-requires-clause-local : goal.keep_refusal-requires-clause-local
keep_refusal-requires-clause-local g c =
    closed-stream-local g.S.Store.tells c.args.self.now c.know_kept.ensures c.args.stream.now.row c.args.op c.requires.stream c.requires.word c.requires.row
