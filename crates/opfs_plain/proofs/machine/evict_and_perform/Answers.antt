use Rattle.opfs_machine.proofs.Answered.{performed-after}
use Rattle.opfs_plain.proofs.Fitting.{agent-stays, fits-still}
use Rattle.opfs_plain.proofs.machine.evict_and_perform.Goals as goal

pub returns-clause-state : goal.returns-clause-state
returns-clause-state c =
    performed-after c.args.state.now c.evict_all.new.state c.perform.new.state c.args.agent c.args.op.now c.args.units c.in_ok-evict_all.ensures.state c.in_ok-perform.ensures

pub perform-requires-clause-agent : goal.perform-requires-clause-agent
perform-requires-clause-agent c =
    agent-stays c.args.state.now c.evict_all.new.state c.args.units c.args.agent c.in_ok-evict_all.ensures.state c.requires.agent

pub perform-requires-clause-fitting : goal.perform-requires-clause-fitting
perform-requires-clause-fitting c =
    fits-still c.args.state.now c.evict_all.new.state c.args.units c.args.agent c.args.op.now c.in_ok-evict_all.ensures.state c.requires.fitting
