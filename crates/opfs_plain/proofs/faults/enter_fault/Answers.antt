use Rattle.opfs_plain.proofs.Fitting.{agent-stays}
use Rattle.opfs_plain.proofs.faults.enter_fault.Goals as goal

pub enter_refused-requires : goal.enter_refused-requires
enter_refused-requires c =
    agent-stays c.args.state.now c.evict_all.new.state c.args.units c.args.agent c.in-Ok.ensures.state c.requires
