use Rattle.std.proofs.Common.{sym, ◌∙◌}
use Rattle.opfs_plain.proofs.Fitting.{fits}
use Rattle.opfs_plain.proofs.machine.enter.Goals as goal

pub enter_accepted-requires-clause-fitting : goal.enter_accepted-requires-clause-fitting
enter_accepted-requires-clause-fitting c =
    fits c.args.state.now c.args.agent c.args.op c.in-Ok-ruled.units c.requires.fitting (sym c.in-Ok.ensures ∙ c.in-Ok-ruled.is)
