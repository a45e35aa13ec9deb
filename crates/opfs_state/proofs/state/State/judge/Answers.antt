use Rattle.std.proofs.Common.{sym, subst}
use Rattle.opfs_state_rows.specs.Changes.Asking.{AreOwnUnits}
use Rattle.opfs_state.specs.Applied.{StateSeen}
use Rattle.opfs_state.proofs.Keyless.{keyless-asks-nothing}
use Rattle.opfs_state.proofs.state.State.judge.Goals as goal

pub judge-requires-clause-keyless : goal.judge-requires-clause-keyless
judge-requires-clause-keyless c =
    keyless-asks-nothing c.self.inside.store.machine c.args.sizes c.args.agent c.args.op.now (subst (λ (s : StateSeen). AreOwnUnits s.store.machine c.args.agent c.args.op.now) (sym c.self.view_is) c.requires.own)
