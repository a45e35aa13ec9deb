use Rattle.opfs_turns.proofs.Faults.{has-failed}
use Rattle.opfs_turns.proofs.faulting.a_told_fault_has_its_rise.Goals as goal

pub returns : goal.returns
returns g c = has-failed g.S.Store.tells (g.S.Chronicle.entries c.args.store.now) (g.S.Store.faults_before (g.S.Chronicle.opening c.args.store.now)) (g.S.Store.faults c.args.store.now) c.know_faults_rose.ensures
