use Rattle.opfs_laws.proofs.charges.Judged.{charge-grows}
use Rattle.opfs_laws.proofs.charges.the_charge_grows_as_judged.Goals as goal

pub returns : goal.returns
returns c = charge-grows
