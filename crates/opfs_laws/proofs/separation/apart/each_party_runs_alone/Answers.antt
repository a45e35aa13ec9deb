use Rattle.opfs_laws.proofs.separation.Separation.{each-alone}
use Rattle.opfs_laws.proofs.separation.apart.each_party_runs_alone.Goals as goal

pub returns : goal.returns
returns c = each-alone
