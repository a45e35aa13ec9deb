use Rattle.opfs_laws.proofs.reserves.Kept.{reserves-fit}
use Rattle.opfs_laws.proofs.reserves.fitting.reserves_fit_or_nothing_is_unflushed.Goals as goal

pub returns : goal.returns
returns c = reserves-fit
