use Rattle.opfs_laws.proofs.steady.Leaving.{only-own}
use Rattle.opfs_laws.proofs.steady.settling.only_its_own_calls_settle_a_row.Goals as goal

pub returns : goal.returns
returns c = only-own
