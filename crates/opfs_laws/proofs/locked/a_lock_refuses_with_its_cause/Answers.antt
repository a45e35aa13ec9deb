use Rattle.opfs_laws.proofs.Refused.{refused-entry}
use Rattle.opfs_laws.proofs.locked.a_lock_refuses_with_its_cause.Goals as goal

pub returns : goal.returns
returns c = refused-entry
