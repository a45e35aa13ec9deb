use Rattle.opfs_commit.proofs.Filling.{fills_changed, quiet_kept}
use Rattle.opfs_commit.proofs.laws.changes_go_through_filling.Goals as goal

pub returns-clause-filled : goal.returns-clause-filled
returns-clause-filled c size base image b next change order found = fills_changed size base image b next change order found

pub returns-clause-kept : goal.returns-clause-kept
returns-clause-kept c a change next order quiet again found = quiet_kept a change next order quiet again found
