use Rattle.opfs_desk_steps.proofs.row_laws.Stored.{files-stored, histories-cleared}
use Rattle.opfs_desk_steps.proofs.row_laws.laws.files_are_stored.Goals as goal

pub returns-clause-files : goal.returns-clause-files
returns-clause-files g c = files-stored c.changes_build_the_durable_part.ensures g.D.Disk c.commit_laws.ensures

pub returns-clause-between : goal.returns-clause-between
returns-clause-between g c = histories-cleared c.changes_build_the_durable_part.ensures g.D.Disk c.commit_laws.ensures
