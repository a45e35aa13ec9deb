use Rattle.opfs_laws.proofs.Building.{built, refused-none, local-none}
use Rattle.opfs_laws.proofs.stored.changes_build_the_durable_part.Goals as goal

pub returns : goal.returns
returns c = record { built = built; refused = refused-none; local = local-none }
