use Rattle.std.proofs.Common.{◌∙◌}
use Rattle.opfs_rulings.proofs.spots.rows_within.Goals as goal

pub returns : goal.returns
returns c = c.end_within-end.ensures.names ∙ c.rows_from-rest.ensures.names
