use Rattle.opfs_rulings.proofs.Within.{first-missing, first-there}
use Rattle.opfs_rulings.proofs.spots.first_from.Goals as goal

pub returns-in-Ok : goal.returns-in-Ok
returns-in-Ok c = first-there c.args.place.now c.args.rows.now c.in-Ok.at c.requires c.in-Ok.ensures.there

pub returns-in-Err : goal.returns-in-Err
returns-in-Err c = first-missing c.args.place.now c.args.rows.now c.in-Err.at c.in-Err.ensures.missing
