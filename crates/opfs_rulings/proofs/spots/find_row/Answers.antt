use Rattle.std.proofs.Common.{sym}
use Rattle.opfs_rulings.proofs.Rising.{found_row, find_missing}
use Rattle.opfs_rulings.proofs.spots.find_row.Goals as goal

pub returns-in-Ok : goal.returns-in-Ok
returns-in-Ok c = found_row _ c.args.rows.now c.in-Ok.at c.index-rows-at.result c.in-Ok.ensures.there

pub returns-in-Err : goal.returns-in-Err
returns-in-Err c = sym (find_missing _ _ c.args.rows.now c.in-Err.ensures.missing)
