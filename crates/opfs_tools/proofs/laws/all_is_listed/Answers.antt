use Rattle.opfs_tools.proofs.Listed.{listed_units, listed_rows}
use Rattle.opfs_tools.proofs.Ordered.{listed_in_order}
use Rattle.opfs_tools.proofs.laws.all_is_listed.Goals as goal

pub returns-clause-units : goal.returns-clause-units
returns-clause-units c = listed_units

pub returns-clause-rows : goal.returns-clause-rows
returns-clause-rows c = listed_rows

pub returns-clause-order : goal.returns-clause-order
returns-clause-order c = listed_in_order
