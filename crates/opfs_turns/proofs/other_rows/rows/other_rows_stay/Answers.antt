use Rattle.opfs_turns.proofs.other_rows.Entries.{stay}
use Rattle.opfs_turns.proofs.other_rows.rows.other_rows_stay.Goals as goal

pub returns : goal.returns
returns c = stay
