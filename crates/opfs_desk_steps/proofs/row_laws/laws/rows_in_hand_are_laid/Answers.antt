use Rattle.opfs_desk_steps.proofs.row_laws.InHand.{rows-laid}
use Rattle.opfs_desk_steps.proofs.row_laws.laws.rows_in_hand_are_laid.Goals as goal

pub returns : goal.returns
returns g c = rows-laid c.calls_leave_other_rows.ensures g.D.Disk c.the_state_is_kept.ensures c.what_is_laid_goes_on.ensures.in_hand
