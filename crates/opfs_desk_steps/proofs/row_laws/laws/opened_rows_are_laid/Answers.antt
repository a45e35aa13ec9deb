use Rattle.opfs_desk_steps.proofs.row_laws.Opening.{opened-laid}
use Rattle.opfs_desk_steps.proofs.row_laws.laws.opened_rows_are_laid.Goals as goal

pub returns : goal.returns
returns g c = opened-laid c.blocks_go_on.ensures c.blocks_tell_a_file.ensures c.calls_leave_other_rows.ensures g.D.Disk c.rows_in_hand_are_laid.ensures
