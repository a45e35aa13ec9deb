use Rattle.opfs_desk_steps.proofs.row_laws.OpenCopies.{copies-stand}
use Rattle.opfs_desk_steps.proofs.row_laws.Opens.{calls-open}
use Rattle.opfs_desk_steps.proofs.row_laws.laws.calls_open_rows.Goals as goal

pub returns-clause-rows : goal.returns-clause-rows
returns-clause-rows g c = calls-open c.state_laws.ensures c.calls_change_their_row.ensures c.trees_keep_their_blocks.ensures g.D.Disk c.files_are_stored.ensures.files

pub returns-clause-copies : goal.returns-clause-copies
returns-clause-copies g c =
    copies-stand c.state_laws.ensures c.calls_change_their_row.ensures c.trees_keep_their_blocks.ensures g.D.Disk c.files_are_stored.ensures.files c.the_state_is_kept.ensures
    c.copies_stand_for_their_row.ensures.stream c.copies_stand_for_their_row.ensures.handle
