use Rattle.opfs_script_run.proofs.runs.Defaults.{same_op, row_op-handle}
use Rattle.opfs_script_run.proofs.runs.asking.row_op.Goals as goal

pub returns-in-Slice : goal.returns-in-Slice
returns-in-Slice c = rw c.in-Slice.is c.slice.ensures

pub returns-in-Write : goal.returns-in-Write
returns-in-Write c = rw c.in-Write.is c.write.ensures

pub returns-in-Seek : goal.returns-in-Seek
returns-in-Seek c = rw c.in-Seek.is c.seek.ensures

pub returns-in-Truncate : goal.returns-in-Truncate
returns-in-Truncate c = rw c.in-Truncate.is c.truncate.ensures

pub returns-in_default : goal.returns-in_default
returns-in_default c =
    same_op _ _ _
    (row_op-handle c.args.hand.now c.args.step.now c.in_default.not-Slice c.in_default.not-Write c.in_default.not-Seek
    c.in_default.not-Truncate c.in_default.not-Close c.in_default.not-Abort)
    c.handle_op.ensures
