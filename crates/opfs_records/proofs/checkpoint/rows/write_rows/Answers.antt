use Rattle.std.proofs.Common.{length, ap, arith}
use Rattle.std.proofs.lemmas.Bool.{false≢true}
use Rattle.opfs_records.proofs.checkpoint.Left.{one_written, row_next, room_next, came_to}
use Rattle.opfs_records.proofs.checkpoint.rows.write_rows.Goals as goal

pub loop-row-preserved : goal.loop-row-preserved
loop-row-preserved c =
    let at = came_to c.loop-row.walk c.step.new.walk c.args.tree.now.rows c.in-Some.row.now c.key.result.now c.path.result.now c.in-Some.ensures.next c.key.ensures c.path.ensures in
    one_written _ _ _ (c.key.result.now, c.path.result.now) c.in-Some.row.now _ _ _ _ c.loop-row.invariant at _ _ c.in_ok-write_row.ensures.written c.in_ok-write_row.ensures.capacity

pub write_row-requires : goal.write_row-requires
write_row-requires c =
    let at = came_to c.loop-row.walk c.step.new.walk c.args.tree.now.rows c.in-Some.row.now c.key.result.now c.path.result.now c.in-Some.ensures.next c.key.ensures c.path.ensures in
    row_next _ _ _ (c.key.result.now, c.path.result.now) c.in-Some.row.now _ _ _ _ c.loop-row.invariant at

pub loop-row-smaller : goal.loop-row-smaller
loop-row-smaller c =
    let at = came_to c.loop-row.walk c.step.new.walk c.args.tree.now.rows c.in-Some.row.now c.key.result.now c.path.result.now c.in-Some.ensures.next c.key.ensures c.path.ensures in
    omega (arith, ap length at)

pub returns-in_err-write_row-clause-room : goal.returns-in_err-write_row-clause-room
returns-in_err-write_row-clause-room c size sound le =
    let at = came_to c.loop-row.walk c.step.new.walk c.args.tree.now.rows c.in-Some.row.now c.key.result.now c.path.result.now c.in-Some.ensures.next c.key.ensures c.path.ensures in
    let room = room_next _ _ _ (c.key.result.now, c.path.result.now) c.in-Some.row.now _ _ _ _ c.loop-row.invariant at size sound (omega (arith, le, c.args.into.now.ok.0)) in
    absurd (false≢true (c.in_err-write_row.ensures.room size room.0 (omega (arith, room.1, c.loop-row.into.ok.0))))
