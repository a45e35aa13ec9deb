use Rattle.std.proofs.Common.{arith}
use Rattle.opfs_records.proofs.checkpoint.body.snapshot.Goals as goal

pub returns-in-Err-clause-room : goal.returns-in-Err-clause-room
returns-in-Err-clause-room c size sound le = c.in-Err.ensures.room size sound (omega (arith, le, c.clear.ensures.capacity))
