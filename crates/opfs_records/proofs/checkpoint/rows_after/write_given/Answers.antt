use Rattle.std.proofs.Common.{arith}
use Rattle.std.proofs.lemmas.Bool.{false≢true}
use Rattle.opfs_records.proofs.checkpoint.Holding.{few_extents}
use Rattle.opfs_records.proofs.checkpoint.rows_after.write_given.Goals as goal

pub returns-in_err-write_row-in-Dir-clause-room : goal.returns-in_err-write_row-in-Dir-clause-room
returns-in_err-write_row-in-Dir-clause-room c size =
    rw c.in-Dir.is (λ sound le. absurd (false≢true (c.in_err-write_row-in-Dir.ensures.room size (rw c.in-Dir.is sound) (rw c.in-Dir.is le))))

pub returns-in_err-write_file-in-File-clause-room : goal.returns-in_err-write_file-in-File-clause-room
returns-in_err-write_file-in-File-clause-room c size =
    rw c.in-File.is (λ sound le. absurd (false≢true (c.in_err-write_file-in-File.ensures.room (omega (arith, few_extents c.args.content.now.extents.now sound.some, sound.whole)) le)))
