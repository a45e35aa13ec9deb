use Rattle.std.proofs.Common.{length, ap, arith}
use Rattle.opfs_tree.specs.declared.row.FileRow.{FileRow}
use Rattle.std.proofs.lemmas.Bool.{false≢true}
use Rattle.opfs_records.proofs.checkpoint.Holding.{few_extents}
use Rattle.opfs_records.proofs.checkpoint.rows.write_row.Goals as goal

pub returns-in_err-write_file-in-File-clause-room : goal.returns-in_err-write_file-in-File-clause-room
returns-in_err-write_file-in-File-clause-room c size =
    rw c.in-File.is (λ sound le. absurd (false≢true (c.in_err-write_file-in-File.ensures.room (omega (arith, few_extents c.in-File.file.extents sound.some, sound.whole, ap (λ (f : FileRow). f.length) c.of.ensures, ap (λ (f : FileRow). length f.extents) c.of.ensures)) (omega (arith, le, ap (λ (f : FileRow). f.length) c.of.ensures)))))
