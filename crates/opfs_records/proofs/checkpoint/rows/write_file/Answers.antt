use Rattle.std.proofs.Common.{arith}
use Rattle.std.proofs.lemmas.Bool.{false≢true}
use Rattle.opfs_codec.specs.Fields.{plain}
use Rattle.opfs_records.proofs.checkpoint.Charging.{file_len}
use Rattle.opfs_records.proofs.checkpoint.rows.write_file.Goals as goal

pub returns-in_err-write_content-clause-room : goal.returns-in_err-write_content-clause-room
unfolding plain
returns-in_err-write_content-clause-room c few le =
    let bytes = file_len c.args.unit.now c.args.path.now c.args.file.now.stamp in
    absurd (false≢true (c.in_err-write_content.ensures.room few (omega (arith, le, bytes, c.in_ok-write.ensures.len, c.in_ok-write.ensures.capacity))))
