use Rattle.std.proofs.Common.{sym, ◌∙◌, arith}
use Rattle.std.proofs.lemmas.Bool.{false≢true}
use Rattle.opfs_records.proofs.checkpoint.Parts.{left_one}
use Rattle.opfs_codec.specs.Fields.{plain}
use Rattle.opfs_records.proofs.checkpoint.rows_after.write_row_after.Goals as goal

pub returns-in_err-write_row_with-clause-room : goal.returns-in_err-write_row_with-clause-room
returns-in_err-write_row_with-clause-room c size =
    rw (left_one (plain c.args.own.now) (c.args.unit.now, c.args.path.now) c.args.row.now (sym c.leaves_out.ensures ∙ c.if-leaves_out.false))
    (λ sound le. absurd (false≢true (c.in_err-write_row_with.ensures.room size sound.0 (omega (arith, le)))))
