use Rattle.std.proofs.Common.{option_map, sym, ap, ◌∙◌}
use Rattle.std.proofs.lemmas.Bool.{false≢true}
use Rattle.opfs_records.specs.Checkpoint.Contents.{as_file}
use Rattle.opfs_records.proofs.checkpoint.rows_after.write_row_with.Goals as goal

pub returns-in_err-write_given-in-Some-clause-room : goal.returns-in_err-write_given-in-Some-clause-room
returns-in_err-write_given-in-Some-clause-room c size =
    rw (sym c.content_for.ensures ∙ ap (option_map as_file) c.in-Some.is) (λ sound le. absurd (false≢true (c.in_err-write_given-in-Some.ensures.room size sound le)))

pub returns-in_err-write_row-in-None-clause-room : goal.returns-in_err-write_row-in-None-clause-room
returns-in_err-write_row-in-None-clause-room c size =
    rw (sym c.content_for.ensures ∙ ap (option_map as_file) c.in-None.is) (λ sound le. absurd (false≢true (c.in_err-write_row-in-None.ensures.room size sound le)))
