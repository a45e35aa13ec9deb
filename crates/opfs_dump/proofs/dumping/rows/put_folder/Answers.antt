use Rattle.std.proofs.Common.{◌∙◌, subst}
use Rattle.opfs_base.specs.Texts.{Text}
use Rattle.opfs_dump.specs.Dumping.Putting.{Puts}
use Rattle.opfs_dump.proofs.dumping.Putting.{puts_nothing}
use Rattle.opfs_dump.proofs.dumping.Rests.{folder_whole}
use Rattle.opfs_dump.proofs.dumping.rows.put_folder.Goals as goal

pub returns-in-Ok : goal.returns-in-Ok
returns-in-Ok g c =
    subst (λ (t : Text). Puts g.K.Sink c.args.sink.now c.put_text.new.sink t c.put_text.result)
    (c.as_bytes.ensures.value ∙ (c.in-Ok.ensures ∙ folder_whole (c.args.key.now, c.args.path.now))) c.put_text.ensures

pub returns-in-Err : goal.returns-in-Err
returns-in-Err g c = puts_nothing g.K.Sink c.args.sink.now _
