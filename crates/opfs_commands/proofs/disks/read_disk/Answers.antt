use Rattle.opfs_journal.proofs.Walks.{only_more}
use Rattle.opfs_codec.specs.declared.change.Format.TheVariants.{New}
use Rattle.opfs_image.specs.Reading.{read_as}
use Rattle.opfs_commands.specs.Telling.{IsTold}
use Rattle.opfs_commands.proofs.Standing.{refused_answer}
use Rattle.opfs_commands.proofs.disks.read_disk.Goals as goal

pub returns-in-Ok-clause-only : goal.returns-in-Ok-clause-only
returns-in-Ok-clause-only g c =
    let laws = g.met.D.Disk in
    only_more g.D.Disk laws.falls c.args.disk c.in-Ok.image.journal.disk c.tell.result.0 c.in-Ok.ensures.only_read c.tell.ensures.only

pub returns-in-Err-clause-answer : goal.returns-in-Err-clause-answer
returns-in-Err-clause-answer g c =
    refused_answer g.D.Disk.tells (IsTold c.args.tool (g.D.Disk.content c.args.disk)) (read_as New New (g.D.Disk.content c.args.disk)) c.refused_answer.result _ _ c.in-Err.refusal c.in-Err.ensures.cause c.refused_answer.ensures.fault c.refused_answer.ensures.memory c.in-Err.ensures.refused c.refused_answer.ensures.image
