use Rattle.opfs_codec.specs.declared.change.Format.TheVariants.{Old, New}
use Rattle.opfs_image.specs.Reading.{read_as}
use Rattle.opfs_commands.specs.Telling.{IsMigratedText}
use Rattle.opfs_commands.proofs.Standing.{refused_answer}
use Rattle.opfs_commands.proofs.makers.migrate_disk.Goals as goal

pub returns-in-Err-clause-answer : goal.returns-in-Err-clause-answer
returns-in-Err-clause-answer g c =
    refused_answer g.D.Disk.tells (IsMigratedText (g.D.Disk.content c.args.disk) (g.D.Disk.content c.in-Err.disk)) (read_as Old New (g.D.Disk.content c.args.disk)) c.refused_answer.result _ _ c.in-Err.refusal c.in-Err.ensures.cause c.refused_answer.ensures.fault c.refused_answer.ensures.memory c.in-Err.ensures.refused c.refused_answer.ensures.image
