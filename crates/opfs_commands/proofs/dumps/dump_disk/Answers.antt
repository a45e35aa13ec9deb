use Rattle.std.proofs.Common.{subst}
use Rattle.opfs_base.specs.Texts.{Text}
use Rattle.opfs_codec.specs.declared.change.Format.TheVariants.{New}
use Rattle.opfs_image.specs.Reading.{read_as}
use Rattle.opfs_journal.proofs.Walks.{only_more}
use Rattle.opfs_outside.specs.Turns.{of_sink}
use Rattle.opfs_commands.specs.Telling.{IsDumped}
use Rattle.opfs_commands.proofs.Dumping.{put_nothing, put_wider}
use Rattle.opfs_commands.proofs.Hosting.{rose_later}
use Rattle.opfs_commands.proofs.Standing.{refused_answer}
use Rattle.opfs_commands.proofs.dumps.dump_disk.Goals as goal

pub returns-in-Ok-clause-only : goal.returns-in-Ok-clause-only
returns-in-Ok-clause-only g c =
    let laws = g.met.D.Disk in
    only_more g.D.Disk laws.falls c.args.disk c.in-Ok.image.journal.disk c.put_image.result.0 c.in-Ok.ensures.only_read c.put_image.ensures.only

pub returns-in-Ok-clause-put : goal.returns-in-Ok-clause-put
returns-in-Ok-clause-put g c =
    let read = c.in-Ok.ensures.only_read in
    put_wider (of_sink g.K.Sink c.args.sink.now c.put_image.new.sink) _ _ _ _ _ _ _ _
    (λ t is told. subst (λ (x : Text). IsDumped x t) ((read.told told).same) (is told))
    (λ t is told. subst (λ (x : Text). IsDumped x t) ((read.told told).same) (is told))
    (λ t never. absurd never)
    (λ rose. rose_later _ _ _ read.later rose)
    c.put_image.result.1 c.put_image.ensures.put

pub returns-in-Err-clause-put : goal.returns-in-Err-clause-put
returns-in-Err-clause-put g c =
    put_nothing g.K.Sink c.args.sink.now g.D.Disk.tells _ (IsDumped (g.D.Disk.content c.args.disk)) _ _ c.refused_answer.result
    (refused_answer g.D.Disk.tells (IsDumped (g.D.Disk.content c.args.disk)) (read_as New New (g.D.Disk.content c.args.disk)) c.refused_answer.result _ _ c.in-Err.refusal c.in-Err.ensures.cause c.refused_answer.ensures.fault c.refused_answer.ensures.memory c.in-Err.ensures.refused c.refused_answer.ensures.image)
