use Rattle.std.proofs.Common.{sym, ◌∙◌, subst}
use Rattle.std.proofs.lemmas.Result.{IfOk-weaker, IfErr-weaker}
use Rattle.opfs_journal.specs.Format.{records_of}
use Rattle.opfs_image.specs.Filling.{StandsOld}
use Rattle.opfs_codec.specs.declared.change.Format.TheVariants.{Old, New}
use Rattle.opfs_image.proofs.Layering.{no_refusal}
use Rattle.opfs_migrate.specs.Migrating.{AreMigrated}
use Rattle.opfs_migrate.proofs.Moves.{only_moved, moved_more}
use Rattle.opfs_migrate.proofs.Refused.{begun}
use Rattle.opfs_migrate.proofs.raising.raise_image.Goals as goal

pub raise_over-requires-clause-records : goal.raise_over-requires-clause-records
raise_over-requires-clause-records g c = λ told.
    let areas = c.journal_areas-areas.ensures in
    let same = (c.in-Ok.ensures.only_read.told told).same in
    sym (λ i. records_of (areas i) ((sym same) i)) ∙ c.in-Ok.ensures.records told

pub returns-in-Ok-clause-moved : goal.returns-in-Ok-clause-moved
returns-in-Ok-clause-moved g c =
    let laws = g.met.D.Disk in
    IfOk-weaker c.raise_over.result _ _ (λ done is. moved_more g.D.Disk laws.falls c.args.disk c.in-Ok.journal.disk done.0 c.in-Ok.ensures.only_read is) c.raise_over.ensures.moved

pub returns-in-Ok-clause-stands : goal.returns-in-Ok-clause-stands
returns-in-Ok-clause-stands g c =
    IfOk-weaker c.raise_over.result _ _ (λ done is told. subst (λ d. AreMigrated done.1 d (g.D.Disk.content done.0)) (c.in-Ok.ensures.only_read.told told).same (is told)) c.raise_over.ensures.stands

pub returns-in-Ok-clause-durable : goal.returns-in-Ok-clause-durable
returns-in-Ok-clause-durable g c =
    IfOk-weaker c.raise_over.result _ _ (λ done is told m stands. is told m (subst (λ d. StandsOld d m) (sym (c.in-Ok.ensures.only_read.told told).same) stands)) c.raise_over.ensures.durable

pub returns-in-Ok-clause-moved_err : goal.returns-in-Ok-clause-moved_err
returns-in-Ok-clause-moved_err g c =
    let laws = g.met.D.Disk in
    IfErr-weaker c.raise_over.result _ _ (λ err is. moved_more g.D.Disk laws.falls c.args.disk c.in-Ok.journal.disk err.0 c.in-Ok.ensures.only_read is) c.raise_over.ensures.moved_err

pub returns-in-Err-clause-moved_err : goal.returns-in-Err-clause-moved_err
returns-in-Err-clause-moved_err g c =
    let laws = g.met.D.Disk in
    only_moved g.D.Disk laws.falls c.args.disk c.in-Err.disk c.in-Err.ensures.only_read_err

pub returns-in-Err-clause-untold : goal.returns-in-Err-clause-untold
returns-in-Err-clause-untold g c =
    begun g.D.Disk.tells c.in-Err.refusal c.from.result c.from.ensures (λ no_fault no_want told.
    let plan = c.requires.planned told in
    no_refusal Old New (g.D.Disk.content c.args.disk) (record { geometry = c.args.plan.geometry; built = plan.built }) c.journal_areas-areas.result c.in-Err.refusal plan.reads c.journal_areas-areas.ensures
    (c.in-Err.ensures.refused no_fault no_want told))
