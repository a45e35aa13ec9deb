use Rattle.std.proofs.Common.{◌≡◌, subst}
use Rattle.std.specs.Prelude.{Err}
use Rattle.std.proofs.lemmas.Result.{IfOk-weaker, IfErr-weaker}
use Rattle.opfs_codec.specs.declared.change.Format.TheVariants.{New}
use Rattle.opfs_journal.proofs.Walks.{only_more}
use Rattle.opfs_image.specs.Reading.{read_as}
use Rattle.opfs_image.proofs.recovering.recover.Goals as goal

pub returns-in-Ok-clause-only_read : goal.returns-in-Ok-clause-only_read
returns-in-Ok-clause-only_read g c =
    let laws = g.met.D.Disk in
    IfOk-weaker c.begin.result _ _ (λ all is. only_more g.D.Disk laws.falls c.args.disk c.read_image.new.disk all.journal.disk c.read_image.ensures.only is) c.begin.ensures.only_read

pub returns-in-Ok-clause-refused : goal.returns-in-Ok-clause-refused
returns-in-Ok-clause-refused g c =
    IfErr-weaker c.begin.result _ _ (λ err is no_fault no_want told. subst (λ d. read_as New New d ≡ Err err.1) (c.read_image.ensures.only.told told).same (is no_fault no_want told)) c.begin.ensures.refused

pub returns-in-Ok-clause-only_read_err : goal.returns-in-Ok-clause-only_read_err
returns-in-Ok-clause-only_read_err g c =
    let laws = g.met.D.Disk in
    IfErr-weaker c.begin.result _ _ (λ err is. only_more g.D.Disk laws.falls c.args.disk c.read_image.new.disk err.0 c.read_image.ensures.only is) c.begin.ensures.only_read_err
