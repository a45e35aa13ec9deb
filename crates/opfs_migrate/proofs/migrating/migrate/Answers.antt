use Rattle.std.proofs.Common.{inl, inr, sym, subst}
use Rattle.std.proofs.lemmas.Result.{IfOk-weaker, IfErr-weaker}
use Rattle.opfs_journal.proofs.Walks.{only_more}
use Rattle.opfs_image.specs.Filling.{StandsOld}
use Rattle.opfs_migrate.specs.Migrating.{AreMigrated}
use Rattle.opfs_migrate.proofs.Moves.{moved_more}
use Rattle.opfs_migrate.proofs.migrating.migrate.Goals as goal

pub returns-in-Ok-clause-stands : goal.returns-in-Ok-clause-stands
returns-in-Ok-clause-stands g c =
    IfOk-weaker c.raise_image.result _ _ (λ done is told. subst (λ d. AreMigrated done.1 d (g.D.Disk.content done.0)) (c.read_plan.ensures.only.told told).same (is told)) c.raise_image.ensures.stands

pub returns-in-Ok-clause-durable : goal.returns-in-Ok-clause-durable
returns-in-Ok-clause-durable g c =
    IfOk-weaker c.raise_image.result _ _ (λ done is told m stands. is told m (subst (λ d. StandsOld d m) (sym (c.read_plan.ensures.only.told told).same) stands)) c.raise_image.ensures.durable

pub returns-in-Ok-clause-moments : goal.returns-in-Ok-clause-moments
returns-in-Ok-clause-moments g c =
    let laws = g.met.D.Disk in
    IfOk-weaker c.raise_image.result _ _ (λ done is told.
    let whole = moved_more g.D.Disk laws.falls c.args.disk c.read_plan.new.disk done.0 c.read_plan.ensures.only is in
    (whole.told told).images) c.raise_image.ensures.moved

pub returns-in-Ok-clause-moments_err : goal.returns-in-Ok-clause-moments_err
returns-in-Ok-clause-moments_err g c =
    let laws = g.met.D.Disk in
    IfErr-weaker c.raise_image.result _ _ (λ err is told.
    let whole = moved_more g.D.Disk laws.falls c.args.disk c.read_plan.new.disk err.0 c.read_plan.ensures.only is in
    (whole.told told).images) c.raise_image.ensures.moved_err

pub returns-in-Ok-clause-only_read_err : goal.returns-in-Ok-clause-only_read_err
returns-in-Ok-clause-only_read_err g c =
    let laws = g.met.D.Disk in
    IfErr-weaker c.raise_image.result _ _ (λ err is no_fault. elim is [
      | inl fault ↦ absurd (no_fault fault)
      | inr only ↦ only_more g.D.Disk laws.falls c.args.disk c.read_plan.new.disk err.0 c.read_plan.ensures.only only
    ]) c.raise_image.ensures.only_read_err

pub returns-in-Err-clause-moments_err : goal.returns-in-Err-clause-moments_err
returns-in-Err-clause-moments_err g c = λ told m stands x left. inl ((c.read_plan.ensures.only.told told).moments x left)
