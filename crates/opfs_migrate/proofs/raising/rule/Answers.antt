use Rattle.std.proofs.Common.{◌≡◌, inr, ◌∙◌}
use Rattle.std.proofs.lemmas.Result.{on_ok_weaker}
use Rattle.opfs_migrate.proofs.Moves.{format_is, moved_by, durable_by}
use Rattle.opfs_migrate.proofs.raising.rule.Goals as goal

pub returns-then-format-ne1-clause-untold : goal.returns-then-format-ne1-clause-untold
returns-then-format-ne1-clause-untold g c = inr (inr (λ told.
    let f : c.args.journal.now.format ≡ 1 =
    format_is g.D.Disk c.args.plan.now.geometry c.args.plan.now.files c.args.plan.now.body.items c.args.journal.now
    (record { areas = c.requires.areas; planned = c.requires.planned told; records = c.requires.records told; one_image = c.requires.one_image told }) in
    c.if-format-ne1.true (c.format.ensures.value ∙ f)))

pub returns-clause-moved : goal.returns-clause-moved
returns-clause-moved g c =
    let laws = g.met.D.Disk in
    let tried = c.write_over.ensures.tried in
    moved_by g.D.Disk laws.falls laws.full laws.whole
    c.args.plan.now.geometry c.args.plan.now.files c.args.plan.now.body.items c.deref.result.now c.args.journal.now c.reserve.new.self c.write_over.new.journal.disk c.reserve.ensures.same c.deref.ensures.value
    (λ told. record { areas = c.requires.areas; planned = c.requires.planned told; records = c.requires.records told; one_image = c.requires.one_image told })
    tried.stays.length tried.later (λ told. (tried.told told).time) (λ told. (tried.told told).moments)

pub returns-clause-durable : goal.returns-clause-durable
returns-clause-durable g c =
    let laws = g.met.D.Disk in
    on_ok_weaker c.write_over.result (λ stored. durable_by g.D.Disk laws.falls laws.full laws.whole
    c.args.plan.now.geometry c.args.plan.now.files c.args.plan.now.body.items c.deref.result.now c.args.journal.now c.reserve.new.self c.write_over.new.journal.disk c.reserve.ensures.same c.deref.ensures.value
    (λ told. record { areas = c.requires.areas; planned = c.requires.planned told; records = c.requires.records told; one_image = c.requires.one_image told })
    c.write_over.ensures.tried.stays.length (λ told. (stored.told told).durable)) c.write_over.ensures.stored
