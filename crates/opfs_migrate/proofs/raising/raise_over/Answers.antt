use Rattle.std.proofs.Common.{◌≡◌, sym, ◌∙◌, ap, subst, Some}
use Rattle.opfs_machine.specs.Openings.{Map}
use Rattle.opfs_journal.specs.Format.{Stored, records_of}
use Rattle.opfs_image.specs.Filling.{Stands, StandsOld}
use Rattle.opfs_journal.specs.Seen.{one_record}
use Rattle.opfs_migrate.proofs.Areas.{planned_map, planned_stands, planned_files}
use Rattle.opfs_migrate.proofs.Moves.{content_new}
use Rattle.opfs_migrate.proofs.raising.raise_over.Goals as goal

pub returns-in-Ok-clause-stands : goal.returns-in-Ok-clause-stands
returns-in-Ok-clause-stands g c = λ told.
    let laws = g.met.D.Disk in
    let plan = c.args.plan in
    let k = c.args.journal in
    let before = g.D.Disk.content k.disk in
    let after = g.D.Disk.content c.rule.new.journal.disk in
    let planned = c.requires.planned told in
    let m = planned_map before plan.geometry plan.files plan.body.items planned in
    let was = planned_stands before plan.geometry plan.files plan.body.items planned in
    let stored : records_of k.areas after ≡ Some (one_record 2 plan.body.items) =
    ap (λ d. records_of k.areas (g.D.Disk.content d)) (sym c.give_back.ensures.disk)
    ∙ ap (λ a. records_of a (g.D.Disk.content c.give_back.result)) (sym c.rule.ensures.areas_stay)
    ∙ c.give_back.ensures.records told c.in-Ok.ensures.sure
    ∙ ap (λ (x : Stored). Some x) (c.in-Ok.ensures.kept told) in
    record {
      map = m;
      was = was;
      is = subst (λ d. Stands (g.D.Disk.content d) m) (sym c.give_back.ensures.disk)
          (content_new g.D.Disk (laws.full told) (laws.whole told) plan.geometry plan.files plan.body.items k
          (record { areas = c.requires.areas; planned = planned; records = c.requires.records told; one_image = c.requires.one_image told })
          c.rule.new.journal.disk c.rule.ensures.moved.length (c.rule.ensures.outside told) stored m was);
      counted = planned_files before plan.geometry plan.files plan.body.items planned;
    }

pub returns-in-Ok-clause-durable : goal.returns-in-Ok-clause-durable
returns-in-Ok-clause-durable g c =
    subst (λ d. g.D.Disk.tells → (m : Map) → StandsOld (g.D.Disk.content c.args.journal.disk) m → (x : _) → g.D.Disk.since d (g.D.Disk.moment d) x → Stands x m) (sym c.give_back.ensures.disk) c.in-Ok.ensures.durable
