use Rattle.std.proofs.Common.{Option, sym, ap, ◌∙◌}
use Rattle.std.specs.Ordering.{is_lt}
use Rattle.opfs_base.specs.Places.{Place}
use Rattle.opfs_dump.specs.Text.Limits.{is_behind}
use Rattle.opfs_dump.proofs.loading.Orders.{last_place, less_is}
use Rattle.opfs_dump.proofs.loading.following.is_behind.Goals as goal

pub returns-in-Some : goal.returns-in-Some
returns-in-Some c =
    c.eq.ensures
    ∙ (less_is c.compare_places.result
    ∙ (ap is_lt c.compare_places.ensures
    ∙ ap (λ (o : Option Place). is_behind o c.args.place.now) (sym (last_place c.args.rows.now c.in-Some.last.now (sym c.in-Some.ensures.value)))))
