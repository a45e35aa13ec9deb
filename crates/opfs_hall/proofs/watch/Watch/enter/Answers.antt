use Rattle.std.proofs.Common.{List, subst}
use Rattle.opfs_hall.specs.History.{GrowsByOthers}
use Rattle.opfs_hall.proofs.watch.Watch.enter.Goals as goal

pub returns-clause-grows : goal.returns-clause-grows
returns-clause-grows g c =
    subst (λ (base : List g.row.V-Entry.Denot). GrowsByOthers g.V.Chronicle.owner 0 base (g.V.Chronicle.entries c.turn_of.result.value)) (λ i. (c.self.view_is i).pass.base) c.turn_of.ensures.grows
