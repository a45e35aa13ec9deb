use Rattle.std.proofs.Common.{List, sym, subst}
use Rattle.opfs_hall.specs.History.{GrowsByOthers}
use Rattle.opfs_hall.proofs.Lent.{placed-as}
use Rattle.opfs_hall.proofs.watch.Watch.begin.Goals as goal

pub returns-clause-grows : goal.returns-clause-grows
returns-clause-grows g c =
    subst (λ (v : g.row.V.Denot). GrowsByOthers g.V.Chronicle.owner 0 c.args.pass.base (g.V.Chronicle.entries v)) (sym c.of-last.ensures)
    (subst (λ (base : List g.row.V-Entry.Denot). GrowsByOthers g.V.Chronicle.owner 0 base (g.V.Chronicle.entries c.take-value.result)) c.into_place-seat.ensures.base
    (c.take-value.ensures.grows 0 (placed-as _ _ _ _ _ c.requires.own c.requires.owner c.into_place-seat.ensures.placed)))
