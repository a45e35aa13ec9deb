use Rattle.std.proofs.Common.{ap, ◌∙◌, arith}
use Rattle.opfs_hall.specs.History.{Onward}
use Rattle.opfs_hall.proofs.Owned.{onward_stays}
use Rattle.opfs_hall.proofs.Looks.{looks_kept}
use Rattle.opfs_hall.proofs.steps.wait.Goals as goal

pub load-serving-requires : goal.load-serving-requires
load-serving-requires g c = let same = c.loop.invariant.1 in (
  c.loop.invariant.0.0 ∙ c.requires.table.0,
  let words = c.requires.table.1.0 in omega arith,
  looks_kept g.V.Chronicle.opening g.V.Chronicle.entries g.V.Chronicle.owner (Onward g.V.Chronicle.entries g.V.Chronicle.goes_on) (onward_stays g.V.Chronicle.entries g.V.Chronicle.goes_on g.V.Chronicle.stays) _ _ _ _ _ c.requires.waits.0
      (ap (λ m. m.0.ticket) same ∙ c.requires.waits.1)
      (ap (λ m. m.0.inside) same ∙ c.requires.outside.0)
      (ap (λ m. m.1) same ∙ c.requires.outside.1),
)
