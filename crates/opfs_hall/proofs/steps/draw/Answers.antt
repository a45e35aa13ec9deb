use Rattle.std.proofs.Common.{arith}
use Rattle.opfs_hall.specs.History.{Onward}
use Rattle.opfs_hall.proofs.Tickets.{draws_kept}
use Rattle.opfs_hall.proofs.steps.draw.Goals as goal

pub fetch_add-requires : goal.fetch_add-requires
fetch_add-requires g c = (
  c.requires.table.0,
  let words = c.requires.table.1.0 in omega arith,
  draws_kept g.V.Chronicle.opening g.V.Chronicle.entries g.V.Chronicle.owner (Onward g.V.Chronicle.entries g.V.Chronicle.goes_on) _ _ _ _ _ c.requires.idle.0 c.requires.idle.1 c.requires.idle.2,
)
