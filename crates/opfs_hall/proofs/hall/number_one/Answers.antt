use Rattle.std.proofs.Common.{rules, arith}
use Rattle.opfs_hall.specs.History.{Onward}
use Rattle.opfs_hall.proofs.Seats.{splits_kept}
use Rattle.opfs_hall.proofs.hall.number_one.Goals as goal

pub split_seat-rest-requires : goal.split_seat-rest-requires
split_seat-rest-requires g c = (
  search rules,
  let words = c.hall.invariant.0 in omega arith,
  splits_kept g.V.Chronicle.opening g.V.Chronicle.entries g.V.Chronicle.owner (Onward g.V.Chronicle.entries g.V.Chronicle.goes_on) _ _ _ _,
)
