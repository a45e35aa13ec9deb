use Rattle.std.proofs.Common.{◌≡◌}
use Rattle.opfs_hall.specs.Turns.{IsSameSeat}
use Rattle.opfs_hall.proofs.steps.wait.Given as goal

-- the seat is as it was
abbrev pub invariant-loop : goal.invariant-loop
invariant-loop g l = IsSameSeat l.initial.place l.place × (l.place.me ≡ l.initial.place.me)
