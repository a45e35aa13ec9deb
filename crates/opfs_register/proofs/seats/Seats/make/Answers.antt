use Rattle.std.proofs.Common.{ap, ◌∙◌}
use Rattle.std.specs.Prelude.{slice_get}
use Rattle.opfs_register.specs.Seating.{key_of}
use Rattle.opfs_register.proofs.Seated.{seated-begun}
use Rattle.opfs_register.proofs.seats.Seats.make.Goals as goal

pub invariant_of-result : goal.invariant_of-result
invariant_of-result c =
    seated-begun c.in_ok-items.items.items c.args.agents.items c.in_ok-uses.uses c.requires c.in_ok-items.ensures
    (λ at origin is. c.in_ok-uses.ensures.known at origin (ap (λ xs. key_of (slice_get xs at)) c.as_slice.ensures.value ∙ is))
