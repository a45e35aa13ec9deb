use Rattle.std.proofs.Common.{◌<◌, length, sym, subst, ap, ◌∙◌}
use Rattle.std.specs.List.{AllByRecursion}
use Rattle.opfs_blocks.specs.Sets.{blocks_of}
use Rattle.opfs_space.proofs.Counting.{taken_below}
use Rattle.opfs_space.proofs.space.Space.allot.Goals as goal

pub mark-requires : goal.mark-requires
mark-requires c =
    subst (AllByRecursion (λ b. b < length c.self.inside.own)) (sym (ap blocks_of c.deref.ensures.value ∙ c.if-not-allot.ensures.least))
    (taken_below c.self.inside.used c.args.n (length c.self.inside.own) (sym c.self.invariant.0))
