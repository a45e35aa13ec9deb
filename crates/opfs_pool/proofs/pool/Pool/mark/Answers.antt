use Rattle.std.proofs.Common.{ap, sym, ◌∙◌}
use Rattle.opfs_pool.specs.Shares.{held}
use Rattle.opfs_pool.proofs.Sums.{held_mark}
use Rattle.opfs_pool.proofs.pool.Pool.mark.Goals as goal

pub invariant_of-self : goal.invariant_of-self
invariant_of-self c =
    let same = ap held c.mark_share.ensures ∙ held_mark c.self.inside.shares.entries c.args.key.now c.args.candidate (rw (← c.self.view_is) at c.requires) in
    (c.self.invariant.0 ∙ sym same, c.self.invariant.1)

pub returns-clause-held : goal.returns-clause-held
returns-clause-held c =
    rw (← c.self.view_is) (ap held c.mark_share.ensures ∙ held_mark c.self.inside.shares.entries c.args.key.now c.args.candidate (rw (← c.self.view_is) at c.requires))
