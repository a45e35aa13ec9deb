use Rattle.std.proofs.Common.{ap, arith}
use Rattle.opfs_pool.specs.declared.pool.Share.{Share}
use Rattle.opfs_pool.specs.Shares.{held}
use Rattle.opfs_pool.proofs.Sums.{held_clear, share_at-le}
use Rattle.opfs_pool.proofs.pool.Pool.clear.Goals as goal

pub overflow_sub-self : goal.overflow_sub-self
overflow_sub-self c =
    let is = ap (λ (share : Share). share.blocks) c.share_at.ensures in
    omega (arith, is, c.self.invariant.0, share_at-le c.self.inside.shares.entries c.args.key.now)

pub invariant_of-self : goal.invariant_of-self
invariant_of-self c =
    let is = ap (λ (share : Share). share.blocks) c.share_at.ensures in
    let now = ap held c.set_share.ensures in
    let sum = held_clear c.self.inside.shares.entries c.args.key.now in
    (omega (arith, is, now, sum, c.self.invariant.0), omega (arith, c.self.invariant.0, c.self.invariant.1))

pub returns-clause-held : goal.returns-clause-held
returns-clause-held c = rw c.set_share.ensures (rw (← c.self.view_is) (held_clear c.self.inside.shares.entries c.args.key.now))
