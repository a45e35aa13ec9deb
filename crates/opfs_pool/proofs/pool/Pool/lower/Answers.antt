use Rattle.std.proofs.Common.{◌≡◌, ◌-◌, sym, ap, arith}
use Rattle.opfs_pool.specs.Shares.{Shares, share_at}
use Rattle.opfs_pool.proofs.Sums.{unchanged_share, lowered, share_at-le}
use Rattle.opfs_pool.proofs.pool.Pool.lower.Goals as goal

pub returns-then-n-eq0-clause-share : goal.returns-then-n-eq0-clause-share
returns-then-n-eq0-clause-share c =
    let zero : c.args.n ≡ 0 = grind (arith, c.if-n-eq0.true) in
    ap (λ (es : Shares). record c.args.self.now { shares = es }) (sym (unchanged_share c.args.self.now.shares c.args.key.now ((share_at c.args.self.now.shares c.args.key.now).blocks - c.args.n) (omega arith)))

pub overflow_sub-self : goal.overflow_sub-self
overflow_sub-self c = omega (arith, c.self.invariant.0, share_at-le c.self.inside.shares.entries c.args.key.now, rw (← c.self.view_is) at c.requires)

pub invariant_of-self : goal.invariant_of-self
invariant_of-self c =
    let is = lowered c.self.inside.shares.entries c.lower_share.new.shares.entries c.args.key.now c.args.n c.self.inside.count c.self.inside.size (rw (← c.self.view_is) at c.requires) c.lower_share.ensures in
    (omega (arith, is, c.self.invariant.0), omega (arith, c.self.invariant.0, c.self.invariant.1))

pub returns-clause-held : goal.returns-clause-held
returns-clause-held c =
    rw (← c.self.view_is)
    (lowered c.self.inside.shares.entries c.lower_share.new.shares.entries c.args.key.now c.args.n c.self.inside.count c.self.inside.size (rw (← c.self.view_is) at c.requires) c.lower_share.ensures)
