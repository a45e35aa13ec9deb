use Rattle.std.proofs.Common.{◌≡◌, ◌+◌, sym, ap, arith}
use Rattle.opfs_pool.specs.Shares.{Shares, share_at}
use Rattle.opfs_pool.proofs.Sums.{unchanged_share, raise_fits, raised}
use Rattle.opfs_pool.proofs.pool.Pool.raise.Goals as goal

pub returns-then-n-eq0-clause-share : goal.returns-then-n-eq0-clause-share
returns-then-n-eq0-clause-share c =
    let zero : c.args.n ≡ 0 = grind (arith, c.if-n-eq0.true) in
    ap (λ (es : Shares). record c.args.self.now { shares = es }) (sym (unchanged_share c.args.self.now.shares c.args.key.now ((share_at c.args.self.now.shares c.args.key.now).blocks + c.args.n) (omega arith)))

pub raise_share-requires : goal.raise_share-requires
raise_share-requires c =
    raise_fits c.self.inside.shares.entries c.self.inside.shares.entries c.args.key.now c.args.n c.self.inside.count c.self.inside.size c.self.invariant.0 c.self.invariant.1 (omega (arith, c.self.ranges))
    (rw (← c.self.view_is) at c.requires.room)

pub invariant_of-self : goal.invariant_of-self
invariant_of-self c =
    let is = raised c.self.inside.shares.entries c.raise_share.new.shares.entries c.args.key.now c.args.n c.self.inside.count c.self.inside.size (rw (← c.self.view_is) at c.requires.there) c.raise_share.ensures in
    (omega (arith, is, c.self.invariant.0), omega (arith, c.self.invariant.0, rw (← c.self.view_is) at c.requires.room))

pub returns-clause-held : goal.returns-clause-held
returns-clause-held c =
    rw (← c.self.view_is)
    (raised c.self.inside.shares.entries c.raise_share.new.shares.entries c.args.key.now c.args.n c.self.inside.count c.self.inside.size (rw (← c.self.view_is) at c.requires.there) c.raise_share.ensures)
