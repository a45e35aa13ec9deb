use Rattle.std.proofs.Common.{◌≡◌, false, sym, ap, ◌∙◌}
use Rattle.opfs_pool.specs.Shares.{held, has_share}
use Rattle.opfs_pool.proofs.Sums.{held_touch}
use Rattle.opfs_pool.proofs.pool.Pool.touch.Goals as goal

pub returns-clause-held : goal.returns-clause-held
returns-clause-held c =
    let absent : has_share c.self.inside.shares.entries c.in_ok-key.key ≡ false = rw c.in_ok-key.ensures (sym c.contains_key.ensures ∙ c.if-contains_key.false) in
    rw c.in_ok-insert.ensures.entries (rw (← c.self.view_is) (held_touch c.self.inside.shares.entries c.in_ok-key.key c.in_ok-insert.ensures.was_ordered absent))

pub invariant_of-self-2 : goal.invariant_of-self-2
invariant_of-self-2 c =
    let absent : has_share c.self.inside.shares.entries c.in_ok-key.key ≡ false = rw c.in_ok-key.ensures (sym c.contains_key.ensures ∙ c.if-contains_key.false) in
    (c.self.invariant.0 ∙ sym (ap held c.in_ok-insert.ensures.entries ∙ held_touch c.self.inside.shares.entries c.in_ok-key.key c.in_ok-insert.ensures.was_ordered absent), c.self.invariant.1)
