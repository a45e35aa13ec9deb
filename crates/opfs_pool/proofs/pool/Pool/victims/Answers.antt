use Rattle.std.proofs.Common.{◌+◌, ◌≤◌, ℕ, List, Some, sum_by, sym, ap, ◌∙◌, arith}
use Rattle.opfs_pool.specs.Shares.{held}
use Rattle.opfs_pool.specs.Victims.{Candidates, candidates}
use Rattle.opfs_pool.proofs.Fronts.{lacks, is_none-lacks, none_lacking}
use Rattle.opfs_pool.proofs.pool.Pool.victims.Goals as goal

pub returns-then-room-clause-units : goal.returns-then-room-clause-units
returns-then-room-clause-units c =
    let fits : held c.args.self.now.shares + c.args.need ≤ c.args.self.now.size = c.room.ensures.0 c.if-room.true in
    ap (λ (units : List (List ℕ)). Some units) (c.from_vec.ensures ∙ c.new.ensures.items) ∙ sym (none_lacking _ (omega (arith, fits)) (candidates c.args.caller.now c.args.uses.now c.args.self.now.shares))

pub returns-clause-none : goal.returns-clause-none
returns-clause-none c =
    let blocks = ap (λ (es : Candidates). sum_by (λ e. e.1) es) c.in_ok-sorted.ensures in
    rw (← c.self.view_is) (
      (λ none. omega (arith, blocks, c.self.invariant.0, c.self.invariant.1, c.saturating_sub-lacking.ensures, lacks c.in_ok-units.units c.saturating_sub-lacking.result c.in_ok-sorted.sorted.entries c.in_ok-units.ensures none)),
      (λ few. is_none-lacks c.in_ok-units.units c.saturating_sub-lacking.result c.in_ok-sorted.sorted.entries c.in_ok-units.ensures (omega (arith, blocks, c.self.invariant.0, c.self.invariant.1, c.saturating_sub-lacking.ensures))),
    )
