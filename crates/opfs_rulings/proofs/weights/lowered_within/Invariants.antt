use Rattle.std.proofs.Common.{ℕ, ◌+◌, not, filter, sum_by, drop, IfSome}
use Rattle.opfs_base.specs.Places.{is_within}
use Rattle.opfs_rulings.specs.Tallies.{Count, row_weight, IsTallyOf}
use Rattle.opfs_rulings.proofs.weights.lowered_within.Given as goal

abbrev pub invariant-loop-entry : goal.invariant-loop-entry
invariant-loop-entry l = (rest : Count → ℕ) → IfSome l.initial.left (IsTallyOf (λ c. sum_by (row_weight c) l.rows + rest c))
    → IfSome l.left (IsTallyOf (λ c. sum_by (row_weight c) (filter (λ e. is_within l.place e.0) (drop l.entry-index l.rows)) + (sum_by (row_weight c) (filter (λ e. not (is_within l.place e.0)) l.rows) + rest c)))
