use Rattle.std.proofs.Common.{◌≡◌, filter, drop}
use Rattle.opfs_base.specs.Places.{is_within}
use Rattle.opfs_machine.specs.Rows.{first_locked}
use Rattle.opfs_rulings.proofs.removals.first_locked.Given as goal

abbrev pub invariant-loop-entry : goal.invariant-loop-entry
invariant-loop-entry l = first_locked (filter (λ e. is_within l.place e.0) l.rows) ≡ first_locked (filter (λ e. is_within l.place e.0) (drop l.entry-index l.rows))
