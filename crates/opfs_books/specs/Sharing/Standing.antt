-- What stands ready for a call of the shared state. This project's own.
use Rattle.std.specs.Prelude.{ℕ, Option}
use Rattle.opfs_base.specs.Places.{Place}
use Rattle.opfs_state_rows.specs.Standing.Seen.{Prepared}

-- What is prepared in the store; the place that the call changes, in memory of its own; and what it adds to the charge.
pub record Standby : Type 0 where
  pub prepared : Prepared
  pub target : Option Place
  pub growth : ℕ
