-- What stands ready beside the store. This project's own.
use Rattle.std.specs.Prelude.{ℕ, Option, Some, None}
use Rattle.opfs_base.specs.Places.{Place}
use Rattle.opfs_state.specs.declared.state.Ready.{Ready}

abbrev pub target_in : Option Ready → Option Place
target_in None = None
target_in (Some r) = r.target

abbrev pub growth_in : Option Ready → ℕ
growth_in None = 0
growth_in (Some r) = r.growth
