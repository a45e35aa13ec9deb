-- What clauses see of a store that tells its history.
use base.Fml.{GName}
use Rattle.opfs_telling.specs.declared.telling.Progress.{Progress}

-- The store, the name of the reference to the sink, how the sink was at the beginning, how it is now, and how far it was told.
pub record TellerSeen (S K : Type 0) : Type 0 where
  pub store : S
  pub name : GName
  pub begun : K
  pub sink : K
  pub progress : Progress
