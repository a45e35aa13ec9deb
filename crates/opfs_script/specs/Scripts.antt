-- What a script says.
use Rattle.std.specs.Prelude.{ℕ, Bool, List, Option}
use Rattle.opfs_script.specs.declared.step.Step.{Step}

-- One agent's script: its origin's key, None where that is opaque; whether it has the grant `persistent-storage`;
-- and its steps.
pub record Asked : Type 0 where
  pub key : Option (List ℕ)
  pub grant : Bool
  pub steps : List Step
