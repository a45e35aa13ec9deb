-- What the lines of each agent begin with. This project's own.
use Rattle.std.specs.Prelude.{◌≡◌, ℕ, ◌+◌, ◌<◌, List, [], ◌∷◌, ◌++◌, decimal, length}
use Rattle.std.proofs.Common.{get_or}
use Rattle.opfs_base.specs.Texts.{Text}

abbrev pub front_of : ℕ → Text
front_of number = decimal number ++ 46 ∷ []

-- The first agent has the number 1.
pub record AreFronts (count : ℕ) (fronts : List Text) : Type 0 where
  pub many : length fronts ≡ count
  pub each : (i : ℕ) → i < count → get_or fronts i [] ≡ front_of (i + 1)
