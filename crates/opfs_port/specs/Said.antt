-- What is said at a port. This project's own.
use Rattle.std.specs.Prelude.{◌≡◌, ℕ, List, [], ◌∷◌, ◌++◌}

-- A line that was heard, or one that was told, with what stood when it went out.
pub data Said (T : Type 0) : Type 0 where
  heard : List ℕ → Said T
  told : List ℕ → T → Said T

-- A line came in: the next of those that were to come is the last that was said.
pub record CameIn {T : Type 0} (line : List ℕ) (said_old said_new : List (Said T)) (rest_old rest_new : List (List ℕ)) : Type 0 where
  pub said : said_new ≡ said_old ++ heard line ∷ []
  pub rest : rest_old ≡ line ∷ rest_new

-- A line went out: it is the last that was said.
abbrev pub WentOut : {T : Type 0} → List ℕ → T → List (Said T) → List (Said T) → Type 0
WentOut line at said_old said_new = said_new ≡ said_old ++ told line at ∷ []
