-- How a list of entries grows. `owner` says whose an entry is, and owner 0 is no agent.
use Rattle.std.specs.Prelude.{◌≡◌, ◌≢◌, ◌⊎◌, ℕ, nat_eq, List, ◌++◌, All, filter}

module _ {E : Type 0} where
  -- the list begins with the base
  abbrev pub IsPrefix : List E → List E → Type 0
  IsPrefix base list = (more : List E) × (list ≡ base ++ more)

  module _ (owner : E → ℕ) where
    -- the entries of one owner, in order
    abbrev pub owned : ℕ → List E → List E
    owned k list = filter (λ e. nat_eq (owner e) k) list

    -- the list is the base and entries of others; an agent 0 may be among these
    abbrev pub GrowsByOthers : ℕ → List E → List E → Type 0
    GrowsByOthers agent base list = (more : List E) × (list ≡ base ++ more) × (agent ≢ 0 → All (λ e. owner e ≢ agent) more)

    -- the list is the base and entries of this agent or of owner 0
    abbrev pub Adds : ℕ → List E → List E → Type 0
    Adds agent base list = (more : List E) × (list ≡ base ++ more) × All (λ e. (owner e ≡ agent) ⊎ (owner e ≡ 0)) more

    -- what a pass that ended had seen is a prefix of the list, and the list has no other entries of its agent
    abbrev pub HasEnded : List E → ℕ × List E → Type 0
    HasEnded list p = IsPrefix p.1 list × (owned p.0 list ≡ owned p.0 p.1)

-- a value goes on to another one, which has all that it had
abbrev pub Onward : {X E : Type 0} → (X → List E) → (X → X → Type 0) → X → X → Type 0
Onward entries goes x y = goes x y × IsPrefix (entries x) (entries y)
