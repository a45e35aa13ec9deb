-- What agents leave in a hall of marks.
use Rattle.std.specs.Prelude.{◌≡◌, ◌≢◌, ℕ, zero, suc, Bool, true, false, List, [], ◌∷◌, ◌++◌, map, All, Contains}
use Rattle.opfs_hall.specs.History.{owned}
use Rattle.opfs_hall.specs.Seen.{HallSeen, PassSeen}
use Rattle.opfs_hall_tests.specs.declared.marks.Mark.{Mark}
use Rattle.opfs_hall_tests.specs.declared.marks.Start.{Start}

abbrev pub Seen : Type 0
Seen = PassSeen Start Mark

abbrev pub mark : ℕ → ℕ → Mark
mark agent count = record { agent = agent; count = count }

-- the marks of an agent's first turns
abbrev pub marks_of : ℕ → ℕ → List Mark
marks_of agent zero = []
marks_of agent (suc turns) = marks_of agent turns ++ mark agent turns ∷ []

-- an agent's own marks in a list
abbrev pub own_marks : ℕ → List Mark → List Mark
own_marks agent list = owned (λ m. m.agent) agent list

-- the agent's own marks in a list are those of its first turns
abbrev pub HasRun : ℕ → ℕ × List Mark → Type 0
HasRun turns p = own_marks p.0 p.1 ≡ marks_of p.0 turns

-- nothing but the list that it has seen changes
abbrev pub IsSamePass : Seen → Seen → Type 0
IsSamePass old new = new ≡ record old { base = new.base }

-- the pass of an agent that has not entered yet
pub record IsReady (of : HallSeen Start) (pass : Seen) : Type 0 where
  pub hall : pass.hall ≡ of
  pub agent : pass.agent ≢ 0
  pub base : pass.base ≡ []
  pub ended : pass.ended ≡ []
  pub idle : pass.busy ≡ false

-- the numbers and bases of a pass and of those that were joined into it
abbrev pub pairs : Seen → List (ℕ × List Mark)
pairs pass = (pass.agent, pass.base) ∷ pass.ended

-- all these passes were joined into one; where each agent made all its turns, its marks are those of these turns
pub record HasRunAll (of : HallSeen Start) (turns : ℕ) (passes : List Seen) (pass : Seen) (complete : Bool) : Type 0 where
  pub hall : pass.hall ≡ of
  pub agent : pass.agent ≢ 0
  pub idle : pass.busy ≡ false
  pub named : (k : ℕ) → Contains (map (λ p. p.agent) passes) k → Contains (map (λ p. p.0) (pairs pass)) k
  pub own : complete ≡ true → All (HasRun turns) (pairs pass)
