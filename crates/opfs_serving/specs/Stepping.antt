-- What a step that was asked for leaves of its seat, and of the conversation. This project's own.
use Rattle.std.specs.Prelude.{◌≡◌, ℕ, false, List, [], ◌∷◌, ◌++◌, Some}
use Rattle.opfs_hall.specs.Seen.{HallSeen, WatchSeen}
use Rattle.opfs_hist.specs.declared.entry.Entry.{Entry}
use Rattle.opfs_script.specs.Scripts.{Asked}
use Rattle.opfs_script.specs.declared.step.Step.{Step}
use Rattle.opfs_serving.specs.Seats.{EndsAt, IsAt, IsLeftOpen, SeatSeen, with_steps}
use Rattle.opfs_serving.specs.Served.{Words}
use Rattle.opfs_serving.specs.Turns.{HasToldMore, HasTurned}
use Rattle.opfs_serving.specs.declared.progress.Progress.{Progress}
use Rattle.opfs_serving.specs.declared.progress.State.TheVariants as state
use Rattle.opfs_turns.specs.Agents.{AgentSeen}

-- A pass as it took note of a list.
abbrev pub noted : {T O : Type 0} → List Entry → WatchSeen O Entry T → WatchSeen O Entry T
noted base watch = record watch { pass = record watch.pass { base = base } }

-- The step was made, or its agent awaits; the owner's pass took note of all that the agent had seen then, and what was entered was told in a turn behind
-- that.
pub record HasMade {T O P : Type 0} (w : Words T O P) (of : HallSeen O) (s : Step) (old new : SeatSeen O) (before after : WatchSeen O Entry T) (port now : P) (p q : Progress) : Type 0 where
  pub base : List Entry
  pub at : (k : ℕ) (asked : Asked) (a : AgentSeen O) → old.agent ≡ Some a → IsAt w.reads of k asked old a
      → (b : AgentSeen O) × (new.agent ≡ Some b) × IsAt w.reads of k (with_steps asked (asked.steps ++ s ∷ [])) new b × (b.pass.base ≡ base)
  pub awaits : IsLeftOpen s new.awaits
  pub turned : HasTurned w.opening w.entries w.keeps w.goes of (noted base before) after
  pub told : HasToldMore w.entries w.tells w.said w.faults after.last port now p q

-- There was no memory for it: its agent may end, and nothing was told.
pub record HasMissed {T O P : Type 0} (w : Words T O P) (of : HallSeen O) (s : Step) (old new : SeatSeen O) (before after : WatchSeen O Entry T) (port now : P) (p q : Progress) : Type 0 where
  pub ends : (k : ℕ) (asked : Asked) (a : AgentSeen O) → old.agent ≡ Some a → IsAt w.reads of k asked old a
      → (b : AgentSeen O) × (new.agent ≡ Some b) × EndsAt w.reads of k (with_steps asked (asked.steps ++ s ∷ [])) false new b
  pub watch : after ≡ before
  pub port_is : now ≡ port
  pub progress : q ≡ record p { state = state.Short }
