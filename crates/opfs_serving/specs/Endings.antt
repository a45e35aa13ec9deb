-- What the end of an agent leaves. This project's own.
use Rattle.std.specs.Prelude.{◌≡◌, ℕ, Bool, true, List, [], ◌∷◌, ◌++◌}
use Rattle.opfs_hall.specs.Seen.{HallSeen, WatchSeen}
use Rattle.opfs_hist.specs.declared.entry.Entry.{Entry}
use Rattle.opfs_runner.specs.Runs.{HasEntries}
use Rattle.opfs_script.specs.Scripts.{Asked}
use Rattle.opfs_script_run.specs.Runs.Running.{entries_of}
use Rattle.opfs_serving.specs.Lines.{has_end}
use Rattle.opfs_serving.specs.Seats.{EndsAt, SeatSeen}
use Rattle.opfs_turns.specs.Agents.{AgentSeen}

-- The end of an agent is in a list behind these entries.
abbrev pub EndsBehind : List Entry → ℕ → List Entry → Type 0
EndsBehind seen k base = (rest : List Entry) × (base ≡ seen ++ rest) × (has_end k rest ≡ true)

-- The owner's pass has collected the number and the list of an agent, whose entries are those of its script, with its end behind all that the pass had
-- seen.
pub record HasLeft {T O : Type 0} (list : T → List Entry) (tells : Type 0) (of : HallSeen O) (x : SeatSeen O) (a : AgentSeen O) (before after : WatchSeen O Entry T) : Type 0 where
  pub base : List Entry
  pub last : after.last ≡ before.last
  pub pass : after.pass ≡ record before.pass { base = base; ended = before.pass.ended ++ (a.pass.agent, base) ∷ [] }
  pub entries : (k : ℕ) (asked : Asked) (whole : Bool) → EndsAt tells of k asked whole x a → HasEntries asked whole (entries_of k base)
  pub over : EndsBehind (list before.last) a.pass.agent base
