-- What running scripts leaves. This project's own.
use Rattle.std.specs.Prelude.{◌≡◌, ◌≢◌, ℕ, suc, ◌<◌, ◌≤◌, Bool, true, false, List, [], ◌∷◌, map, length, slice_get, All, Contains, Some}
use Rattle.opfs_hall.specs.Seen.{HallSeen, PassSeen}
use Rattle.opfs_hist.specs.declared.entry.Entry.{Entry}
use Rattle.opfs_turns.specs.Agents.{AgentSeen}
use Rattle.opfs_script_run.specs.Runs.Running.{IsCut, IsRun, entries_of}
use Rattle.opfs_script.specs.Scripts.{Asked}

-- Entries are those of a front of a script, as want of memory leaves it; and all of the script where it was run whole.
pub record HasEntries (asked : Asked) (whole : Bool) (es : List Entry) : Type 0 where
  pub cut : IsCut asked es
  pub run : whole ≡ true → IsRun asked es

-- An agent of a hall that has made no call, with the key of its script.
pub record IsReady {O : Type 0} (of : HallSeen O) (asked : Asked) (a : AgentSeen O) : Type 0 where
  pub hall : a.pass.hall ≡ of
  pub fresh : a.pass.base ≡ []
  pub pending : a.pending ≡ []
  pub ended : a.pass.ended ≡ []
  pub number : a.number ≡ 1
  pub entries : a.entries ≡ 0
  pub rows : a.rows ≡ 0
  pub key : a.key ≡ asked.key

-- A pass of an agent that has run its script: its own entries are the script's.
pub record HasRun {O : Type 0} (of : HallSeen O) (asked : Asked) (agent : ℕ) (pass : PassSeen O Entry) (whole : Bool) : Type 0 where
  pub hall : pass.hall ≡ of
  pub agent_is : pass.agent ≡ agent
  pub real : agent ≢ 0
  pub ended : pass.ended ≡ []
  pub idle : pass.busy ≡ false
  pub entries : HasEntries asked whole (entries_of agent pass.base)

-- As many agents as these scripts have first; the i-th has the number i, from 1, and is ready for the i-th script.
pub record IsReadyFor {O : Type 0} (of : HallSeen O) (scripts : List Asked) (agents : List (AgentSeen O)) : Type 0 where
  pub few : length agents ≤ length scripts
  pub each : (i : ℕ) (a : AgentSeen O) (s : Asked) → slice_get agents i ≡ Some a → slice_get scripts i ≡ Some s → (a.pass.agent ≡ suc i) × IsReady of s a

-- The numbers and lists of a pass and of those that were joined into it.
abbrev pub pairs : {O : Type 0} → PassSeen O Entry → List (ℕ × List Entry)
pairs pass = (pass.agent, pass.base) ∷ pass.ended

-- What an agent has entered is its own script's.
abbrev pub RanOf : List Asked → Bool → ℕ × List Entry → Type 0
RanOf scripts whole p = (i : ℕ) (s : Asked) → p.0 ≡ suc i → slice_get scripts i ≡ Some s → HasEntries s whole (entries_of p.0 p.1)

-- Of so many agents each is among these numbers and lists, and each has run its own script.
pub record AllRan (scripts : List Asked) (count : ℕ) (whole : Bool) (ps : List (ℕ × List Entry)) : Type 0 where
  pub named : (k : ℕ) → k < count → Contains (map (λ p. p.0) ps) (suc k)
  pub ran : All (RanOf scripts whole) ps

-- The passes of so many agents were joined into one, and each has run its own script.
pub record HasRunAll {O : Type 0} (of : HallSeen O) (scripts : List Asked) (count : ℕ) (pass : PassSeen O Entry) (whole : Bool) : Type 0 where
  pub hall : pass.hall ≡ of
  pub agent : pass.agent ≢ 0
  pub idle : pass.busy ≡ false
  pub all : AllRan scripts count whole (pairs pass)
