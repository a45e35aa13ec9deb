-- What is seen of an agent in a conversation, and how far its script is. This project's own.
use Rattle.std.specs.Prelude.{◌≡◌, ℕ, suc, ◌+◌, ◌≤◌, Bool, true, false, List, [], ◌∷◌, ◌++◌, length, map, All, Contains, Option, Some, None, slice_get}
use Rattle.opfs_base.specs.Texts.{Text}
use Rattle.opfs_hall.specs.Seen.{HallSeen}
use Rattle.opfs_hist.specs.declared.entry.Entry.{Entry}
use Rattle.opfs_machine.specs.Agents.{waits_for}
use Rattle.opfs_runner.specs.AgentRows.Tables.{HasTable, kinds_of}
use Rattle.opfs_runner.specs.Ending.{Closes}
use Rattle.opfs_runner.specs.RunLaws.Agreeing.{Agrees}
use Rattle.opfs_runner.specs.RunLaws.Kinds.{open_rows}
use Rattle.opfs_runner.specs.Runs.{HasEntries}
use Rattle.opfs_runner.specs.Stepping.{own_entries}
use Rattle.opfs_runner.specs.declared.agent_rows.agent_row.AgentRow.{AgentRow}
use Rattle.opfs_script.specs.Limits.{is_origin_key}
use Rattle.opfs_script.specs.Scripts.{Asked}
use Rattle.opfs_script.specs.declared.step.Step.{Step}
use Rattle.opfs_script.specs.declared.step.Step.TheVariants as step
use Rattle.opfs_script_run.specs.Runs.Cuts.{Cuts}
use Rattle.opfs_script_run.specs.Runs.Running.{entries_of}
use Rattle.opfs_script_run.specs.declared.runs.hand.Hand.{Hand}
use Rattle.opfs_turns.specs.Agents.{AgentSeen, IsAgent}

-- An agent, None once it has ended; its rows; what its variables name; and the tag that it awaits.
pub record SeatSeen (O : Type 0) : Type 0 where
  pub agent : Option (AgentSeen O)
  pub rows : List AgentRow
  pub hand : Hand
  pub awaits : Option Text

-- Where it awaits a tag, its agent waits for that.
abbrev pub HasBegunToWait : {O : Type 0} → SeatSeen O → Type 0
HasBegunToWait {O} x = (a : AgentSeen O) (tag : Text) → x.agent ≡ Some a → x.awaits ≡ Some tag → waits_for a.waiting tag ≡ true

-- A script of other steps.
abbrev pub with_steps : Asked → List Step → Asked
with_steps asked steps = record asked { steps = steps }

-- The step that is not answered yet.
abbrev pub open_step : Option Text → List Step
open_step None = []
open_step (Some tag) = step.Await tag ∷ []

-- A step of which the agent awaits the answer is an await.
abbrev pub IsLeftOpen : Step → Option Text → Type 0
IsLeftOpen s None = Unit {0}
IsLeftOpen s (Some tag) = s ≡ step.Await tag

-- How many entries and rows an agent may have beside the most with which it is asked, by whether it awaits, and waits for that already.
abbrev pub slack : Option Text → Bool → ℕ
slack None waited = 3
slack (Some tag) false = 0
slack (Some tag) true = 1

-- An agent has made these steps of what it was asked for, and awaits the last or none: whatever it is asked for next, what it has entered
-- begins that script.
pub record IsMidway {O : Type 0} (tells : Type 0) (of : HallSeen O) (k : ℕ) (asked : Asked) (a : AgentSeen O) (rows : List AgentRow) (hand : Hand) (awaits : Option Text) : Type 0 where
  pub done : List Step
  pub waited : Bool
  pub steps : asked.steps ≡ done ++ open_step awaits
  pub cuts : (more : List Step) → Cuts (with_steps asked (asked.steps ++ more)) (own_entries a) hand a.number waited (length done) (open_step awaits ++ more)
  pub idle : awaits ≡ None → waited ≡ false
  pub waits : (tag : Text) → awaits ≡ Some tag → waited ≡ true → waits_for a.waiting tag ≡ true
  pub number : a.number ≡ length done + 1
  pub key : is_origin_key asked.key ≡ true
  pub hand_key : hand.key ≡ asked.key
  pub own_key : a.key ≡ asked.key
  pub agrees : Agrees hand (kinds_of rows)
  pub table : HasTable tells a rows
  pub few : a.entries + length rows ≤ 59900000 + slack awaits waited
  pub fewer : length rows ≤ length (own_entries a)
  pub pending : a.pending ≡ []
  pub kept : IsAgent tells a
  pub hall : a.pass.hall ≡ of
  pub agent : a.pass.agent ≡ k
  pub alone : a.pass.ended ≡ []

-- An agent may end: with the end of what it has open, its entries are those of its script, or of a front of it.
pub record MayEnd {O : Type 0} (tells : Type 0) (of : HallSeen O) (k : ℕ) (asked : Asked) (whole : Bool) (a : AgentSeen O) (rows : List AgentRow) : Type 0 where
  pub closes : Closes asked whole (own_entries a) a.number (open_rows 1 (kinds_of rows))
  pub table : HasTable tells a rows
  pub few : a.entries + length rows ≤ 60000000
  pub kept : IsAgent tells a
  pub hall : a.pass.hall ≡ of
  pub agent : a.pass.agent ≡ k
  pub alone : a.pass.ended ≡ []

-- The same of a seat.
abbrev pub IsAt : {O : Type 0} → Type 0 → HallSeen O → ℕ → Asked → SeatSeen O → AgentSeen O → Type 0
IsAt tells of k asked x a = IsMidway tells of k asked a x.rows x.hand x.awaits

abbrev pub EndsAt : {O : Type 0} → Type 0 → HallSeen O → ℕ → Asked → Bool → SeatSeen O → AgentSeen O → Type 0
EndsAt tells of k asked whole x a = MayEnd tells of k asked whole a x.rows

-- The seats of agents of a hall, in the order of their numbers, with the scripts that they were asked for: each that is there may end, and is midway
-- where no memory was wanting (`sound`); each other one has ended with its entries.
pub record AreSeated {O : Type 0} (tells : Type 0) (of : HallSeen O) (sound : Type 0) (whole : Bool) (scripts : List Asked) (seats : List (SeatSeen O)) (ended : List (ℕ × List Entry)) : Type 0 where
  pub count : length seats ≡ length scripts
  pub ends : (i : ℕ) (x : SeatSeen O) (a : AgentSeen O) (s : Asked) → slice_get seats i ≡ Some x → x.agent ≡ Some a → slice_get scripts i ≡ Some s → EndsAt tells of (suc i) s false x a
  pub midway : sound → (i : ℕ) (x : SeatSeen O) (a : AgentSeen O) (s : Asked) → slice_get seats i ≡ Some x → x.agent ≡ Some a → slice_get scripts i ≡ Some s → IsAt tells of (suc i) s x a
  pub gone : (i : ℕ) (x : SeatSeen O) → slice_get seats i ≡ Some x → x.agent ≡ None → Contains (map (λ p. p.0) ended) (suc i)
  pub ran : All (λ p. (i : ℕ) (x : SeatSeen O) (s : Asked) → p.0 ≡ suc i → slice_get seats i ≡ Some x → slice_get scripts i ≡ Some s → (x.agent ≡ None) × HasEntries s whole (entries_of p.0 p.1)) ended
