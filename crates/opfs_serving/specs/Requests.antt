-- What a line asks of the agents of a conversation, or why not, by their seats. This project's own.
use Rattle.std.specs.Prelude.{◌≡◌, ℕ, suc, ◌+◌, ◌<◌, ◌≤◌, List, length, Option, Some, None, slice_get, Ok, Err}
use Rattle.opfs_base.specs.Texts.{Text}
use Rattle.opfs_hall.specs.History.{IsPrefix}
use Rattle.opfs_hist.specs.declared.entry.Entry.{Entry}
use Rattle.opfs_script.specs.Lines.{asked_by, named_agent, IsBounded}
use Rattle.opfs_script.specs.declared.lines.Asking.{Asking}
use Rattle.opfs_script.specs.declared.refusal.ScriptRefusal.{ScriptRefusal}
use Rattle.opfs_script.specs.declared.refusal.ScriptRefusal.TheVariants as script
use Rattle.opfs_turns.specs.Agents.{AgentSeen}
use Rattle.opfs_serving.specs.Lines.{Names, most_bytes, told_as}
use Rattle.opfs_serving.specs.Seats.{SeatSeen}
use Rattle.opfs_serving.specs.declared.refusal.LineRefusal.{LineRefusal}
use Rattle.opfs_serving.specs.declared.refusal.LineRefusal.TheVariants as line
use Rattle.opfs_serving.specs.declared.requests.Trouble.{Trouble}
use Rattle.opfs_serving.specs.declared.requests.Trouble.TheVariants as trouble

-- The agent of a seat is there, awaits nothing, and has room for a step.
pub record IsFree {O : Type 0} (x : SeatSeen O) : Type 0 where
  pub agent : AgentSeen O
  pub there : x.agent ≡ Some agent
  pub free : x.awaits ≡ None
  pub room : agent.entries + length x.rows ≤ 59900000

-- It has none, since it has more entries and rows.
pub record IsFull {O : Type 0} (x : SeatSeen O) : Type 0 where
  pub agent : AgentSeen O
  pub there : x.agent ≡ Some agent
  pub free : x.awaits ≡ None
  pub many : 59900000 < agent.entries + length x.rows

-- It awaits a tag.
pub record IsAwaiting {O : Type 0} (x : SeatSeen O) : Type 0 where
  pub agent : AgentSeen O
  pub there : x.agent ≡ Some agent
  pub tag : Text
  pub awaits : x.awaits ≡ Some tag

-- What keeps the agent of the seat at a place from being asked, if anything does.
abbrev pub IsHeldBack : {O : Type 0} → ℕ → SeatSeen O → Option Trouble → Type 0
IsHeldBack place x None = IsFree x
IsHeldBack place x (Some (trouble.Refused line.Ended)) = x.agent ≡ None
IsHeldBack place x (Some (trouble.Refused line.TooMany)) = IsFull x
IsHeldBack place x (Some (trouble.Waits at)) = (at ≡ place) × IsAwaiting x
IsHeldBack place x found = ⊥

-- A line names the agent at a place, with this behind its number.
pub record IsOf {O : Type 0} (text : Text) (seats : List (SeatSeen O)) (place : ℕ) (x : SeatSeen O) (rest : Text) : Type 0 where
  pub there : slice_get seats place ≡ Some x
  pub names : Names (length seats) text (suc place) rest

-- A line asks this of the agent at a place, who is free, as its next step.
pub record IsRequest {O : Type 0} (text : Text) (seats : List (SeatSeen O)) (place : ℕ) (asking : Asking) : Type 0 where
  pub seat : SeatSeen O
  pub rest : Text
  pub at : IsOf text seats place seat rest
  pub free : IsFree seat
  pub asks : asked_by (suc place) free.agent.number rest ≡ Ok asking
  pub bounded : IsBounded asking

-- Why a line is refused, by the seats of its agents. One that awaits has then seen what the owner's pass had.
pub data IsRefusedAt {O : Type 0} (seen : List Entry) (text : Text) (seats : List (SeatSeen O)) : LineRefusal → Type 0 where
  long : most_bytes < length text → IsRefusedAt seen text seats line.TooMany
  nobody : named_agent (length seats) text ≡ None → IsRefusedAt seen text seats line.NoAgent
  unread : (place : ℕ) (x : SeatSeen O) (rest : Text) (free : IsFree x) (why : ScriptRefusal) (r : LineRefusal) → IsOf text seats place x rest
      → asked_by (suc place) free.agent.number rest ≡ Err why → told_as why ≡ Some r → IsRefusedAt seen text seats r
  waiting : (place : ℕ) (x : SeatSeen O) (rest : Text) (awaits : IsAwaiting x) → IsOf text seats place x rest → IsPrefix seen awaits.agent.pass.base → IsRefusedAt seen text seats line.Waiting
  ended : (place : ℕ) (x : SeatSeen O) (rest : Text) → IsOf text seats place x rest → x.agent ≡ None → IsRefusedAt seen text seats line.Ended
  too_many : (place : ℕ) (x : SeatSeen O) (rest : Text) → IsOf text seats place x rest → IsFull x → IsRefusedAt seen text seats line.TooMany

-- How the refusal of a step is told.
abbrev pub IsTrouble : ScriptRefusal → Trouble → Type 0
IsTrouble why (trouble.Refused r) = told_as why ≡ Some r
IsTrouble why (trouble.Waits place) = ⊥
IsTrouble why trouble.NoMemory = why ≡ script.NoMemory

-- A line is refused for a cause; or its agent awaits; or memory was wanting.
abbrev pub AsksNothing : {O : Type 0} → List Entry → Text → List (SeatSeen O) → Trouble → Type 0
AsksNothing seen text seats (trouble.Refused r) = IsRefusedAt seen text seats r
AsksNothing seen text seats (trouble.Waits place) = (x : SeatSeen _) × (rest : Text) × IsOf text seats place x rest × IsAwaiting x
AsksNothing seen text seats trouble.NoMemory = Unit {0}
