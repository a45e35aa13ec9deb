-- Which call stands at the front of a transcript. This project's own.
use Rattle.std.specs.Prelude.{◌≡◌, ℕ, ◌+◌, ◌<◌, ◌≤◌, true, false, List, ◌++◌, drop, length, Option, Some}
use Rattle.opfs_base.specs.Texts.{Text}
use Rattle.opfs_machine.specs.declared.own.Own.{Own}
use Rattle.opfs_machine.specs.declared.state.State.{State}
use Rattle.opfs_machine.specs.Agents.{agent_of}
use Rattle.opfs_machine.specs.Histories.{may_enter}
use Rattle.opfs_print.specs.Lines.{line_of}
use Rattle.opfs_rulings.specs.Known.{IsAgent}
use Rattle.opfs_script_run.specs.Runs.Running.{is_wait}
use Rattle.opfs_transcripts.specs.Told.Goings.{Going, asked}
use Rattle.opfs_transcripts.specs.Told.Turns.{HasTurn}
use Rattle.opfs_judge.specs.declared.asking.Asking.{Asking}
use Rattle.opfs_judge.specs.Players.{going_at}

-- An agent's run asks for this call next, and it may have an entry.
pub record IsAsking (s : State Text Own) (goings : List Going) (text : Text) (a : Asking) : Type 0 where
  pub within : a.index < length goings
  pub front : a.front ≤ length text
  pub asks : asked (going_at goings a.index) ≡ Some (a.number, a.op)
  pub agent : IsAgent s (a.index + 1)
  pub live : (agent_of s (a.index + 1)).live ≡ true
  pub fitting : may_enter s (a.index + 1) a.op ≡ true
  pub moves : is_wait a.op ≡ false

-- A group at a text's front is of this call.
pub record IsAskedBy {s : State Text Own} {goings : ℕ → Going} (text : Text) (h : HasTurn s goings text) (found : Option Asking) : Type 0 where
  pub asking : Asking
  pub is : found ≡ Some asking
  pub agent : h.turn.entry.agent ≡ asking.index + 1
  pub number : h.turn.entry.number ≡ asking.number
  pub op : h.turn.entry.op ≡ asking.op
  pub evictions : length h.turn.gone ≡ asking.evictions
  pub told : drop asking.front text ≡ line_of h.turn.entry ++ h.more
