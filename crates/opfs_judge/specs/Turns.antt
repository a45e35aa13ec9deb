-- What a judge finds in front of a transcript. This project's own.
use Rattle.std.specs.Prelude.{◌≡◌, ℕ, ◌+◌, ◌<◌, ◌≤◌, true, false, List, [], ◌∷◌, ◌++◌, map, fold, length, drop, slice_set}
use Rattle.opfs_base.specs.Texts.{Text}
use Rattle.opfs_hist.specs.declared.entry.Entry.{Entry}
use Rattle.opfs_hist.specs.declared.reply.Reply.{Reply}
use Rattle.opfs_machine.specs.declared.own.Own.{Own}
use Rattle.opfs_machine.specs.declared.state.State.{State}
use Rattle.opfs_machine.specs.Histories.{IsCall}
use Rattle.opfs_machine.specs.Runs.{Call, eviction}
use Rattle.opfs_machine.specs.Steps.{after_reply, evicted}
use Rattle.opfs_print.specs.Lines.{line_of, text_of}
use Rattle.opfs_script_run.specs.Runs.Running.{is_wait}
use Rattle.opfs_transcripts.specs.Told.Goings.{Going, going_on}
use Rattle.opfs_transcripts.specs.Told.Turns.{AreLines, Turned}
use Rattle.opfs_judge.specs.declared.asking.Asking.{Asking}
use Rattle.opfs_judge.specs.Players.{going_at, goings_of}

-- The entry of a call with an answer.
abbrev pub entry_with : Call → Reply → Entry
entry_with c answered = record { agent = c.agent; number = c.number; op = c.op; reply = answered; turn = true }

-- A call was entered, with what was cleared for it: the machine, or a disk that failed, answers it so.
pub record IsEnteredAs (s t : State Text Own) (c : Call) (group : List Entry) : Type 0 where
  pub gone : List Text
  pub answered : Reply
  pub call : IsCall s gone (entry_with c answered)
  pub state : t ≡ after_reply (fold evicted s gone) c.agent c.op answered
  pub told : group ≡ map eviction gone ++ entry_with c answered ∷ []

-- A text begins with the line of a call, for which so many units were cleared.
pub record IsToldCall (s : State Text Own) (c : Call) (evictions : ℕ) (text : Text) : Type 0 where
  pub gone : List Text
  pub many : length gone ≡ evictions
  pub answered : Reply
  pub more : Text
  pub call : IsCall s gone (entry_with c answered)
  pub begins : text ≡ line_of (entry_with c answered) ++ more

-- What an agent's run asks for.
abbrev pub call_asked : Asking → Call
call_asked a = record { agent = a.index + 1; number = a.number; op = a.op }

-- A text begins with a group of a call: its evictions, which have so many bytes, and its line.
pub record IsToldGroup (s : State Text Own) (c : Call) (evictions front : ℕ) (text : Text) : Type 0 where
  pub told : IsToldCall s c evictions (drop front text)
  pub begins : text ≡ text_of (map eviction told.gone ++ entry_with c told.answered ∷ []) ++ told.more

-- A call's group of so many bytes is entered, and its agent's run goes on.
pub record IsGroup (s t : State Text Own) (before after : List Going) (c : Call) (index : ℕ) (text : Text) (used : ℕ) : Type 0 where
  pub gone : List Text
  pub answered : Reply
  pub call : IsCall s gone (entry_with c answered)
  pub state : t ≡ after_reply (fold evicted s gone) c.agent c.op answered
  pub begins : text ≡ text_of (map eviction gone ++ entry_with c answered ∷ []) ++ drop used text
  pub long : used ≡ length (text_of (map eviction gone ++ entry_with c answered ∷ []))
  pub run : after ≡ slice_set before index (going_on (going_at before index) answered)

-- No unit that a call, which is no wait, clears has a line feed.
abbrev pub ClearsLines : State Text Own → Type 0
ClearsLines s = (gone : List Text) (e : Entry) → is_wait e.op ≡ false → IsCall s gone e → AreLines gone

-- One group of a text is read, of so many bytes.
pub record IsTurn (s t : State Text Own) (before after : List Going) (text : Text) (used : ℕ) : Type 0 where
  pub some : 0 < used
  pub within : used ≤ length text
  pub turned : ClearsLines s → Turned s t (goings_of before) (goings_of after) text (drop used text)
  pub many : length after ≡ length before
