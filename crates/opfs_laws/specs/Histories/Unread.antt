-- Histories that may stand without the bytes that reads gave. This project's own.
use Rattle.std.specs.Prelude.{◌≡◌, ℕ, false, List, [], ◌∷◌, map, length, replicate, IsTrue}
use Rattle.opfs_hist.specs.declared.entry.Entry.{Entry}
use Rattle.opfs_hist.specs.declared.reply.Reply.{Reply}
use Rattle.opfs_hist.specs.declared.reply.Reply.TheVariants as reply
use Rattle.opfs_base.specs.Texts.{Text}
use Rattle.opfs_machine.specs.declared.own.Own.{Own}
use Rattle.opfs_machine.specs.declared.state.State.{State}
use Rattle.opfs_machine.specs.Agents.{agent_of}
use Rattle.opfs_machine.specs.Changes.{changes}
use Rattle.opfs_machine.specs.Histories.{may_enter, Legal, after_entry, state_after}
use Rattle.opfs_machine.specs.Openings.{Opening}
use Rattle.opfs_machine.specs.OwnRows.{is_local}
use Rattle.opfs_machine.specs.Steps.{step}
use Rattle.opfs_laws.specs.GoingOn.{ArePending}
use Rattle.opfs_laws.specs.Histories.Opened.{IsOpen}

-- A reply without the bytes that a read gave: as many zeros.
abbrev pub unread : Reply → Reply
unread (reply.Read bytes) = reply.Read (replicate (length bytes) 0)
unread r = r

abbrev pub unread_entry : Entry → Entry
unread_entry e = record e { reply = unread e.reply }

-- A history that is legal but for the bytes that reads gave, and wholly where the disk tells.
pub record IsTold (tells : Type 0) (o : Opening) (h : List Entry) : Type 0 where
  pub real : List Entry
  pub legal : Legal o real
  pub alike : map unread_entry h ≡ map unread_entry real
  pub told : tells → h ≡ real

-- The same of a history whose last group may not be whole yet.
pub record IsToldOpen (tells : Type 0) (o : Opening) (h : List Entry) : Type 0 where
  pub real : List Entry
  pub opened : IsOpen o real
  pub alike : map unread_entry h ≡ map unread_entry real
  pub told : tells → h ≡ real

-- A local call of the agent of a number that had no turn, with the machine's own answer but for the bytes of a read, and
-- with those too where the disk tells.
pub record IsPendingFor (tells : Type 0) (s : State Text Own) (k : ℕ) (e : Entry) : Type 0 where
  pub agent : e.agent ≡ k
  pub live : IsTrue (agent_of s e.agent).live
  pub fitting : IsTrue (may_enter s e.agent e.op)
  pub local : IsTrue (is_local s e.agent e.op)
  pub alike : unread e.reply ≡ unread (step s e.agent e.op).answered
  pub answered : tells → e.reply ≡ (step s e.agent e.op).answered
  pub turn : e.turn ≡ false

abbrev pub ArePendingFor : Type 0 → State Text Own → ℕ → List Entry → Type 0
ArePendingFor tells s k [] = Unit {0}
ArePendingFor tells s k (e ∷ es) = IsPendingFor tells s k e × ArePendingFor tells (after_entry s e) k es

-- Such calls, with the machine's own answers.
pub record ArePendingTold (tells : Type 0) (s : State Text Own) (k : ℕ) (es : List Entry) : Type 0 where
  pub real : List Entry
  pub pending : ArePending s k real
  pub alike : map unread_entry es ≡ map unread_entry real
  pub told : tells → es ≡ real

pub record ReadsLeaveTheState : Type 0 where
  -- The state after a history does not see the bytes that reads gave.
  pub state : (o : Opening) (h real : List Entry) → map unread_entry h ≡ map unread_entry real → state_after o h ≡ state_after o real
  -- Nor does what it stores.
  pub changes : (o : Opening) (h real : List Entry) → map unread_entry h ≡ map unread_entry real → changes o h ≡ changes o real
