-- Agents between their calls. This project's own.
use Rattle.std.specs.Prelude.{◌≡◌, ◌≢◌, ℕ, ◌+◌, ◌≤◌, false, [], Some, IsTrue}
use Rattle.opfs_base.specs.Keys.{is_origin}
use Rattle.opfs_base.specs.Texts.{Text}
use Rattle.opfs_base.specs.declared.locator.Locator.{Locator}
use Rattle.opfs_codec.specs.Spelling.{IsText, is_origin_text}
use Rattle.opfs_hall.specs.Seen.{HallSeen, PassSeen}
use Rattle.opfs_hist.specs.declared.entry.Entry.{Entry}
use Rattle.opfs_machine.specs.Agents.{agent_of}
use Rattle.opfs_machine.specs.Histories.{is_of_origin}
use Rattle.opfs_machine.specs.Openings.{Opening, Who, begun}
use Rattle.opfs_hist.specs.declared.op.Mode.TheVariants as mode
use Rattle.opfs_kv.specs.Seen.{KvSeen, Stands}
use Rattle.opfs_sync_files.specs.Resting.{RestsBut}
use Rattle.opfs_turns.specs.Asking.Rows.{HandleSeen, HasHandle}
use Rattle.opfs_turns.specs.Agents.{AgentSeen}

-- An agent of a hall, with the key of an origin. Of its rows none is open but that of a number.
pub record IsReady {O : Type 0} (hall : HallSeen O) (a : AgentSeen O) (n : ℕ) : Type 0 where
  pub own : a.pass.hall ≡ hall
  pub origin : Text
  pub key : a.key ≡ Some origin
  pub plain : IsTrue (is_origin origin)
  pub rests : RestsBut a n

-- An agent has made so few rows and entries.
pub record HasMade {O : Type 0} (a : AgentSeen O) (most : ℕ) : Type 0 where
  pub rows : a.rows ≤ most
  pub entries : a.entries ≤ most

-- A locator is of an agent's origin.
abbrev pub IsMine : {O : Type 0} → AgentSeen O → Locator → Type 0
IsMine a at = IsTrue (is_of_origin a.key at)

-- An agent after calls: the same, with so many rows and entries more at most.
pub record Goes {O : Type 0} (before after : AgentSeen O) (count : ℕ) : Type 0 where
  pub agent : after.pass.agent ≡ before.pass.agent
  pub key : after.key ≡ before.key
  pub rows : after.rows ≤ before.rows + count
  pub entries : after.entries ≤ before.entries + count

-- An agent of a number with nothing open, which has made so few rows and entries.
pub record IsIdle {O : Type 0} (hall : HallSeen O) (a : AgentSeen O) (number most : ℕ) : Type 0 where
  pub ready : IsReady hall a 0
  pub made : HasMade a most
  pub agent : a.pass.agent ≡ number

-- The pass of an agent of a hall that has ended.
pub record IsPassOf {O : Type 0} (hall : HallSeen O) (number : ℕ) (p : PassSeen O Entry) : Type 0 where
  pub own : p.hall ≡ hall
  pub agent : p.agent ≡ number
  pub idle : p.busy ≡ false

-- An agent of this key, without a grant, as a store begins with it.
abbrev pub asks : Text → Who
asks key = record { key = Some key; grant = false }

-- A store begins with an agent of this number and key, which is an origin's.
pub record IsAgentOf (o : Opening) (number : ℕ) (key : Text) : Type 0 where
  pub real : number ≢ 0
  pub text : IsText is_origin_text key
  pub live : IsTrue (agent_of (begun o) number).live
  pub own_key : (agent_of (begun o) number).key ≡ Some key
  pub none : (agent_of (begun o) number).own ≡ []

-- The one open row is an access handle that may write.
pub record Holds {O : Type 0} (tells : Type 0) (hall : HallSeen O) (a : AgentSeen O) (h : HandleSeen) : Type 0 where
  pub ready : IsReady hall a h.row
  pub has : HasHandle tells a h
  pub writes : h.mode ≡ mode.ReadWrite

-- It is that of a notebook.
pub record HoldsNotes {O : Type 0} (tells : Type 0) (hall : HallSeen O) (a : AgentSeen O) (kv : KvSeen) : Type 0 where
  pub ready : IsReady hall a kv.handle.row
  pub stands : Stands tells a kv
