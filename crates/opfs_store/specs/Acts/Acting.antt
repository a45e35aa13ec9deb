-- What a shared call leaves: the history with its entry, the reply, what is given beside it, and the working copy. This
-- project's own.
use Rattle.std.specs.Prelude.{◌≡◌, ℕ, zero, suc, ◌++◌, ◌<◌, ◌/◌, Bool, true, false, List, [], length, replicate}
use Rattle.opfs_base.specs.Places.{place_of, child_of}
use Rattle.opfs_base.specs.Texts.{Text}
use Rattle.opfs_hist.specs.Faults.{is_disk_fault}
use Rattle.opfs_hist.specs.declared.entry.Entry.{Entry}
use Rattle.opfs_hist.specs.declared.op.Op.{Op}
use Rattle.opfs_hist.specs.declared.op.Op.TheVariants as op
use Rattle.opfs_hist.specs.declared.reply.Reply.{Reply}
use Rattle.opfs_hist.specs.declared.reply.Reply.TheVariants as reply
use Rattle.opfs_machine.specs.declared.own.Own.{Own}
use Rattle.opfs_machine.specs.declared.state.State.{State}
use Rattle.opfs_machine.specs.Agents.{agent_of, party_of, is_posted, others_stuck}
use Rattle.opfs_machine.specs.Histories.{IsCall, state_after}
use Rattle.opfs_machine.specs.Openings.{Opening}
use Rattle.opfs_machine.specs.Replies.{bytes_at}
use Rattle.opfs_machine.specs.Runs.{Call}
use Rattle.opfs_machine.specs.Steps.{is_refusal}
use Rattle.opfs_laws.specs.Histories.Opened.{added}
use Rattle.opfs_laws.specs.Histories.Unread.{unread_entry}
use Rattle.opfs_outside.specs.Faults.{Rose}
use Rattle.opfs_store.specs.Copies.Copies.{StandsFor}
use Rattle.opfs_work.specs.Pages.{page_at, is_far}
use Rattle.opfs_work.specs.Works.{WorkingCopy}
use Rattle.opfs_store.specs.declared.acts.acted.Acted.{Acted}
use Rattle.opfs_store.specs.declared.acts.acted.AwaitState.{AwaitState}
use Rattle.opfs_store.specs.declared.acts.acted.AwaitState.TheVariants as await
use Rattle.opfs_store.specs.declared.acts.acted.Gift.{Gift}
use Rattle.opfs_store.specs.declared.acts.acted.Gift.TheVariants as gift

-- The entry of a call.
abbrev pub told_entry : Call → Reply → Entry
told_entry c answered = record { agent = c.agent; number = c.number; op = c.op; reply = answered; turn = true }

-- A call of the machine, but for the bytes of a read; with those too where the disk tells.
pub record IsCallFor (tells : Type 0) (s : State Text Own) (gone : List Text) (e : Entry) : Type 0 where
  pub real : Entry
  pub call : IsCall s gone real
  pub alike : unread_entry e ≡ unread_entry real
  pub told : tells → e ≡ real

-- The history grows by the agent's pending calls, the evictions and the call's entry.
pub record IsActed (tells : Type 0) (o : Opening) (h pending : List Entry) (c : Call) (answered : Reply) (new : List Entry) : Type 0 where
  pub gone : List Text
  pub grown : new ≡ h ++ added pending gone (told_entry c answered)
  pub call : IsCallFor tells (state_after o (h ++ pending)) gone (told_entry c answered)

-- A disk fault is answered only where the count rose.
abbrev pub HasFaultOnlyIfRose : Reply → ℕ → ℕ → Type 0
HasFaultOnlyIfRose answered before after = is_disk_fault answered ≡ true → Rose before after

-- What is given beside the reply: the present bytes of a file, or the child that an iterator gives.
unfoldable pub gift_of : State Text Own → Op → Reply → Gift
gift_of s (op.GetFile at) (reply.FileInfo size stamp) = gift.Bytes (bytes_at s (place_of at))
gift_of s (op.Next n dir) (reply.Child kind name) = gift.Child (child_of dir name kind) name
gift_of s called answered = gift.Nothing

-- A gift without the bytes: as many zeros.
abbrev pub unread_gift : Gift → Gift
unread_gift (gift.Bytes bytes) = gift.Bytes (replicate (length bytes) 0)
unread_gift g = g

pub record IsGift (tells : Type 0) (s : State Text Own) (called : Op) (answered : Reply) (given : Gift) : Type 0 where
  pub alike : unread_gift given ≡ unread_gift (gift_of s called answered)
  pub told : tells → given ≡ gift_of s called answered

-- Calls that end what is open, or the agent: they are never refused for want of memory.
abbrev pub always_acts : Op → Bool
always_acts (op.Abort n) = true
always_acts (op.Discard n) = true
always_acts op.End = true
always_acts called = false

-- Whether a tag was posted for an agent, or nobody is left who could post it.
unfoldable pub awaited : State Text Own → ℕ → Text → AwaitState
awaited s k tag = elim (is_posted s (party_of s k) tag) [ true ↦ await.Posted | false ↦ elim (others_stuck s k) [ true ↦ await.Stuck | false ↦ await.Neither ] ]

-- The row that a call leaves open: the one that it made, the last of so many, or the one that it names; 0 where it leaves
-- none.
abbrev pub row_left : ℕ → Op → ℕ
row_left rows (op.CreateWritable file keep) = rows
row_left rows (op.CreateSyncAccessHandle file mode) = rows
row_left rows (op.Write n bytes position) = n
row_left rows (op.Truncate n size) = n
row_left rows (op.SyncRead n len at) = n
row_left rows (op.SyncWrite n bytes at) = n
row_left rows (op.SyncTruncate n size) = n
row_left rows (op.SyncFlush n) = n
row_left rows called = 0

-- Whether the page of the position is in memory after a call: where it wrote into a stream or gave it a size.
abbrev pub brings_position : Op → Bool
brings_position (op.Write n bytes position) = true
brings_position (op.Truncate n size) = true
brings_position called = false

abbrev pub IsPositionNear : WorkingCopy → Type 0
IsPositionNear work = work.position < work.length → is_far (page_at work.pages (work.position / 4096)) ≡ false

-- A working copy stands for the row that a call left open, if it left one.
abbrev pub StandsForLeft : Type 0 → Opening → List Entry → ℕ → ℕ → WorkingCopy → Type 0
StandsForLeft tells o h k zero work = Unit {0}
StandsForLeft tells o h k (suc n) work = StandsFor tells o h k (suc n) work

-- A working copy is as before, its room aside.
abbrev pub IsSameCopy : WorkingCopy → WorkingCopy → Type 0
IsSameCopy before after = after ≡ record before { room = after.room }

-- The working copy after a call: as before where the call was refused, its room aside, and else that of the row that is left.
pub record IsLeft (tells : Type 0) (o : Opening) (new : List Entry) (c : Call) (answered : Reply) (before after : WorkingCopy) : Type 0 where
  pub refused : is_refusal answered ≡ true → IsSameCopy before after
  pub stands : is_refusal answered ≡ false → StandsForLeft tells o new c.agent (row_left (length (agent_of (state_after o new) c.agent).own) c.op) after
  pub near : is_refusal answered ≡ false → brings_position c.op ≡ true → IsPositionNear after

-- What a shared call has in hand at one moment: the entries of the store, how often its disk has failed, the agent's pending
-- calls, and the working copy.
pub record InHand : Type 0 where
  pub entries : List Entry
  pub faults : ℕ
  pub pending : List Entry
  pub work : WorkingCopy

abbrev pub in_hand : List Entry → ℕ → List Entry → WorkingCopy → InHand
in_hand entries faults pending work = record { entries = entries; faults = faults; pending = pending; work = work }

-- A call has its entry: the history has grown by it, the pending calls are taken in, and this was answered and given beside it;
-- a disk fault only where the count rose in this call.
pub record IsServed (tells : Type 0) (o : Opening) (before after : InHand) (c : Call) (done : Acted) : Type 0 where
  pub acted : IsActed tells o before.entries before.pending c done.reply after.entries
  pub taken : after.pending ≡ []
  pub left : IsLeft tells o after.entries c done.reply before.work after.work
  pub gift : IsGift tells (state_after o (before.entries ++ before.pending)) c.op done.reply done.gift
  pub rows : done.rows ≡ length (agent_of (state_after o after.entries) c.agent).own
  pub fault : HasFaultOnlyIfRose done.reply before.faults after.faults

-- Nothing was entered or taken in, and the working copy is as before, its room aside.
pub record IsUnserved (before after : InHand) : Type 0 where
  pub entries : after.entries ≡ before.entries
  pub pending : after.pending ≡ before.pending
  pub work : IsSameCopy before.work after.work
