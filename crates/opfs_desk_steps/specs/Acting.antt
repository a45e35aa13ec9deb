-- A call's entry was added: what it leaves of the history, and what a stop within it may leave. This project's own.
use Rattle.std.specs.Prelude.{◌≡◌, ℕ, List, [], ◌∷◌, ◌++◌, map, length}
use Rattle.opfs_store.specs.Acts.Acting.{IsActed, IsSameCopy, told_entry}
use Rattle.opfs_store.specs.declared.acts.acted.Acted.{Acted}
use Rattle.opfs_store.specs.declared.acts.acted.Gift.TheVariants as gift
use Rattle.opfs_base.specs.Texts.{Text}
use Rattle.opfs_books.specs.Laws.Books.{Fixed, IsNext}
use Rattle.opfs_hist.specs.declared.entry.Entry.{Entry}
use Rattle.opfs_hist.specs.declared.reply.Refusal.TheVariants as refusal
use Rattle.opfs_hist.specs.declared.reply.Reply.{Reply}
use Rattle.opfs_hist.specs.declared.reply.Reply.TheVariants as reply
use Rattle.opfs_laws.specs.Histories.Unread.{ArePendingFor}
use Rattle.opfs_machine.specs.Agents.{agent_of}
use Rattle.opfs_machine.specs.Changes.{Change}
use Rattle.opfs_machine.specs.Histories.{state_after}
use Rattle.opfs_machine.specs.Runs.{eviction}
use Rattle.opfs_outside.specs.declared.disk.Disk.{Ghosts as DiskWords}
use Rattle.opfs_records.specs.Replay.Built.{Built}
use Rattle.opfs_work.specs.Works.{WorkingCopy}
use Rattle.opfs_desk_steps.specs.Parts.Acted.{IsWay, IsWayNow, IsWayEnded, HasActed, HasFailed}
use Rattle.opfs_desk_steps.specs.Parts.Held.{AreHeldWhole}
use Rattle.opfs_desk_steps.specs.Parts.Seen.{call_in}
use Rattle.opfs_desk_steps.specs.declared.parts.call.ReadyCall.{ReadyCall}
use Rattle.opfs_desk_steps.specs.declared.parts.parts.Ledger.{Ledger}
use Rattle.opfs_desk_steps.specs.declared.parts.parts.OpenPages.{OpenPages}
use Rattle.opfs_desk_steps.specs.declared.parts.parts.DeskParts.{DeskParts}

-- An agent's pending calls were taken in, and nothing else was done.
pub record HasTaken {D : Type 0} (old mid : Ledger D) (calls : List Entry) : Type 0 where
  pub entries : mid.books.history ≡ old.books.history ++ calls
  pub journal : mid.journal ≡ old.journal
  pub place : mid.books.place ≡ old.books.place

-- Then units were cleared, and the call's entry was added.
pub record HasAdded {D : Type 0} (mid back new : Ledger D) (gone : List Text) (c : ReadyCall) (r : Reply) : Type 0 where
  pub cleared : back.books.history ≡ mid.books.history ++ map eviction gone
  pub added : new.books.history ≡ back.books.history ++ told_entry (call_in c) r ∷ []

-- The call after the disk failed in it: nothing is given, and the agent has so many rows.
abbrev pub failed_act : ℕ → Acted
failed_act rows = record { reply = reply.No refusal.DiskFault; gift = gift.Nothing; rows = rows }

pub record CallsAreActed {D : Type 0} (w : DiskWords D) : Type 0 where
  -- The history grew by the call.
  pub acted : (f : Fixed D) (old mid back new : Ledger D) (calls : List Entry) (gone : List Text) (c : ReadyCall) (r : Reply)
      → HasTaken old mid calls → HasAdded mid back new gone c r → IsNext w.tells (state_after f.opening mid.books.history) gone (told_entry (call_in c) r)
      → IsActed w.tells f.opening old.books.history calls (call_in c) r new.books.history
  -- A way that begins once the pending calls are taken in is one that begins before.
  pub before : (f : Fixed D) (recorded : Built) (old mid new : Ledger D) (p : OpenPages) (k : ℕ) (calls : List Entry) (all : List Change)
      → AreHeldWhole w f recorded old p → ArePendingFor w.tells (state_after f.opening old.books.history) k calls → HasTaken old mid calls
      → IsWay w f all mid new → IsWay w f all old new
  -- The entry came, and no disk was used for it.
  pub silent : (f : Fixed D) (mid back new : Ledger D) (gone : List Text) (c : ReadyCall) (r : Reply)
      → HasAdded mid back new gone c r → new.journal ≡ back.journal → IsWayNow w f mid back → IsWayEnded w f mid new
  -- The disk failed before the call's own change.
  pub failed : (f : Fixed D) (recorded : Built) (old new : DeskParts D) (mid : Ledger D) (calls : List Entry) (c : ReadyCall) (r : Reply) (before after : WorkingCopy) (rows : ℕ)
      → AreHeldWhole w f recorded old.ledger old.pages → ArePendingFor w.tells (state_after f.opening old.ledger.books.history) c.agent calls → HasTaken old.ledger mid calls
      → HasFailed w f (told_entry (call_in c) r) mid new.ledger new.pages → IsSameCopy before after
      → rows ≡ length (agent_of (state_after f.opening new.ledger.books.history) c.agent).own
      → HasActed w f old new calls (call_in c) before after (failed_act rows)
