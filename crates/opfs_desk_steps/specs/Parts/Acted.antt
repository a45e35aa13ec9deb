-- What a call under the turn leaves of the parts: one legal step, and what a stop within it may leave. This project's own.
use Rattle.std.specs.Prelude.{◌≡◌, ◌≤◌, ◌-◌, List, ◌∷◌, [], ◌++◌, map, length, None, Some}
use Rattle.opfs_store.specs.Acts.Acting.{IsActed, IsGift, IsLeft, HasFaultOnlyIfRose}
use Rattle.opfs_store.specs.declared.acts.acted.Acted.{Acted}
use Rattle.opfs_base.specs.Texts.{Text}
use Rattle.opfs_books.specs.Laws.Books.{Fixed}
use Rattle.opfs_books.specs.Laws.Laws.{told, doubt, failed}
use Rattle.opfs_commit.specs.Shown.{ShowsEither}
use Rattle.opfs_data.specs.Calls.{Reads}
use Rattle.opfs_hist.specs.declared.entry.Entry.{Entry}
use Rattle.opfs_laws.specs.Histories.Doubts.{doubted}
use Rattle.opfs_machine.specs.Agents.{agent_of}
use Rattle.opfs_machine.specs.Changes.{Change, floor}
use Rattle.opfs_machine.specs.Histories.{IsCall, state_after}
use Rattle.opfs_machine.specs.Openings.{Opening}
use Rattle.opfs_machine.specs.Runs.{Call, eviction}
use Rattle.opfs_outside.specs.Faults.{Rose}
use Rattle.opfs_outside.specs.Moments.{Elapses}
use Rattle.opfs_outside.specs.declared.disk.Disk.{Ghosts as DiskWords}
use Rattle.opfs_records.specs.Replay.Built.{Built}
use Rattle.opfs_work.specs.Works.{WorkingCopy}
use Rattle.opfs_desk_steps.specs.Parts.Held.{AreHeld, AreHeldAt, AreHeldWhole}
use Rattle.opfs_desk_steps.specs.Parts.Seen.{book_in}
use Rattle.opfs_desk_steps.specs.declared.parts.parts.Ledger.{Ledger}
use Rattle.opfs_desk_steps.specs.declared.parts.parts.OpenPages.{OpenPages}
use Rattle.opfs_desk_steps.specs.declared.parts.parts.DeskParts.{DeskParts}

-- What the last entry leaves in doubt, where the disk failed in its call: the eviction of its next victim, or what it would
-- have stored.
abbrev pub last_doubt : Opening → List Entry → List Change
last_doubt o h = doubted o h (Some (length h - 1))

-- The disk was used: its count and its moments go on. Each image on the way shows a front of these changes, or of what was told
-- before, with the doubt of then; it has all that was told up to the last content of then.
pub record IsWay {D : Type 0} (w : DiskWords D) (f : Fixed D) (all : List Change) (old new : Ledger D) : Type 0 where
  pub later : w.faults old.journal.disk ≤ w.faults new.journal.disk
  pub time : w.tells → Elapses w.moment w.since old.journal.disk new.journal.disk
  pub shown : w.tells → ShowsEither w f.opening (floor (told f (book_in old))) all (told f (book_in old) ++ doubt f (book_in old) old.journal) old.journal.disk new.journal.disk

-- Up to what is told now; and with what the last entry leaves in doubt besides.
abbrev pub IsWayNow : {D : Type 0} → DiskWords D → Fixed D → Ledger D → Ledger D → Type 0
IsWayNow w f old new = IsWay w f (told f (book_in new)) old new

abbrev pub IsWayEnded : {D : Type 0} → DiskWords D → Fixed D → Ledger D → Ledger D → Type 0
IsWayEnded w f old new = IsWay w f (told f (book_in new) ++ last_doubt f.opening new.books.history) old new

-- The call was entered, over parts that are kept.
pub record HasActed {D : Type 0} (w : DiskWords D) (f : Fixed D) (old new : DeskParts D) (calls : List Entry) (c : Call) (before after : WorkingCopy) (done : Acted) : Type 0 where
  pub held : AreHeld w f new
  pub acted : IsActed w.tells f.opening old.ledger.books.history calls c done.reply new.ledger.books.history
  pub left : IsLeft w.tells f.opening new.ledger.books.history c done.reply before after
  pub gift : IsGift w.tells (state_after f.opening (old.ledger.books.history ++ calls)) c.op done.reply done.gift
  pub rows : done.rows ≡ length (agent_of (state_after f.opening new.ledger.books.history) c.agent).own
  pub fault : HasFaultOnlyIfRose done.reply (w.faults old.ledger.journal.disk) (w.faults new.ledger.journal.disk)
  pub way : IsWayEnded w f old.ledger new.ledger

-- There was no memory: nothing was entered, the disk was only read, and the parts are kept.
pub record IsUnacted {D : Type 0} (w : DiskWords D) (f : Fixed D) (old new : DeskParts D) : Type 0 where
  pub recorded : Built
  pub are : AreHeldWhole w f recorded new.ledger new.pages
  pub entries : new.ledger.books.history ≡ old.ledger.books.history
  pub reads : Reads w old.ledger.journal new.ledger.journal

-- All units are cleared for a call, and no gate is in doubt. The pages are as they were.
pub record AreCleared {D : Type 0} (w : DiskWords D) (f : Fixed D) (units : List Text) (old new : Ledger D) (p : OpenPages) : Type 0 where
  pub recorded : Built
  pub are : AreHeldAt w f recorded (state_after f.opening old.books.history) units new p
  pub way : IsWayNow w f old new

-- The disk failed before the call's own change: its entry tells so, and nothing else of it is there but evictions.
pub record HasFailed {D : Type 0} (w : DiskWords D) (f : Fixed D) (e : Entry) (old new : Ledger D) (p : OpenPages) : Type 0 where
  pub gone : List Text
  pub grown : new.books.history ≡ old.books.history ++ (map eviction gone ++ failed e ∷ [])
  pub call : IsCall (state_after f.opening old.books.history) gone (failed e)
  pub recorded : Built
  pub are : AreHeldWhole w f recorded new p
  pub idle : new.books.state.store.prepared.place ≡ None
  pub rose : Rose (w.faults old.journal.disk) (w.faults new.journal.disk)
  pub way : IsWayEnded w f old new
