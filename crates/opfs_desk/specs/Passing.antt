-- What a stop within a call may leave. This project's own.
use Rattle.std.specs.Prelude.{◌≡◌, ◌<◌, false, List, [], length}
use Rattle.opfs_books.specs.Laws.Laws.{told, doubt}
use Rattle.opfs_data.specs.Calls.{Reads}
use Rattle.opfs_desk_steps.specs.Parts.Acted.{IsWayEnded}
use Rattle.opfs_desk_steps.specs.Parts.Seen.{book_in}
use Rattle.opfs_hist.specs.Faults.{is_disk_fault}
use Rattle.opfs_hist.specs.declared.entry.Entry.{Entry}
use Rattle.opfs_hist.specs.declared.reply.Reply.{Reply}
use Rattle.opfs_machine.specs.Runs.{Call}
use Rattle.opfs_outside.specs.declared.disk.Disk.{Ghosts as DiskWords}
use Rattle.opfs_store.specs.Acts.Acting.{InHand, IsServed, IsUnserved, in_hand}
use Rattle.opfs_store.specs.declared.acts.acted.Acted.{Acted}
use Rattle.opfs_work.specs.Works.{WorkingCopy}
use Rattle.opfs_desk.specs.Seen.{DeskSeen, disk_of, entries_of}

-- The disk's count and its moments go on. Each image on the way shows a front of what is told then, with what the call's entry
-- leaves in doubt, or of what was told before, with the doubt of then; it has all that was told up to the last content of then.
abbrev pub PassesCall : {D : Type 0} → DiskWords D → DeskSeen D → DeskSeen D → Type 0
PassesCall w old new = IsWayEnded w old.fixed old.parts.ledger new.parts.ledger

-- The journal is as before, and the disk was only read: each image of since then is one of before.
abbrev pub OnlyReads : {D : Type 0} → DiskWords D → DeskSeen D → DeskSeen D → Type 0
OnlyReads w old new = Reads w old.parts.ledger.journal new.parts.ledger.journal

-- Where a call stored something, or units were cleared for it, and the disk did not fail in it, nothing is in doubt any more.
abbrev pub SettlesWhatItStores : {D : Type 0} → DeskSeen D → DeskSeen D → Reply → Type 0
SettlesWhatItStores old new answered = is_disk_fault answered ≡ false → length (told old.fixed (book_in old.parts.ledger)) < length (told old.fixed (book_in new.parts.ledger)) → doubt old.fixed (book_in new.parts.ledger) new.parts.ledger.journal ≡ []

-- What a call has in hand: the history, how often the disk has failed, its agent's pending calls, and its working copy.
abbrev pub hand_in : {D : Type 0} → DiskWords D → DeskSeen D → List Entry → WorkingCopy → InHand
hand_in w d calls work = in_hand (entries_of d) (w.faults (disk_of d)) calls work

-- A call has its entry, as each store serves it. What a stop within it may leave is known; and of what it stored nothing is in doubt.
pub record HasServed {D : Type 0} (w : DiskWords D) (old new : DeskSeen D) (calls left : List Entry) (before after : WorkingCopy) (c : Call) (done : Acted) : Type 0 where
  pub served : IsServed w.tells old.fixed.opening (hand_in w old calls before) (hand_in w new left after) c done
  pub passes : PassesCall w old new
  pub settled : SettlesWhatItStores old new done.reply

-- There was no memory: nothing was entered or taken in, and the disk was only read.
pub record HasNotServed {D : Type 0} (w : DiskWords D) (old new : DeskSeen D) (calls left : List Entry) (before after : WorkingCopy) : Type 0 where
  pub unserved : IsUnserved (hand_in w old calls before) (hand_in w new left after)
  pub reads : OnlyReads w old new
