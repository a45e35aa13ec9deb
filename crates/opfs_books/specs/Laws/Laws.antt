-- How the books are kept by what is entered, written and read. This project's own.
use Rattle.std.specs.Prelude.{◌≡◌, ◌⊎◌, ℕ, ◌+◌, ◌^◌, ◌<◌, ◌≤◌, Bool, true, false, if◌then◌else◌, List, [], ◌∷◌, ◌++◌, fold, length, Some, None}
use Rattle.opfs_base.specs.Texts.{Text}
use Rattle.opfs_base.specs.declared.extents.Extent.{Extent}
use Rattle.opfs_codec.specs.Spelling.{IsChange}
use Rattle.opfs_codec.specs.declared.change.Change.{Change as Spelled}
use Rattle.opfs_codec.specs.declared.change.Change.TheVariants.{Evict}
use Rattle.opfs_codec.specs.declared.change.Format.TheVariants.{New}
use Rattle.opfs_commit.specs.Calls.{IsNext as IsNextRecord, IsNextAlone, IsAnyOf, IsNoneOf}
use Rattle.opfs_commit.specs.Making.{AreBeside, told_as, new_bytes}
use Rattle.opfs_commit.specs.Seen.{KeptBack, committing, with_kept, IsQuiet}
use Rattle.opfs_commit.specs.Shown.{ShowsSince}
use Rattle.opfs_commit.specs.Trail.{IsContentAt}
use Rattle.opfs_data.specs.Calls.{Reads}
use Rattle.opfs_hist.specs.Faults.{is_disk_fault, disk_faults}
use Rattle.opfs_hist.specs.declared.entry.Entry.{Entry}
use Rattle.opfs_hist.specs.declared.reply.Refusal.TheVariants as refusal
use Rattle.opfs_hist.specs.declared.reply.Reply.TheVariants as reply
use Rattle.opfs_laws.specs.Histories.Doubts.{doubted, faulted}
use Rattle.opfs_laws.specs.Histories.Unread.{ArePendingFor}
use Rattle.opfs_image.specs.Filling.{Stands}
use Rattle.opfs_image.specs.Superblock.{area_bytes, data_base}
use Rattle.opfs_journal.specs.Calls.{IsSettled, IsUnsettled, MayBe}
use Rattle.opfs_journal.specs.Clauses.{Outside}
use Rattle.opfs_journal.specs.Seen.{Seen, Stays}
use Rattle.opfs_laws.specs.Whole.{IsWhole}
use Rattle.opfs_laws.specs.Lengths.Kept.{Kept}
use Rattle.opfs_laws.specs.Lengths.Outlines.{in_lengths_of}
use Rattle.opfs_machine.specs.declared.own.Own.{Own}
use Rattle.opfs_machine.specs.declared.state.State.{State}
use Rattle.opfs_machine.specs.Changes.{Change, durable, entry_changes, changes, floor}
use Rattle.opfs_machine.specs.Contents.{in_lengths}
use Rattle.opfs_machine.specs.Histories.{IsCall, state_after}
use Rattle.opfs_machine.specs.Runs.{eviction}
use Rattle.opfs_machine.specs.Steps.{evicted, after_reply}
use Rattle.opfs_machine.specs.Sums.{charge}
use Rattle.opfs_outside.specs.Bytes.{Same}
use Rattle.opfs_outside.specs.Faults.{Rose, RoseBy}
use Rattle.opfs_outside.specs.Moments.{Elapses}
use Rattle.opfs_outside.specs.declared.disk.Disk.{Ghosts as DiskWords}
use Rattle.opfs_records.specs.Replay.Applying.{tried}
use Rattle.opfs_records.specs.Replay.Built.{Built}
use Rattle.opfs_records.specs.Replay.Sums.{charge_of}
use Rattle.opfs_tree.specs.Rows.{IsInOrder}
use Rattle.opfs_books.specs.Laws.Books.{Fixed, Book, IsNext, IsPlaced, AreCounted, AreBooksAt, AreBooks, calls_of}

-- What was told, and what is in doubt besides, where a gate is.
abbrev pub told : {D : Type 0} → Fixed D → Book → List Change
told f b = changes f.opening b.entries

abbrev pub doubt : {D : Type 0} → Fixed D → Book → Seen D → List Change
doubt f b j = if j.in_doubt then doubted f.opening b.entries b.place else []

-- What a call that writes leaves of the journal beside its records: no byte outside of the areas is changed.
pub record LeavesPages {D : Type 0} (w : DiskWords D) (old new : Seen D) : Type 0 where
  pub stays : Stays w.size old new
  pub later : w.faults old.disk ≤ w.faults new.disk
  pub outside : w.tells → Same (Outside old.areas) (w.content new.disk) (w.content old.disk)
  pub time : w.tells → Elapses w.moment w.since old.disk new.disk

-- Each image since the start shows a front of these changes, with all that was told up to the last content of then.
abbrev pub ShowsTold : {D : Type 0} → DiskWords D → Fixed D → Book → List Change → Seen D → Seen D → Type 0
ShowsTold w f b all old new = w.tells → ShowsSince w f.opening (floor (told f b)) all old.disk new.disk

-- Each image that a crash may leave now stands for all that was told.
abbrev pub StandsWhole : {D : Type 0} → DiskWords D → Fixed D → Book → Seen D → Type 0
StandsWhole w f b j = w.tells → (c : List ℕ) → MayBe w j c → Stands c (durable f.opening (told f b))

-- The entry of a call is added, and the machine in lengths follows it.
pub record IsEntered (base : State Text Own) (gone : List Text) (e : Entry) (b new : Book) : Type 0 where
  pub entries : new.entries ≡ b.entries ++ e ∷ []
  pub machine : new.machine ≡ in_lengths_of (after_reply (fold evicted base gone) e.agent e.op e.reply)
  pub placed : IsPlaced b.entries e.agent

-- An entry that tells of a fault needs a rise of its own.
abbrev pub HasRisen : {D : Type 0} → DiskWords D → Fixed D → Book → Entry → Seen D → Type 0
HasRisen w f b e j = is_disk_fault e.reply ≡ true → RoseBy (disk_faults b.entries + 1) (w.faults f.begun) (w.faults j.disk)

-- A change that is spelled so makes this of what is stored, which has room.
pub record IsMade (f_blocks : ℕ) (spelled : Spelled) (b next : Built) : Type 0 where
  pub again : IsChange New spelled
  pub found : tried New f_blocks b spelled ≡ Some next
  pub order : IsInOrder b.rows

-- The machine's charge covers that of what is stored.
abbrev pub IsCovered : Book → Type 0
IsCovered b = charge_of New b.rows ≤ charge in_lengths b.machine

-- The entry of a call as the disk failed in it.
abbrev pub failed : Entry → Entry
failed e = record e { reply = reply.No refusal.DiskFault }

-- An entry that stores nothing.
abbrev pub TellsKeepTheBooks : {D : Type 0} → DiskWords D → Type 0
TellsKeepTheBooks {D} w =
    (f : Fixed D) (recorded : Built) (base : State Text Own) (gone : List Text) (b new : Book) (j : Seen D) (e : Entry)
    → AreBooksAt w f recorded base gone b j → IsNext w.tells base gone e → IsEntered base gone e b new
    → new.rows ≡ b.rows → new.back ≡ b.back → new.place ≡ b.place
    → entry_changes (fold evicted base gone) e ≡ [] → HasRisen w f b e j
    → AreBooks w f recorded new j

-- Pending calls of one agent.
abbrev pub PendingKeepsTheBooks : {D : Type 0} → DiskWords D → Type 0
PendingKeepsTheBooks {D} w =
    (f : Fixed D) (recorded : Built) (b new : Book) (j : Seen D) (k : ℕ) (es : List Entry)
    → AreBooks w f recorded b j → ArePendingFor w.tells (state_after f.opening b.entries) k es
    → new.entries ≡ b.entries ++ es → new.machine ≡ in_lengths_of (state_after f.opening (b.entries ++ es))
    → new.rows ≡ b.rows → new.back ≡ b.back → new.place ≡ b.place
    → 1 ≤ k → k ≤ 64 → calls_of k b.entries + length es ≤ 60000002
    → AreBooks w f recorded new j

-- The end of a doubt.
abbrev pub SettlingKeepsTheBooks : {D : Type 0} → DiskWords D → Type 0
SettlingKeepsTheBooks {D} w =
    (f : Fixed D) (recorded : Built) (base : State Text Own) (gone : List Text) (b new : Book) (old j : Seen D)
    → AreBooksAt w f recorded base gone b old → IsSettled w old j → new ≡ record b { place = None }
    → AreBooksAt w f recorded base gone new j

abbrev pub UnsettledKeepsTheBooks : {D : Type 0} → DiskWords D → Type 0
UnsettledKeepsTheBooks {D} w =
    (f : Fixed D) (recorded : Built) (base : State Text Own) (gone : List Text) (b : Book) (old j : Seen D)
    → AreBooksAt w f recorded base gone b old → IsUnsettled w old j
    → AreBooksAt w f recorded base gone b j

abbrev pub SettlingShows : {D : Type 0} → DiskWords D → Type 0
SettlingShows {D} w =
    (f : Fixed D) (recorded : Built) (base : State Text Own) (gone : List Text) (b : Book) (old j : Seen D)
    → AreBooksAt w f recorded base gone b old → (IsSettled w old j ⊎ IsUnsettled w old j)
    → ShowsTold w f b (told f b ++ doubt f b old) old j

-- A change that is kept back.
abbrev pub KeepingBackKeepsTheBooks : {D : Type 0} → DiskWords D → Type 0
KeepingBackKeepsTheBooks {D} w =
    (f : Fixed D) (recorded : Built) (base : State Text Own) (gone : List Text) (b new : Book) (j : Seen D) (e : Entry) (spelled : Spelled)
    → AreBooksAt w f recorded base gone b j → j.in_doubt ≡ false → IsNext w.tells base gone e → IsEntered base gone e b new
    → IsMade f.geometry.blocks spelled b.rows new.rows → IsQuiet spelled → IsCovered new
    → entry_changes (fold evicted base gone) e ≡ told_as [] spelled ∷ [] → is_disk_fault e.reply ≡ false
    → new.back ≡ with_kept b.back spelled → b.back.count < 63 → new.place ≡ None
    → AreBooks w f recorded new j

-- A change that is committed: a call's, or an eviction.
abbrev pub CommittedCallsKeepTheBooks : {D : Type 0} → DiskWords D → Type 0
CommittedCallsKeepTheBooks {D} w =
    (f : Fixed D) (recorded : Built) (base : State Text Own) (gone : List Text) (b new : Book) (old j : Seen D) (e : Entry) (spelled : Spelled) (bytes : Text)
    → AreBooksAt w f recorded base gone b old → old.in_doubt ≡ false → IsNext w.tells base gone e → IsEntered base gone e b new
    → IsMade f.geometry.blocks spelled b.rows new.rows → IsCovered new
    → entry_changes (fold evicted base gone) e ≡ told_as bytes spelled ∷ []
    → (w.tells → told_as (new_bytes (data_base f.geometry) (w.content old.disk) spelled) spelled ≡ told_as bytes spelled)
    → IsAnyOf w (IsNextRecord b.rows spelled (committing old b.back)) (committing old b.back) (committing j new.back) → new.place ≡ None → is_disk_fault e.reply ≡ false
    → AreBooks w f new.rows new j

abbrev pub CommittedEvictionsKeepTheBooks : {D : Type 0} → DiskWords D → Type 0
CommittedEvictionsKeepTheBooks {D} w =
    (f : Fixed D) (recorded : Built) (base : State Text Own) (gone : List Text) (b new : Book) (old j : Seen D) (unit : Text)
    → AreBooksAt w f recorded base gone b old → old.in_doubt ≡ false
    → new.entries ≡ b.entries ++ eviction unit ∷ [] → new.machine ≡ in_lengths_of (fold evicted base (gone ++ unit ∷ []))
    → IsMade f.geometry.blocks (Evict unit) b.rows new.rows
    → IsAnyOf w (IsNextRecord b.rows (Evict unit) (committing old b.back)) (committing old b.back) (committing j new.back) → new.place ≡ None
    → AreBooksAt w f new.rows base (gone ++ unit ∷ []) new j

-- At each moment of a commit, whether it succeeds or not, an image shows a front of what was told with the change.
abbrev pub CommitsShow : {D : Type 0} → DiskWords D → Type 0
CommitsShow {D} w =
    (f : Fixed D) (recorded : Built) (base : State Text Own) (gone : List Text) (b : Book) (old j : Seen D) (back : KeptBack) (spelled : Spelled) (next : Built) (change : Change)
    → AreBooksAt w f recorded base gone b old → old.in_doubt ≡ false → IsMade f.geometry.blocks spelled b.rows next → charge_of New next + 7 ≤ area_bytes f.geometry
    → (w.tells → told_as (new_bytes (data_base f.geometry) (w.content old.disk) spelled) spelled ≡ change)
    → (IsAnyOf w (IsNextRecord b.rows spelled (committing old b.back)) (committing old b.back) (committing j back) ⊎ IsNoneOf w (IsNextRecord b.rows spelled (committing old b.back)) (committing old b.back) (committing j back))
    → ShowsTold w f b (told f b ++ change ∷ []) old j

-- A commit that failed: the call is entered as one in which the disk failed, and the change may be in doubt. It is what the
-- entry leaves in doubt: the eviction of the call's next victim, or what the call would have stored.
abbrev pub FailedCommitsKeepTheBooks : {D : Type 0} → DiskWords D → Type 0
FailedCommitsKeepTheBooks {D} w =
    (f : Fixed D) (recorded : Built) (base : State Text Own) (gone : List Text) (b new : Book) (old j : Seen D) (e : Entry) (spelled : Spelled) (next : Built) (change : Change)
    → AreBooksAt w f recorded base gone b old → old.in_doubt ≡ false → IsCall base gone e → is_disk_fault e.reply ≡ true → IsEntered base gone e b new
    → new.rows ≡ b.rows → new.place ≡ Some (length b.entries)
    → IsMade f.geometry.blocks spelled b.rows next → charge_of New next + 7 ≤ area_bytes f.geometry
    → (w.tells → told_as (new_bytes (data_base f.geometry) (w.content old.disk) spelled) spelled ≡ change)
    → faulted base gone e ≡ change ∷ []
    → IsNoneOf w (IsNextRecord b.rows spelled (committing old b.back)) (committing old b.back) (committing j new.back) → Rose (w.faults old.disk) (w.faults j.disk)
    → AreBooks w f recorded new j

-- What is kept back is committed alone.
abbrev pub CommittedAloneKeepsTheBooks : {D : Type 0} → DiskWords D → Type 0
CommittedAloneKeepsTheBooks {D} w =
    (f : Fixed D) (recorded : Built) (base : State Text Own) (gone : List Text) (b new : Book) (old j : Seen D)
    → AreBooksAt w f recorded base gone b old → old.in_doubt ≡ false → new ≡ record b { place = None; back = new.back }
    → IsAnyOf w (IsNextAlone b.rows (committing old b.back)) (committing old b.back) (committing j new.back)
    → AreBooksAt w f b.rows base gone new j

abbrev pub FailedAloneKeepsTheBooks : {D : Type 0} → DiskWords D → Type 0
FailedAloneKeepsTheBooks {D} w =
    (f : Fixed D) (recorded : Built) (base : State Text Own) (gone : List Text) (b new : Book) (old j : Seen D)
    → AreBooksAt w f recorded base gone b old → old.in_doubt ≡ false → new ≡ record b { place = None; back = new.back }
    → IsNoneOf w (IsNextAlone b.rows (committing old b.back)) (committing old b.back) (committing j new.back) → Rose (w.faults old.disk) (w.faults j.disk)
    → AreBooksAt w f recorded base gone new j

abbrev pub AloneShows : {D : Type 0} → DiskWords D → Type 0
AloneShows {D} w =
    (f : Fixed D) (recorded : Built) (base : State Text Own) (gone : List Text) (b : Book) (old j : Seen D) (back : KeptBack)
    → AreBooksAt w f recorded base gone b old → old.in_doubt ≡ false
    → (IsAnyOf w (IsNextAlone b.rows (committing old b.back)) (committing old b.back) (committing j back) ⊎ IsNoneOf w (IsNextAlone b.rows (committing old b.back)) (committing old b.back) (committing j back))
    → ShowsTold w f b (told f b) old j

-- A call that only reads the disk, and one that writes pages aside of what the records name.
abbrev pub ReadsKeepTheBooks : {D : Type 0} → DiskWords D → Type 0
ReadsKeepTheBooks {D} w =
    (f : Fixed D) (recorded : Built) (base : State Text Own) (gone : List Text) (b : Book) (old j : Seen D)
    → AreBooksAt w f recorded base gone b old → Reads w old j
    → AreBooksAt w f recorded base gone b j × ShowsTold w f b (told f b ++ doubt f b old) old j

abbrev pub PagesKeepTheBooks : {D : Type 0} → DiskWords D → Type 0
PagesKeepTheBooks {D} w =
    (f : Fixed D) (recorded : Built) (base : State Text Own) (gone : List Text) (b : Book) (extents : List Extent) (old j : Seen D)
    → AreBooksAt w f recorded base gone b old → AreBeside w (record { opening = f.opening; geometry = f.geometry; told = told f b; doubted = doubted f.opening b.entries b.place; recorded = recorded; rows = b.rows }) extents old j
    → AreBooksAt w f recorded base gone b j × ShowsTold w f b (told f b) old j

-- At rest each image shows a front of what was told, with what is in doubt.
abbrev pub BooksShowTheirImages : {D : Type 0} → DiskWords D → Type 0
BooksShowTheirImages {D} w =
    (f : Fixed D) (recorded : Built) (base : State Text Own) (gone : List Text) (b : Book) (j : Seen D)
    → AreBooksAt w f recorded base gone b j → ShowsTold w f b (told f b ++ doubt f b j) j j

-- With nothing kept back and no gate in doubt, each image that a crash may leave now stands for all that was told.
abbrev pub BooksStandAtRest : {D : Type 0} → DiskWords D → Type 0
BooksStandAtRest {D} w =
    (f : Fixed D) (recorded : Built) (base : State Text Own) (gone : List Text) (b : Book) (j : Seen D)
    → AreBooksAt w f recorded base gone b j → b.back.count ≡ 0 → j.in_doubt ≡ false → StandsWhole w f b j

-- Where the last change that was told is a content and nothing is in doubt, the disk as it reads stands for all that was told,
-- wherever a crash may come at all.
abbrev pub BooksStandAtAContent : {D : Type 0} → DiskWords D → Type 0
BooksStandAtAContent {D} w =
    (f : Fixed D) (recorded : Built) (base : State Text Own) (gone : List Text) (b : Book) (j : Seen D)
    → AreBooksAt w f recorded base gone b j → w.tells → (n : ℕ) → IsContentAt (told f b) n → n + 1 ≡ length (told f b)
    → doubted f.opening b.entries b.place ≡ [] → w.crashes → Stands (w.content j.disk) (durable f.opening (told f b))

-- The state of books between calls is that of a legal history, and is kept as such.
pub record BooksKeepTheState {D : Type 0} (w : DiskWords D) : Type 0 where
  pub known : (f : Fixed D) (recorded : Built) (base : State Text Own) (gone : List Text) (b : Book) (j : Seen D) → AreBooksAt w f recorded base gone b j → state_after f.opening b.entries ≡ fold evicted base gone
  pub kept : (f : Fixed D) (recorded : Built) (base : State Text Own) (b : Book) (j : Seen D) → AreBooksAt w f recorded base [] b j → Kept b.machine
  pub whole : (f : Fixed D) (recorded : Built) (base : State Text Own) (b : Book) (j : Seen D) → AreBooksAt w f recorded base [] b j → IsWhole base
  pub short : (f : Fixed D) (recorded : Built) (base : State Text Own) (gone : List Text) (b : Book) (j : Seen D) → AreBooksAt w f recorded base gone b j → length b.entries < 2 ^ 34

-- A rise behind the books' counts is one more. Pending calls have no fault.
pub record FaultsAreCounted {D : Type 0} (w : DiskWords D) : Type 0 where
  pub more : (begun : ℕ) (old new : D) (h : List Entry) (d : Bool) → AreCounted begun (w.faults old) h d → Rose (w.faults old) (w.faults new) → w.faults old ≤ w.faults new → RoseBy (disk_faults h + 1) begun (w.faults new)
  pub pending : (s : State Text Own) (k : ℕ) (h es : List Entry) → ArePendingFor w.tells s k es → disk_faults (h ++ es) ≡ disk_faults h
