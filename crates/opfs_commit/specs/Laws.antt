-- The laws of images that a crash may leave while changes are committed. This project's own.
use Rattle.std.specs.Prelude.{◌≡◌, ℕ, ◌+◌, ◌≤◌, ◌++◌, false, List, [], ◌∷◌, length, Some}
use Rattle.opfs_base.specs.declared.extents.Extent.{Extent}
use Rattle.opfs_codec.specs.Spelling.{IsChange}
use Rattle.opfs_codec.specs.declared.change.Change.{Change as Spelled}
use Rattle.opfs_codec.specs.declared.change.Format.TheVariants.{New}
use Rattle.opfs_commit.specs.Calls.{IsCommitted, IsHalted, IsNext, IsNextAlone}
use Rattle.opfs_commit.specs.Images.{Account, AreImages, committed, doubting, keeping, sure}
use Rattle.opfs_commit.specs.Making.{IsToStore, IsKept, IsReadyFor, IsOwn, IsWhole, IsBegun, AreBeside, begun_with, told_as, new_bytes}
use Rattle.opfs_commit.specs.Seen.{KeptBack, Committing, committing, with_kept, with_back, with_own, IsQuiet}
use Rattle.opfs_commit.specs.Shown.{ShowsSince, ShowsEither}
use Rattle.opfs_commit.specs.Trail.{IsContentAt, IsTrail}
use Rattle.opfs_data.specs.Calls.{Reads}
use Rattle.opfs_image.specs.Filling.{Stands, filled}
use Rattle.opfs_image.specs.Superblock.{area_bytes, areas_of, data_base}
use Rattle.opfs_image.specs.declared.geometry.Geometry.{Geometry}
use Rattle.opfs_journal.specs.Calls.{IsOneOf, IsSettled, IsUnsettled, MayBe}
use Rattle.opfs_journal.specs.Format.{Stored, records_of}
use Rattle.opfs_journal.specs.Seen.{Seen, Stays, kept, one_record}
use Rattle.opfs_machine.specs.Changes.{Change, changed, durable, is_content, floor}
use Rattle.opfs_machine.specs.Openings.{Opening}
use Rattle.opfs_outside.specs.Moments.{Elapses}
use Rattle.opfs_outside.specs.declared.disk.Disk.{Ghosts as DiskWords}
use Rattle.opfs_records.specs.Replay.Applying.{tried}
use Rattle.opfs_records.specs.Replay.Built.{Built, IsSound}
use Rattle.opfs_records.specs.Replay.Sums.{charge_of}
use Rattle.opfs_tree.specs.Rows.{IsInOrder}

-- Each image that a crash may leave now shows a front of what was told, with what is in doubt, at least up to the last
-- content.
abbrev pub ImagesShowFronts : {D : Type 0} → DiskWords D → Type 0
ImagesShowFronts {D} w = (a : Account) (k : Committing D) → AreImages w a k → ShowsSince w a.opening (floor a.told) (a.told ++ a.doubted) k.journal.disk k.journal.disk

-- Records that were written with success are durable, with all that was kept back.
abbrev pub RecordsAreDurable : {D : Type 0} → DiskWords D → Type 0
RecordsAreDurable {D} w =
    (a : Account) (own : List Change) (next : Stored) (built : Built) (old new : Committing D) → IsReadyFor w a own next built old → IsCommitted w next old new → AreImages w (committed a own built) new

-- Where the disk failed, they may be in doubt.
abbrev pub RecordsMayBeInDoubt : {D : Type 0} → DiskWords D → Type 0
RecordsMayBeInDoubt {D} w =
    (a : Account) (own : List Change) (next : Stored) (built : Built) (old new : Committing D) → IsReadyFor w a own next built old → IsHalted w next old new → AreImages w (doubting a own) new

-- At each moment of a call that writes records, an image shows a front of what was told with what is stored, at least up to
-- the last content that was told.
abbrev pub RecordsShowFronts : {D : Type 0} → DiskWords D → Type 0
RecordsShowFronts {D} w =
    (a : Account) (own : List Change) (next : Stored) (built : Built) (old new : Committing D) → IsReadyFor w a own next built old → Stays w.size old.journal new.journal → IsOneOf w next old.journal new.journal
    → ShowsSince w a.opening (floor a.told) (a.told ++ own) old.journal.disk new.journal.disk

-- After the end of a doubt nothing is in doubt; where the disk failed in it, all is as before.
abbrev pub DoubtsEnd : {D : Type 0} → DiskWords D → Type 0
DoubtsEnd {D} w = (a : Account) (back : KeptBack) (old new : Seen D) → AreImages w a (committing old back) → IsSettled w old new → AreImages w (sure a) (committing new back)

-- Without a gate in doubt it does not matter what would be.
abbrev pub DoubtsNeedAGate : {D : Type 0} → DiskWords D → Type 0
DoubtsNeedAGate {D} w = (a : Account) (own : List Change) (k : Committing D) → AreImages w a k → k.journal.in_doubt ≡ false → AreImages w (doubting a own) k

abbrev pub DoubtsMayStay : {D : Type 0} → DiskWords D → Type 0
DoubtsMayStay {D} w = (a : Account) (back : KeptBack) (old new : Seen D) → AreImages w a (committing old back) → IsUnsettled w old new → AreImages w a (committing new back)

-- At each moment of it an image shows a front of what was told with what was in doubt.
abbrev pub EndsShowFronts : {D : Type 0} → DiskWords D → Type 0
EndsShowFronts {D} w =
    (a : Account) (back : KeptBack) (old new : Seen D) → AreImages w a (committing old back) → IsSettled w old new → ShowsSince w a.opening (floor a.told) (a.told ++ a.doubted) old.disk new.disk

abbrev pub FailedEndsShowFronts : {D : Type 0} → DiskWords D → Type 0
FailedEndsShowFronts {D} w =
    (a : Account) (back : KeptBack) (old new : Seen D) → AreImages w a (committing old back) → IsUnsettled w old new → ShowsSince w a.opening (floor a.told) (a.told ++ a.doubted) old.disk new.disk

-- One change more is kept back.
abbrev pub ChangesAreKeptBack : {D : Type 0} → DiskWords D → Type 0
ChangesAreKeptBack {D} w =
    (a : Account) (k : Committing D) (spelled : Spelled) (change : Change) (built : Built) → AreImages w a k → k.journal.in_doubt ≡ false → IsKept a spelled change built
    → AreImages w (keeping a change built) (committing k.journal (with_kept k.back spelled))

-- Which records are to be stored: one of what is kept back with one change more, one of what is kept back alone, and one
-- that builds all from nothing.
abbrev pub OwnIsToStore : {D : Type 0} → DiskWords D → Type 0
OwnIsToStore {D} w =
    (a : Account) (k : Committing D) (spelled : Spelled) (change : Change) (built : Built) → AreImages w a k → k.journal.in_doubt ≡ false → k.back.long ≡ false → IsOwn w a spelled change built k.journal
    → IsToStore w a (change ∷ []) (with_own k spelled) built k.journal

abbrev pub KeptIsToStore : {D : Type 0} → DiskWords D → Type 0
KeptIsToStore {D} w =
    (a : Account) (k : Committing D) → AreImages w a k → k.journal.in_doubt ≡ false → k.back.long ≡ false → charge_of New a.rows + 7 ≤ area_bytes a.geometry
    → IsToStore w a [] (with_back k) a.rows k.journal

abbrev pub WholeIsToStore : {D : Type 0} → DiskWords D → Type 0
WholeIsToStore {D} w =
    (a : Account) (k : Committing D) (own : List Change) (body : List ℕ) (built : Built) → AreImages w a k → k.journal.in_doubt ≡ false → IsWhole w a own body built k.journal
    → IsToStore w a own (one_record k.journal.format body) built k.journal

-- So are those of a commit, which writes one or the other.
abbrev pub NextIsToStore : {D : Type 0} → DiskWords D → Type 0
NextIsToStore {D} w =
    (a : Account) (k : Committing D) (spelled : Spelled) (change : Change) (built : Built) (next : Stored) → AreImages w a k → k.journal.in_doubt ≡ false → IsSound a.geometry.blocks a.rows.rows → IsOwn w a spelled change built k.journal
    → IsNext a.rows spelled k next → IsToStore w a (change ∷ []) next built k.journal

abbrev pub NextAloneIsToStore : {D : Type 0} → DiskWords D → Type 0
NextAloneIsToStore {D} w =
    (a : Account) (k : Committing D) (next : Stored) → AreImages w a k → k.journal.in_doubt ≡ false → IsSound a.geometry.blocks a.rows.rows → charge_of New a.rows + 7 ≤ area_bytes a.geometry → IsNextAlone a.rows k next
    → IsToStore w a [] next a.rows k.journal

-- A run begins with its image.
abbrev pub RunsBeginWithTheirImage : {D : Type 0} → DiskWords D → Type 0
RunsBeginWithTheirImage {D} w = (o : Opening) (g : Geometry) (built : Built) (recovered : Seen D) (k : Committing D) → IsBegun w o g built recovered k → AreImages w (begun_with o g built) k

-- The present rows hold, in the content, all that was told. With nothing kept back, a content that has the journal's records
-- stands for it.
abbrev pub RowsHoldWhatWasTold : {D : Type 0} → DiskWords D → Type 0
RowsHoldWhatWasTold {D} w = (a : Account) (k : Committing D) → AreImages w a k → filled (data_base a.geometry) (w.content k.journal.disk) a.rows ≡ durable a.opening a.told

abbrev pub ContentsStand : {D : Type 0} → DiskWords D → Type 0
ContentsStand {D} w =
    (a : Account) (k : Committing D) → AreImages w a k → k.back.count ≡ 0 → records_of (areas_of a.geometry) (w.content k.journal.disk) ≡ Some (kept k.journal) → Stands (w.content k.journal.disk) (durable a.opening a.told)

-- With nothing kept back and no gate in doubt, each image that a crash may leave now stands for all that was told.
abbrev pub ImagesStand : {D : Type 0} → DiskWords D → Type 0
ImagesStand {D} w =
    (a : Account) (k : Committing D) → AreImages w a k → k.back.count ≡ 0 → k.journal.in_doubt ≡ false → (c : List ℕ) → MayBe w k.journal c → Stands c (durable a.opening a.told)

-- The content stands for all that was told where the last change of it is a content, behind which nothing is kept back, and
-- nothing is in doubt: whichever records it has.
abbrev pub LastContentsStand : {D : Type 0} → DiskWords D → Type 0
LastContentsStand {D} w =
    (a : Account) (k : Committing D) (n : ℕ) → AreImages w a k → IsContentAt a.told n → n + 1 ≡ length a.told → a.doubted ≡ [] → w.crashes → Stands (w.content k.journal.disk) (durable a.opening a.told)

-- A call that only reads leaves the images as they are, and so does one that writes pages aside of what the records name. At
-- each moment of it an image shows what one of before may show.
abbrev pub ReadsLeaveImages : {D : Type 0} → DiskWords D → Type 0
ReadsLeaveImages {D} w = (a : Account) (back : KeptBack) (old new : Seen D) → AreImages w a (committing old back) → Reads w old new → AreImages w a (committing new back)

abbrev pub ReadsShowFronts : {D : Type 0} → DiskWords D → Type 0
ReadsShowFronts {D} w =
    (a : Account) (back : KeptBack) (old new : Seen D) → AreImages w a (committing old back) → Reads w old new → ShowsSince w a.opening (floor a.told) (a.told ++ a.doubted) old.disk new.disk

abbrev pub PagesBesideLeaveImages : {D : Type 0} → DiskWords D → Type 0
PagesBesideLeaveImages {D} w =
    (a : Account) (back : KeptBack) (extents : List Extent) (old new : Seen D) → AreImages w a (committing old back) → AreBeside w a extents old new → AreImages w a (committing new back)

abbrev pub PagesBesideShowFronts : {D : Type 0} → DiskWords D → Type 0
PagesBesideShowFronts {D} w =
    (a : Account) (back : KeptBack) (extents : List Extent) (old new : Seen D) → AreImages w a (committing old back) → AreBeside w a extents old new → ShowsSince w a.opening (floor a.told) a.told old.disk new.disk

-- What is shown in two calls, one after the other, is shown in both together.
abbrev pub MomentsFollow : {D : Type 0} → DiskWords D → Type 0
MomentsFollow {D} w =
    (o : Opening) (least later : ℕ) (all more : List Change) (old mid new : D) → Elapses w.moment w.since old mid → Elapses w.moment w.since mid new → least ≤ later
    → ShowsSince w o least all old mid → ShowsSince w o later (all ++ more) mid new → Elapses w.moment w.since old new × ShowsSince w o least (all ++ more) old new

-- So it is where the first of them ends a doubt, whose changes no other has.
abbrev pub MomentsFollowADoubt : {D : Type 0} → DiskWords D → Type 0
MomentsFollowADoubt {D} w =
    (o : Opening) (least later : ℕ) (all others : List Change) (old mid new : D) → Elapses w.moment w.since old mid → Elapses w.moment w.since mid new → least ≤ later
    → ShowsSince w o least others old mid → ShowsSince w o later all mid new → ShowsEither w o least all others old new

abbrev pub MomentsGoOn : {D : Type 0} → DiskWords D → Type 0
MomentsGoOn {D} w =
    (o : Opening) (least later : ℕ) (all more others : List Change) (old mid new : D) → Elapses w.moment w.since old mid → Elapses w.moment w.since mid new → least ≤ later
    → ShowsEither w o least all others old mid → ShowsSince w o later (all ++ more) mid new → ShowsEither w o least (all ++ more) others old new

-- The trail of a run begins with the run, goes on with a call that tells nothing more, and grows with one that keeps a change
-- back or commits one.
abbrev pub TrailsBegin : {D : Type 0} → DiskWords D → Type 0
TrailsBegin {D} w = (o : Opening) (least : ℕ) (begun : D) → ShowsSince w o least [] begun begun → IsTrail w o [] begun begun

abbrev pub TrailsGoOn : {D : Type 0} → DiskWords D → Type 0
TrailsGoOn {D} w =
    (o : Opening) (told : List Change) (least : ℕ) (begun old new : D) → IsTrail w o told begun old → Elapses w.moment w.since old new → ShowsSince w o least told old new → IsTrail w o told begun new

abbrev pub TrailsGrowKept : {D : Type 0} → DiskWords D → Type 0
TrailsGrowKept {D} w = (o : Opening) (told : List Change) (change : Change) (begun now : D) → IsTrail w o told begun now → is_content change ≡ false → IsTrail w o (told ++ change ∷ []) begun now

abbrev pub TrailsGrowCommitted : {D : Type 0} → DiskWords D → Type 0
TrailsGrowCommitted {D} w =
    (a : Account) (change : Change) (built : Built) (least : ℕ) (begun old : D) (new : Committing D) → IsTrail w a.opening a.told begun old → Elapses w.moment w.since old new.journal.disk
    → ShowsSince w a.opening least (a.told ++ change ∷ []) old new.journal.disk → AreImages w (committed a (change ∷ []) built) new → new.back.count ≡ 0 → new.journal.in_doubt ≡ false
    → IsTrail w a.opening (a.told ++ change ∷ []) begun new.journal.disk

-- What a change makes of rows in order, it makes of what they hold in any image, with the bytes that the image has in the
-- blocks of a content. So one that is no content may be kept back.
abbrev pub ChangesGoThroughFilling : Type 0
ChangesGoThroughFilling =
    (size base : ℕ) (c : List ℕ) (b next : Built) (change : Spelled) → IsInOrder b.rows → tried New size b change ≡ Some next → filled base c next ≡ changed (filled base c b) (told_as (new_bytes base c change) change)

abbrev pub QuietChangesMayBeKept : Type 0
QuietChangesMayBeKept =
    (a : Account) (change : Spelled) (next : Built) → IsInOrder a.rows.rows → IsQuiet change → IsChange New change → tried New a.geometry.blocks a.rows change ≡ Some next → IsKept a change (told_as [] change) next
