-- What the calls of the books ask for, and what they leave. This project's own.
use Rattle.std.specs.Prelude.{◌≡◌, ◌<◌, ◌≤◌, false, List, [], ◌∷◌, ◌++◌, fold, length, Option, Some, None, Vec, is_some, IsTrue}
use Rattle.std.specs.Vec.{vec_capacity}
use Rattle.std.specs.declared.alloc.Global.{Global}
use Rattle.opfs_base.specs.Texts.{Text}
use Rattle.opfs_base.specs.declared.extents.Extent.{Extent}
use Rattle.opfs_books.specs.Laws.Books.{Fixed, IsNext, IsPlaced, AreBooks, AreBooksAt}
use Rattle.opfs_books.specs.Laws.Laws.{HasRisen, failed}
use Rattle.opfs_books.specs.Seen.{book_of, AreKnown, MayAnswer, MayCome, MayCommitCall, MayStore, BytesStand}
use Rattle.opfs_books.specs.Stored.Spelled.{spelled_by}
use Rattle.opfs_books.specs.declared.books.Books.{Books}
use Rattle.opfs_books.specs.declared.sharing.shared.Shared.{Ghosts as SharedWords}
use Rattle.opfs_codec.specs.Fields.{Fits}
use Rattle.opfs_codec.specs.Spelling.{IsChange}
use Rattle.opfs_codec.specs.declared.change.Change.{Change as Spelled}
use Rattle.opfs_codec.specs.declared.change.Change.TheVariants.{Evict}
use Rattle.opfs_codec.specs.declared.change.Format.TheVariants.{New}
use Rattle.opfs_commit.specs.Seen.{with_kept, IsQuiet}
use Rattle.opfs_hist.specs.declared.entry.Entry.{Entry}
use Rattle.opfs_journal.specs.Seen.{Seen}
use Rattle.opfs_machine.specs.Agents.{counted}
use Rattle.opfs_machine.specs.Contents.{in_lengths}
use Rattle.opfs_machine.specs.Effects.{effect, refused}
use Rattle.opfs_machine.specs.Replies.{sizes_of}
use Rattle.opfs_machine.specs.Rows.{row_at}
use Rattle.opfs_machine.specs.Runs.{eviction}
use Rattle.opfs_machine.specs.Steps.{evicted, is_refusal}
use Rattle.opfs_machine.specs.Sums.{is_persistent}
use Rattle.opfs_machine.specs.declared.own.Own.{Own}
use Rattle.opfs_machine.specs.declared.state.Sizes.{Sizes}
use Rattle.opfs_machine.specs.declared.state.State.{State}
use Rattle.opfs_outside.specs.Faults.{Rose}
use Rattle.opfs_outside.specs.declared.disk.Disk.{Ghosts as DiskWords}
use Rattle.opfs_records.specs.Replay.Built.{Built}
use Rattle.opfs_state_rows.specs.Changes.Changed.{tree_by, freed_in}
use Rattle.opfs_tree.specs.Rows.{extents_within, without}

-- A call that stores this may be committed and entered now, or entered as one in which the disk failed; and the runs that it
-- frees have room.
pub record MayStoreIn {S D : Type 0} (s : SharedWords S) (w : DiskWords D) (b : Books S) (j : Seen D) (e : Entry) (z : Sizes) (extents : Option (List Extent)) (own : Spelled) (free : Vec Extent Global) : Type 0 where
  pub come : MayCommitCall w (book_of s b) j e z own
  pub answers : MayAnswer (book_of s b) e z
  pub answered : is_refusal e.reply ≡ false
  pub settled : j.in_doubt ≡ false
  pub spelled : spelled_by (s.machine b.state) (s.tree b.state) e.agent e.op z extents ≡ Some own
  pub fits : Fits own
  pub may : s.may_apply b.state e.agent e.op z extents
  pub may_refuse : s.may_refuse b.state e.agent e.op
  pub room : length (free.items ++ freed_in (s.machine b.state) (s.tree b.state) e.agent e.op extents) ≤ vec_capacity free

-- Its entry stands, the state has changed as the call does, and nothing is kept back or in doubt any more.
pub record HasStored {S D : Type 0} (s : SharedWords S) (w : DiskWords D) (e : Entry) (z : Sizes) (extents : Option (List Extent)) (own : Spelled) (b new : Books S) (old j : Seen D) (free after : List Extent) : Type 0 where
  pub entries : new.history ≡ b.history ++ e ∷ []
  pub machine : s.machine new.state ≡ counted (effect in_lengths (s.machine b.state) z e.agent e.op) e.agent
  pub tree : s.tree new.state ≡ tree_by (s.machine b.state) (s.tree b.state) e.agent e.op z extents
  pub idle : (s.standby new.state).prepared.place ≡ None
  pub none : new.commits.count ≡ 0
  pub place : new.place ≡ None
  pub sure : j.in_doubt ≡ false
  pub freed : after ≡ free ++ freed_in (s.machine b.state) (s.tree b.state) e.agent e.op extents
  pub books : (f : Fixed D) (recorded : Built) (base : State Text Own) (gone : List Text) → AreBooksAt w f recorded base gone (book_of s b) old
      → IsNext w.tells base gone e → z ≡ sizes_of (fold evicted base gone) e.agent e.op → MayStore f (book_of s b) own → BytesStand w f base gone old e own
      → AreBooks w f (book_of s new).rows (book_of s new) j

-- The disk failed in a commit for a call: the call is entered so, what it would have stored next may be in doubt, and all else is as
-- it was.
pub record HasFailedIn {S D : Type 0} (s : SharedWords S) (w : DiskWords D) (e : Entry) (b new : Books S) (old j : Seen D) (free after : Vec Extent Global) : Type 0 where
  pub entries : new.history ≡ b.history ++ failed e ∷ []
  pub machine : s.machine new.state ≡ counted (refused (s.machine b.state) e.agent e.op) e.agent
  pub tree : s.tree new.state ≡ s.tree b.state
  pub idle : (s.standby new.state).prepared.place ≡ None
  pub commits : new.commits ≡ b.commits
  pub place : new.place ≡ Some (length b.history)
  pub freed : after ≡ free
  pub cause : Rose (w.faults old.disk) (w.faults j.disk)

-- A unit may be cleared now for a call, or the call entered as one in which the disk failed; and the runs that it frees have
-- room.
pub record MayEvictIn {S D : Type 0} (s : SharedWords S) (w : DiskWords D) (b : Books S) (j : Seen D) (unit : Text) (first e : Entry) (free : Vec Extent Global) : Type 0 where
  pub known : AreKnown w (book_of s b) j
  pub placed : IsPlaced b.history e.agent
  pub settled : j.in_doubt ≡ false
  pub told : first ≡ eviction unit
  pub root : IsTrue (is_some (row_at (s.machine b.state) (unit, [])))
  pub mode : is_persistent (s.machine b.state) unit ≡ false
  pub again : IsChange New (Evict unit)
  pub may : s.may_clear b.state unit
  pub may_refuse : s.may_refuse b.state e.agent e.op
  pub room : length (free.items ++ extents_within (unit, []) (s.tree b.state)) ≤ vec_capacity free

-- Its eviction stands, it is cleared in the state, and nothing is kept back or in doubt any more.
pub record HasEvicted {S D : Type 0} (s : SharedWords S) (w : DiskWords D) (unit : Text) (b new : Books S) (old j : Seen D) (free after : List Extent) : Type 0 where
  pub entries : new.history ≡ b.history ++ eviction unit ∷ []
  pub machine : s.machine new.state ≡ evicted (s.machine b.state) unit
  pub tree : s.tree new.state ≡ without (unit, []) (s.tree b.state)
  pub standby : s.standby new.state ≡ s.standby b.state
  pub none : new.commits.count ≡ 0
  pub place : new.place ≡ None
  pub sure : j.in_doubt ≡ false
  pub freed : after ≡ free ++ extents_within (unit, []) (s.tree b.state)
  pub books : (f : Fixed D) (recorded : Built) (base : State Text Own) (others : List Text) → AreBooksAt w f recorded base others (book_of s b) old
      → AreBooksAt w f (book_of s new).rows base (others ++ unit ∷ []) (book_of s new) j

-- A call that stores what is no content may be entered now and its change kept back, beside 62 others at most; and the runs that
-- it frees have room.
pub record MayKeepIn {S D : Type 0} (s : SharedWords S) (w : DiskWords D) (b : Books S) (j : Seen D) (e : Entry) (z : Sizes) (extents : Option (List Extent)) (own : Spelled) (free : Vec Extent Global) : Type 0 where
  pub come : MayCommitCall w (book_of s b) j e z own
  pub answers : MayAnswer (book_of s b) e z
  pub answered : is_refusal e.reply ≡ false
  pub settled : j.in_doubt ≡ false
  pub few : b.commits.count < 63
  pub quiet : IsQuiet own
  pub spelled : spelled_by (s.machine b.state) (s.tree b.state) e.agent e.op z extents ≡ Some own
  pub fits : Fits own
  pub may : s.may_apply b.state e.agent e.op z extents
  pub room : length (free.items ++ freed_in (s.machine b.state) (s.tree b.state) e.agent e.op extents) ≤ vec_capacity free

-- A call's entry stands, the state has changed as the call does, and its change is kept back.
pub record HasKept {S D : Type 0} (s : SharedWords S) (w : DiskWords D) (e : Entry) (z : Sizes) (extents : Option (List Extent)) (own : Spelled) (b new : Books S) (j : Seen D) (free after : List Extent) : Type 0 where
  pub entries : new.history ≡ b.history ++ e ∷ []
  pub machine : s.machine new.state ≡ counted (effect in_lengths (s.machine b.state) z e.agent e.op) e.agent
  pub tree : s.tree new.state ≡ tree_by (s.machine b.state) (s.tree b.state) e.agent e.op z extents
  pub idle : (s.standby new.state).prepared.place ≡ None
  pub commits : new.commits ≡ with_kept b.commits own
  pub place : new.place ≡ None
  pub freed : after ≡ free ++ freed_in (s.machine b.state) (s.tree b.state) e.agent e.op extents
  pub books : (f : Fixed D) (recorded : Built) (base : State Text Own) (gone : List Text) → AreBooksAt w f recorded base gone (book_of s b) j
      → IsNext w.tells base gone e → z ≡ sizes_of (fold evicted base gone) e.agent e.op → MayStore f (book_of s b) own
      → AreBooks w f recorded (book_of s new) j

-- A call that stores nothing may be entered now, and the runs that it frees have room.
pub record MayTellIn {S D : Type 0} (s : SharedWords S) (w : DiskWords D) (b : Books S) (j : Seen D) (e : Entry) (z : Sizes) (extents : Option (List Extent)) (free : Vec Extent Global) : Type 0 where
  pub come : MayCome w (book_of s b) j e z
  pub answers : MayAnswer (book_of s b) e z
  pub answered : is_refusal e.reply ≡ false
  pub silent : spelled_by (s.machine b.state) (s.tree b.state) e.agent e.op z extents ≡ None
  pub may : s.may_apply b.state e.agent e.op z extents
  pub room : length (free.items ++ freed_in (s.machine b.state) (s.tree b.state) e.agent e.op extents) ≤ vec_capacity free

-- A call's entry stands, and the state has changed as the call does, which stores nothing.
pub record HasTold {S D : Type 0} (s : SharedWords S) (w : DiskWords D) (e : Entry) (z : Sizes) (extents : Option (List Extent)) (b new : Books S) (j : Seen D) (free after : List Extent) : Type 0 where
  pub entries : new.history ≡ b.history ++ e ∷ []
  pub machine : s.machine new.state ≡ counted (effect in_lengths (s.machine b.state) z e.agent e.op) e.agent
  pub tree : s.tree new.state ≡ tree_by (s.machine b.state) (s.tree b.state) e.agent e.op z extents
  pub idle : (s.standby new.state).prepared.place ≡ None
  pub commits : new.commits ≡ b.commits
  pub place : new.place ≡ b.place
  pub freed : after ≡ free ++ freed_in (s.machine b.state) (s.tree b.state) e.agent e.op extents
  pub books : (f : Fixed D) (recorded : Built) (base : State Text Own) (gone : List Text) → AreBooksAt w f recorded base gone (book_of s b) j
      → IsNext w.tells base gone e → z ≡ sizes_of (fold evicted base gone) e.agent e.op
      → AreBooks w f recorded (book_of s new) j

-- The entry of a call that is refused, or in which the disk failed and left no doubt of the call's own, stands, and all else is
-- as it was.
pub record HasRefused {S D : Type 0} (s : SharedWords S) (w : DiskWords D) (e : Entry) (b new : Books S) (j : Seen D) : Type 0 where
  pub entries : new.history ≡ b.history ++ e ∷ []
  pub machine : s.machine new.state ≡ counted (refused (s.machine b.state) e.agent e.op) e.agent
  pub tree : s.tree new.state ≡ s.tree b.state
  pub idle : (s.standby new.state).prepared.place ≡ None
  pub commits : new.commits ≡ b.commits
  pub place : new.place ≡ b.place
  pub books : (f : Fixed D) (recorded : Built) (base : State Text Own) (gone : List Text) → AreBooksAt w f recorded base gone (book_of s b) j
      → IsNext w.tells base gone e → HasRisen w f (book_of s b) e j
      → AreBooks w f recorded (book_of s new) j
