-- A commit of what is kept back alone, over the rows and buckets that the shared state lends.
use Rattle.std.proofs.Common.{◌≡◌, inl, ℕ, ◌≤◌, Bool, true, false, List, [], ◌++◌, refl, sym, ap, ◌∙◌, subst, append-nil, arith}
use Rattle.std.specs.Prelude.{if◌then◌else◌}
use Rattle.opfs_base.specs.Texts.{Text}
use Rattle.opfs_books.specs.Stored.Spelled.{stored_built}
use Rattle.opfs_books.specs.Laws.Books.{Fixed, Book, AreBooksAt}
use Rattle.opfs_books.specs.Laws.Laws.{LeavesPages, ShowsTold, told, doubt, BooksShowTheirImages}
use Rattle.opfs_commit.specs.Calls.{IsAnyOf, IsNoneOf, IsNext, IsNextAlone, stored_in}
use Rattle.opfs_commit.specs.Seen.{KeptBack, Committing, committing}
use Rattle.opfs_commit.specs.Shown.{ShowsSince, IsShown}
use Rattle.opfs_commit.proofs.Holding.{shown_more}
use Rattle.opfs_journal.specs.Calls.{IsSettled, IsUnsettled}
use Rattle.opfs_journal.specs.Clauses.{Outside}
use Rattle.opfs_outside.specs.Bytes.{Same}
use Rattle.opfs_outside.specs.Moments.{Elapses, elapses-trans, each_of_both}
use Rattle.opfs_laws.specs.Histories.Doubts.{doubted}
use Rattle.opfs_codec.specs.declared.change.Change.{Change as Spelled}
use Rattle.opfs_journal.specs.Format.{Stored}
use Rattle.opfs_journal.specs.Seen.{Seen}
use Rattle.opfs_hist.specs.declared.entry.Entry.{Entry}
use Rattle.opfs_machine.specs.Changes.{Change, floor}
use Rattle.opfs_machine.specs.declared.own.Own.{Own}
use Rattle.opfs_machine.specs.declared.state.State.{State}
use Rattle.opfs_outside.specs.declared.disk.Disk.{Ghosts as DiskWords}
use Rattle.opfs_records.specs.Replay.Built.{Built}
use Rattle.opfs_records.specs.Replay.Sums.{persistent_in}
use Rattle.opfs_shed.specs.Buckets.{Storage}
use Rattle.opfs_state_rows.specs.Standing.Seen.{Machine}
use Rattle.opfs_tree.specs.Rows.{Rows}

module _ {D : Type 0} (w : DiskWords D) (m : Machine) (t : Rows) (rows : Rows) (shed : Storage) (same : rows ≡ t) (modes : persistent_in shed.buckets ≡ m.persistent) where
  lent : stored_in rows shed ≡ stored_built t m.persistent
  lent = λ i. stored_built (same i) (modes i)

  module _ (old j : Seen D) (back back2 : KeptBack) where
    pub any-lent : IsAnyOf w (IsNextAlone (stored_in rows shed) (committing old back)) (committing old back) (committing j back2) → IsAnyOf w (IsNextAlone (stored_built t m.persistent) (committing old back)) (committing old back) (committing j back2)
    any-lent any = subst (λ (x : Built). IsAnyOf w (IsNextAlone x (committing old back)) (committing old back) (committing j back2)) lent any

    pub none-lent : IsNoneOf w (IsNextAlone (stored_in rows shed) (committing old back)) (committing old back) (committing j back2) → IsNoneOf w (IsNextAlone (stored_built t m.persistent) (committing old back)) (committing old back) (committing j back2)
    none-lent none = subst (λ (x : Built). IsNoneOf w (IsNextAlone x (committing old back)) (committing old back) (committing j back2)) lent none

    module _ (own : Spelled) where
      pub any-own-lent : IsAnyOf w (IsNext (stored_in rows shed) own (committing old back)) (committing old back) (committing j back2) → IsAnyOf w (IsNext (stored_built t m.persistent) own (committing old back)) (committing old back) (committing j back2)
      any-own-lent any = subst (λ (x : Built). IsAnyOf w (IsNext x own (committing old back)) (committing old back) (committing j back2)) lent any

      pub none-own-lent : IsNoneOf w (IsNext (stored_in rows shed) own (committing old back)) (committing old back) (committing j back2) → IsNoneOf w (IsNext (stored_built t m.persistent) own (committing old back)) (committing old back) (committing j back2)
      none-own-lent none = subst (λ (x : Built). IsNoneOf w (IsNext x own (committing old back)) (committing old back) (committing j back2)) lent none

-- A commit leaves all pages, also one that failed.
pub any-leaves : {D : Type 0} (w : DiskWords D) (Kind : Stored → Type 0) (old new : Committing D) → IsAnyOf w Kind old new → LeavesPages w old.journal new.journal
any-leaves w Kind old new any = record {
  stays = any.committed.journal.stays;
  later = any.committed.journal.later;
  outside = λ t. (any.committed.journal.told t).written.outside;
  time = λ t. (any.committed.journal.told t).written.time;
}

pub none-leaves : {D : Type 0} (w : DiskWords D) (Kind : Stored → Type 0) (old new : Committing D) → IsNoneOf w Kind old new → LeavesPages w old.journal new.journal
none-leaves w Kind old new none = record {
  stays = none.halted.journal.stays;
  later = none.halted.journal.later;
  outside = λ t. (none.halted.journal.told t).written.outside;
  time = λ t. (none.halted.journal.told t).written.time;
}

-- So does the end of a doubt, and one that failed.
same-leaves : {D : Type 0} (w : DiskWords D) (old new : Seen D) → new ≡ old → Same (Outside old.areas) (w.content new.disk) (w.content old.disk) × Elapses w.moment w.since old.disk new.disk
same-leaves {D} w old new same =
    subst (λ (x : Seen D). Same (Outside old.areas) (w.content x.disk) (w.content old.disk) × Elapses w.moment w.since old.disk x.disk) (sym same)
    (λ i out. refl, record { later = omega arith; split = λ t c le left. inl left; keeps = λ t c le left. left })

pub settled-leaves : {D : Type 0} (w : DiskWords D) (old new : Seen D) → IsSettled w old new → LeavesPages w old new
settled-leaves w old new is =
    let either : w.tells → Same (Outside old.areas) (w.content new.disk) (w.content old.disk) × Elapses w.moment w.since old.disk new.disk = λ t.
    elim old.in_doubt as (λ d. old.in_doubt ≡ d → Same (Outside old.areas) (w.content new.disk) (w.content old.disk) × Elapses w.moment w.since old.disk new.disk) [
      | true ↦ λ d. ((is.told t d).written.outside, (is.told t d).written.time)
      | false ↦ λ d. same-leaves w old new (is.none d)
    ] refl in
    record { stays = is.stays; later = is.later; outside = λ t. (either t).0; time = λ t. (either t).1 }

pub unsettled-leaves : {D : Type 0} (w : DiskWords D) (old new : Seen D) → IsUnsettled w old new → LeavesPages w old new
unsettled-leaves w old new is = record { stays = is.stays; later = is.later; outside = λ t. (is.told t).written.outside; time = λ t. (is.told t).written.time }

-- Two such calls, one after the other.
pub both-leave : {D : Type 0} (w : DiskWords D) → (w.tells → (d : D) (t u : ℕ) (c : List ℕ) → t ≤ u → w.since d u c → w.since d t c) → (old mid new : Seen D) → LeavesPages w old mid → LeavesPages w mid new → LeavesPages w old new
both-leave w falls old mid new a b = record {
  stays = record { areas = b.stays.areas ∙ a.stays.areas; length = b.stays.length ∙ a.stays.length; spare = b.stays.spare ∙ a.stays.spare };
  later = omega (arith, a.later, b.later);
  outside = λ t i out. b.outside t i (subst (λ areas. Outside areas i) (sym a.stays.areas) out) ∙ a.outside t i out;
  time = λ t. elapses-trans w.moment w.since (falls t) old.disk mid.disk new.disk (a.time t) (b.time t);
}

-- What the images show in the end of a doubt and a commit behind it.
pub both-shown : {D : Type 0} (w : DiskWords D) → (w.tells → (d : D) (t u : ℕ) (c : List ℕ) → t ≤ u → w.since d u c → w.since d t c) → (f : Fixed D) (b next : Book) (old mid new : Seen D) (all : List Change) → LeavesPages w old mid → LeavesPages w mid new
    → next.entries ≡ b.entries → ShowsTold w f b (told f b ++ all) old mid → ShowsTold w f next (told f next) mid new → ShowsTold w f b (told f b ++ all) old new
both-shown w falls f b next old mid new all a c same first second t =
    let behind : ShowsTold w f b (told f b) mid new = subst (λ (es : List Entry). ShowsTold w f (record b { entries = es }) (told f (record b { entries = es })) mid new) same second in
    each_of_both w.moment w.since (falls t) old.disk mid.disk new.disk (λ x. IsShown f.opening (floor (told f b)) (told f b ++ all) x) (a.time t) (c.time t) (first t)
    (λ x left. shown_more f.opening (floor (told f b)) (told f b) all x (behind t x left))

-- Nothing is done: the books are as they were.
pub same-books : {D : Type 0} (w : DiskWords D) (f : Fixed D) (recorded : Built) (base : State Text Own) (gone : List Text) (b next : Book) (old new : Seen D) → next ≡ b → new ≡ old
    → AreBooksAt w f recorded base gone b old → AreBooksAt w f recorded base gone next new
same-books {D} w f recorded base gone b next old new same still are =
    subst (λ (x : Book). AreBooksAt w f recorded base gone x new) (sym same) (subst (λ (x : Seen D). AreBooksAt w f recorded base gone b x) (sym still) are)

-- What is kept back was committed, or there was nothing.
pub either-books : {D : Type 0} (w : DiskWords D) (f : Fixed D) (recorded : Built) (base : State Text Own) (gone : List Text) (mid new : Book) (middle j : Seen D) (written : Bool) → AreBooksAt w f recorded base gone mid middle
    → (written ≡ true → AreBooksAt w f mid.rows base gone new j) → (written ≡ false → (new ≡ mid) × (j ≡ middle)) → (after : Built) × AreBooksAt w f after base gone new j
either-books w f recorded base gone mid new middle j written are committed untouched = elim written as (λ v. written ≡ v → (after : Built) × AreBooksAt w f after base gone new j) [
  | true ↦ λ is. (mid.rows, committed is)
  | false ↦ λ is. (recorded, same-books w f recorded base gone mid new middle j (untouched is).0 (untouched is).1 are)
] refl

pub sure-doubt : {D : Type 0} (f : Fixed D) (b : Book) (j : Seen D) → j.in_doubt ≡ false → told f b ++ doubt f b j ≡ told f b
sure-doubt f b j is = ap (λ (d : Bool). told f b ++ (if d then doubted f.opening b.entries b.place else [])) is ∙ append-nil (told f b)

-- Nothing is done: the images show what was told.
pub rest-shown : {D : Type 0} (w : DiskWords D) → BooksShowTheirImages w → (f : Fixed D) (recorded : Built) (base : State Text Own) (gone : List Text) (b : Book) (j : Seen D) → AreBooksAt w f recorded base gone b j → j.in_doubt ≡ false
    → ShowsTold w f b (told f b) j j
rest-shown w shows f recorded base gone b j are is t = subst (λ all. ShowsSince w f.opening (floor (told f b)) all j.disk j.disk) (sure-doubt f b j is) (shows f recorded base gone b j are t)
