-- What a call leaves of the images at each moment.
use Rattle.std.proofs.Common.{◌≡◌, ℕ, ◌-◌, ◌<◌, ◌≤◌, Bool, true, false, if◌then◌else◌, List, [], ◌∷◌, ◌++◌, map, fold, length, Option, Some, None, refl, sym, ap, subst, ◌∙◌, inl, inr, arith}
use Rattle.std.proofs.lemmas.List.{length-append}
use Rattle.opfs_base.specs.Texts.{Text}
use Rattle.opfs_books.specs.Laws.Books.{Fixed, AreBooksAt}
use Rattle.opfs_books.specs.Laws.Fronts.{IsRecent, IsShownOnce}
use Rattle.opfs_books.proofs.laws.Fronts.{once-more, shown-once}
use Rattle.opfs_books.specs.Laws.Laws.{BooksShowTheirImages, BooksStandAtAContent, told, doubt}
use Rattle.opfs_commit.specs.Shown.{IsShown}
use Rattle.opfs_commit.specs.Trail.{IsContentAt}
use Rattle.opfs_commit.proofs.Holding.{floor_most}
use Rattle.opfs_hist.specs.Faults.{is_disk_fault}
use Rattle.opfs_hist.specs.declared.entry.Entry.{Entry}
use Rattle.opfs_laws.specs.Histories.Doubts.{doubted}
use Rattle.opfs_laws.specs.Histories.Opened.{added}
use Rattle.opfs_laws.specs.Histories.Unread.{ArePendingFor}
use Rattle.opfs_machine.specs.declared.own.Own.{Own}
use Rattle.opfs_machine.specs.declared.state.State.{State}
use Rattle.opfs_machine.specs.Changes.{Change, changes, entry_changes, evict, floor}
use Rattle.opfs_machine.specs.Histories.{state_after}
use Rattle.opfs_machine.specs.Openings.{Opening}
use Rattle.opfs_machine.specs.Runs.{Call, eviction}
use Rattle.opfs_machine.specs.Steps.{evicted}
use Rattle.opfs_outside.specs.declared.disk.Disk.{Ghosts as DiskWords}
use Rattle.opfs_records.specs.Replay.Built.{Built}
use Rattle.opfs_store.specs.Acts.Acting.{told_entry}
use Rattle.opfs_store.specs.declared.acts.acted.Acted.{Acted}
use Rattle.opfs_work.specs.Works.{WorkingCopy}
use Rattle.opfs_desk_steps.specs.Parts.Acted.{HasActed}
use Rattle.opfs_desk_steps.specs.Parts.Seen.{book_in}
use Rattle.opfs_desk_steps.specs.declared.parts.parts.DeskParts.{DeskParts}
use Rattle.opfs_desk_steps.specs.declared.parts.parts.Ledger.{Ledger}
use Rattle.opfs_desk_steps.proofs.book_steps.Taken.{pending-told}
use Rattle.opfs_desk.specs.Keeping.{IsKept}
use Rattle.opfs_desk.specs.Moments.{KeepsContents, ShowsFronts}
use Rattle.opfs_desk.specs.Resting.{IsAtRest}
use Rattle.opfs_desk.proofs.Keeping.{kept-on}
use Rattle.opfs_desk.proofs.Moments.{IsLastContent, fronts-on, keeps-on, kept-now, last-content}
use Rattle.opfs_desk.proofs.Storing.{added-changes, own-few}
use Rattle.opfs_desk.proofs.Sure.{none-doubted, recent-if, recent-last, stored-no-fault}

-- the entry whose change is in doubt, if there is a doubt
pub doubt-by : (b : Bool) (o : Opening) (h : List Entry) (place : Option ℕ) → (if b then doubted o h place else []) ≡ doubted o h (if b then place else None)
doubt-by true o h place = refl
doubt-by false o h place = refl

doubt-none : (b : Bool) (cs : List Change) → cs ≡ [] → (if b then cs else []) ≡ []
doubt-none true cs none = none
doubt-none false cs none = refl

-- ---- images over books

module _ {D : Type 0} (w : DiskWords D) (f : Fixed D) (l : Ledger D) where
  -- With what is in doubt.
  pub once-doubt : IsRecent f.opening l.books.history l.books.place → (least : ℕ) → least ≤ length (changes f.opening l.books.history) → (c : List ℕ) → IsShown f.opening least (told f (book_in l) ++ doubt f (book_in l) l.journal) c → IsShownOnce f.opening least l.books.history c
  once-doubt recent least full c is =
      shown-once f.opening least l.books.history (if l.journal.in_doubt then l.books.place else None) c (recent-if l.journal.in_doubt f.opening l.books.history l.books.place recent) full
      (subst (λ (more : List Change). IsShown f.opening least (changes f.opening l.books.history ++ more) c) (doubt-by l.journal.in_doubt f.opening l.books.history l.books.place) is)

  -- Those that a crash may leave now.
  pub once-now : BooksShowTheirImages w → (recorded : Built) (base : State Text Own) (gone : List Text) → AreBooksAt w f recorded base gone (book_in l) l.journal → w.tells
      → (c : List ℕ) → w.since l.journal.disk (w.moment l.journal.disk) c → IsShownOnce f.opening (floor (changes f.opening l.books.history)) l.books.history c
  once-now law recorded base gone are t c left = once-doubt are.recent (floor (told f (book_in l))) (floor_most (told f (book_in l))) c (law f recorded base gone (book_in l) l.journal are t c left)

-- ---- a call

module _ {D : Type 0} (w : DiskWords D) (f : Fixed D) (old new : DeskParts D) (calls : List Entry) (c : Call) (before after : WorkingCopy) (done : Acted) (rest : IsAtRest w f old)
    (pending : ArePendingFor w.tells (state_after f.opening old.ledger.books.history) c.agent calls) (has : HasActed w f old new calls c before after done) where
  abbrev o : Opening
  o = f.opening

  abbrev h : List Entry
  h = old.ledger.books.history

  abbrev now : List Entry
  now = new.ledger.books.history

  abbrev gone : List Text
  gone = has.acted.gone

  abbrev entry : Entry
  entry = told_entry c done.reply

  abbrev own : List Change
  own = entry_changes (fold evicted (state_after o (h ++ calls)) gone) entry

  grown : now ≡ h ++ added calls gone entry
  grown = has.acted.grown

  some : 0 < length now
  some =
      let whole = ap (λ (es : List Entry). length es) grown ∙ length-append h (added calls gone entry) in
      let group = length-append calls (map eviction gone ++ entry ∷ []) in
      let one = length-append (map eviction gone) (entry ∷ []) in
      omega (arith, whole, group, one)

  changes-are : changes o now ≡ changes o h ++ (map evict gone ++ own)
  changes-are = ap (changes o) grown ∙ added-changes w.tells o h calls c.agent gone entry pending

  more-told : length (changes o h) ≤ length (changes o now)
  more-told = let size = ap (λ (cs : List Change). length cs) changes-are ∙ length-append (changes o h) (map evict gone ++ own) in omega (arith, size)

  way-once : w.tells → (x : List ℕ) → w.since new.ledger.journal.disk (w.moment old.ledger.journal.disk) x → IsShownOnce o (floor (changes o h)) now x
  way-once t x left = elim (has.way.shown t x left) [
    | inl is ↦ shown-once o (floor (changes o h)) now (Some (length now - 1)) x (recent-last o now some) (let most = floor_most (changes o h) in omega (arith, most, more-told)) is
    | inr is ↦
        subst (λ (es : List Entry). IsShownOnce o (floor (changes o h)) es x) (sym grown)
        (once-more o (floor (changes o h)) h (added calls gone entry) x (once-doubt w f old.ledger rest.held.are.books.recent (floor (changes o h)) (floor_most (changes o h)) x is))
  ]

  pub fronts-acted : w.tells → ShowsFronts w o now f.begun new.ledger.journal.disk
  fronts-acted t = fronts-on w o h (added calls gone entry) now grown old.ledger.journal.disk new.ledger.journal.disk (has.way.time t) (way-once t) f.begun (rest.time t).later (rest.fronts t)

  -- What was kept stays kept.
  pub stays-acted : w.tells → (count moment : ℕ) → IsKept w o h old.ledger.journal.disk count moment → IsKept w o now new.ledger.journal.disk count moment
  stays-acted t count moment = kept-on w o h (added calls gone entry) now grown count moment old.ledger.journal.disk new.ledger.journal.disk (has.way.time t) (way-once t)

  -- A content that was told since is the call's own.
  own-content : (n : ℕ) → length (changes o h) ≤ n → IsContentAt (changes o now) n → IsLastContent (changes o now) own n
  own-content n le content =
      subst (λ (cs : List Change). IsLastContent cs own n) (sym changes-are)
      (last-content (changes o h) gone own n (own-few (fold evicted (state_after o (h ++ calls)) gone) entry) le (subst (λ (cs : List Change). IsContentAt cs n) changes-are content))

  none-in-doubt : is_disk_fault done.reply ≡ false → length (changes o h) < length (changes o now) → doubted o now new.ledger.books.place ≡ []
  none-in-doubt fine more =
      subst (λ (es : List Entry). doubted o es new.ledger.books.place ≡ []) (sym grown)
      (none-doubted o h calls gone entry fine (pending-told w.tells o c.agent h calls (h ++ calls) pending refl) (subst (λ (es : List Entry). length (changes o h) < length (changes o es)) grown more) new.ledger.books.place
      (subst (λ (es : List Entry). IsRecent o es new.ledger.books.place) grown has.held.are.books.recent))

  -- Behind a call that stored something nothing is in doubt.
  pub settled-acted : is_disk_fault done.reply ≡ false → length (told f (book_in old.ledger)) < length (told f (book_in new.ledger)) → doubt f (book_in new.ledger) new.ledger.journal ≡ []
  settled-acted fine more = doubt-none new.ledger.journal.in_doubt (doubted o now new.ledger.books.place) (none-in-doubt fine more)

  pub keeps-acted : BooksShowTheirImages w → BooksStandAtAContent w → (w.crashes → (d : D) → w.since d (w.moment d) (w.content d)) → w.tells → KeepsContents w o now new.ledger.journal.disk
  keeps-acted shows stands reads t =
      keeps-on w o h (added calls gone entry) now grown old.ledger.journal.disk new.ledger.journal.disk (has.way.time t) (way-once t) (rest.keeps t)
      (λ crashes n le content.
      let last = own-content n le content in
      let fine = stored-no-fault (fold evicted (state_after o (h ++ calls)) gone) entry last.change last.alone in
      let none = none-in-doubt fine (let end = last.last in omega (arith, le, end)) in
      let books = has.held.are.books in
      kept-now w o now n new.ledger.journal.disk content last.last (reads crashes new.ledger.journal.disk)
      (stands f has.held.recorded (state_after o now) [] (book_in new.ledger) new.ledger.journal books t n content last.last none crashes)
      (once-now w f new.ledger shows has.held.recorded (state_after o now) [] books t))
