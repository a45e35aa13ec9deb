-- What a desk shows, and what its end leaves.
use Rattle.std.proofs.Common.{◌≡◌, ℕ, List, [], ◌++◌, Some, Ok, None, refl, if◌then◌else◌, sym, ap, subst, ◌∙◌, append-nil}
use Rattle.opfs_books.specs.Laws.Books.{account_of}
use Rattle.opfs_books.specs.Laws.Commits.{CommitLaws}
use Rattle.opfs_books.specs.Laws.Fronts.{IsShownOnce}
use Rattle.opfs_books.specs.Laws.Laws.{BooksShowTheirImages, StandsWhole as BookStands, told, doubt}
use Rattle.opfs_books.proofs.laws.Told.{told-whole}
use Rattle.opfs_books.specs.Seen.{IsFinished}
use Rattle.opfs_commit.specs.Seen.{committing}
use Rattle.opfs_commit.specs.Shown.{ShowsSince, IsShown}
use Rattle.opfs_commit.proofs.Holding.{floor_most}
use Rattle.opfs_hist.specs.declared.entry.Entry.{Entry}
use Rattle.opfs_hist.specs.Faults.{disk_faults}
use Rattle.opfs_laws.specs.Histories.Unread.{IsTold}
use Rattle.opfs_image.specs.Filling.{Stands}
use Rattle.opfs_image.specs.Superblock.{geometry_of}
use Rattle.opfs_journal.specs.Format.{records_of}
use Rattle.opfs_journal.specs.Seen.{kept}
use Rattle.opfs_machine.specs.Changes.{Change, floor, changes, durable}
use Rattle.opfs_machine.specs.Histories.{state_after}
use Rattle.opfs_outside.specs.Faults.{RoseBy}
use Rattle.opfs_outside.specs.Moments.{Elapses}
use Rattle.opfs_outside.specs.declared.disk.Disk.{Ghosts as DiskWords}
use Rattle.opfs_records.specs.Replay.Built.{Built}
use Rattle.opfs_desk_steps.specs.Parts.Held.{AreHeldWhole}
use Rattle.opfs_desk_steps.specs.Parts.Seen.{book_in}
use Rattle.opfs_desk_steps.specs.declared.parts.parts.Ledger.{Ledger}
use Rattle.opfs_desk.specs.Seen.{DeskSeen, entries_of, disk_of, HasAcknowledged, ShowsNow}
use Rattle.opfs_desk.proofs.Called.{Falls, time-on}
use Rattle.opfs_desk.specs.Ending.{StandsWhole, ShowsEnding, EndsFronts, EndsKept, EndsTime, EndsWhole, KeepsSizes, LeavesFront}
use Rattle.opfs_desk.specs.Keeping.{EndsKeeping, KeepsAll}
use Rattle.opfs_desk.specs.Resting.{IsAtRest}
use Rattle.opfs_desk.proofs.Keeping.{kept-now-on, kept-on}
use Rattle.opfs_desk.proofs.Moments.{fronts-still, keeps-still, once-front}
use Rattle.opfs_desk.proofs.Passed.{doubt-by, once-doubt, once-now}
use Rattle.opfs_desk.proofs.Sure.{recent-if}

module _ {D : Type 0} (w : DiskWords D) (d : DeskSeen D) (recorded : Built) (are : AreHeldWhole w d.fixed recorded d.parts.ledger d.parts.pages) where
  pub shows-now : BooksShowTheirImages w → ShowsNow w d
  shows-now rest t c since = rest d.fixed recorded (state_after d.fixed.opening (entries_of d)) [] (book_in d.parts.ledger) d.parts.ledger.journal are.books t c since

  -- Each image of now has all that was stored up to the last content of a front of the history.
  pub acknowledged : BooksShowTheirImages w → w.tells → (front rest : List Entry) → entries_of d ≡ front ++ rest → HasAcknowledged w d front
  acknowledged law t front rest is c left =
      once-front d.fixed.opening (entries_of d) front rest c is (once-now w d.fixed d.parts.ledger law recorded (state_after d.fixed.opening (entries_of d)) [] are.books t c left)

  -- And is kept from now on.
  pub keeps-all : BooksShowTheirImages w → KeepsAll w d
  keeps-all law t =
      kept-now-on w d.fixed.opening (entries_of d) (disk_of d) (once-now w d.fixed d.parts.ledger law recorded (state_after d.fixed.opening (entries_of d)) [] are.books t)

  pub is-legal : IsTold w.tells d.fixed.opening (entries_of d)
  is-legal = told-whole w.tells d.fixed.opening (entries_of d) (state_after d.fixed.opening (entries_of d)) are.books.told

  -- ---- the end

  module _ (new : Ledger D) (disk : D) (same : disk ≡ new.journal.disk) (done : IsFinished w d.fixed (state_after d.fixed.opening (entries_of d)) [] (book_in d.parts.ledger) (book_in new) d.parts.ledger.journal new.journal) where
    pub stands-whole : (w.tells → CommitLaws w) → new.books.history ≡ entries_of d → new.books.commits.count ≡ 0 → (w.tells → records_of new.journal.areas (w.content disk) ≡ Some (kept new.journal)) → StandsWhole w d disk
    stands-whole laws entries none records t =
        subst (λ (x : D). Stands (w.content x) (durable d.fixed.opening (changes d.fixed.opening (entries_of d)))) (sym same)
        (subst (λ (es : List Entry). Stands (w.content new.journal.disk) (durable d.fixed.opening (changes d.fixed.opening es))) entries
        ((laws t).finished (account_of d.fixed done.after (book_in new)) (committing new.journal new.books.commits) (done.are.images t) none
        (ap (λ a. records_of a (w.content new.journal.disk)) (sym done.are.areas) ∙ subst (λ (x : D). records_of new.journal.areas (w.content x) ≡ Some (kept new.journal)) same (records t))))

    pub shows-ending : ShowsEnding w d disk
    shows-ending t =
        subst (λ (x : D). ShowsSince w d.fixed.opening (floor (told d.fixed (book_in d.parts.ledger))) (told d.fixed (book_in d.parts.ledger) ++ doubt d.fixed (book_in d.parts.ledger) d.parts.ledger.journal) (disk_of d) x) (sym same)
        (done.shown t)

    -- Each image on the way to the end.
    ends-way : w.tells → (c : List ℕ) → w.since disk (w.moment (disk_of d)) c → IsShownOnce d.fixed.opening (floor (changes d.fixed.opening (entries_of d))) (entries_of d) c
    ends-way t c left =
        once-doubt w d.fixed d.parts.ledger are.books.recent (floor (changes d.fixed.opening (entries_of d))) (floor_most (changes d.fixed.opening (entries_of d))) c (done.shown t c (subst (λ (x : D). w.since x (w.moment (disk_of d)) c) same left))

    ends-elapsed : (w.tells → Elapses w.moment w.since (disk_of d) new.journal.disk) → w.tells → Elapses w.moment w.since (disk_of d) disk
    ends-elapsed time t = subst (λ (x : D). Elapses w.moment w.since (disk_of d) x) (sym same) (time t)

    pub ends-fronts : (w.tells → Elapses w.moment w.since (disk_of d) new.journal.disk) → IsAtRest w d.fixed d.parts → EndsFronts w d disk
    ends-fronts time rest t = fronts-still w d.fixed.opening (entries_of d) (entries_of d) refl (disk_of d) disk (ends-elapsed time t) (ends-way t) d.fixed.begun (rest.time t).later (rest.fronts t)

    pub ends-kept : (w.tells → Elapses w.moment w.since (disk_of d) new.journal.disk) → IsAtRest w d.fixed d.parts → EndsKept w d disk
    ends-kept time rest t = keeps-still w d.fixed.opening (entries_of d) (entries_of d) refl (disk_of d) disk (ends-elapsed time t) (ends-way t) (rest.keeps t)

    -- What was kept stays kept.
    pub ends-keeping : (w.tells → Elapses w.moment w.since (disk_of d) new.journal.disk) → EndsKeeping w d disk
    ends-keeping time t count moment =
        kept-on w d.fixed.opening (entries_of d) [] (entries_of d) (sym (append-nil (entries_of d))) count moment (disk_of d) disk (ends-elapsed time t) (ends-way t)

    -- Each image of the end.
    pub ends-whole : new.books.history ≡ entries_of d → BookStands w d.fixed (book_in new) new.journal → EndsWhole w d disk
    ends-whole entries stands t c left =
        subst (λ (es : List Entry). Stands c (durable d.fixed.opening (changes d.fixed.opening es))) entries (stands t c (subst (λ (x : D). w.since x (w.moment x) c) same left))

    pub counts-all : new.books.history ≡ entries_of d → RoseBy (disk_faults (entries_of d)) (w.faults d.fixed.begun) (w.faults disk)
    counts-all entries =
        subst (λ (x : D). RoseBy (disk_faults (entries_of d)) (w.faults d.fixed.begun) (w.faults x)) (sym same)
        (subst (λ (es : List Entry). RoseBy (disk_faults es) (w.faults d.fixed.begun) (w.faults new.journal.disk)) entries done.are.counted.faults)

    pub leaves-front : BooksShowTheirImages w → new.books.history ≡ entries_of d → w.tells → LeavesFront w d.fixed.opening (entries_of d) disk
    leaves-front law entries t =
        subst (λ (x : D). LeavesFront w d.fixed.opening (entries_of d) x) (sym same)
        (subst (λ (es : List Entry). LeavesFront w d.fixed.opening es new.journal.disk) entries
        (record {
          place = if new.journal.in_doubt then new.books.place else None;
          recent = recent-if new.journal.in_doubt d.fixed.opening new.books.history new.books.place done.are.recent;
          shown = λ c since. subst (λ (more : List Change). IsShown d.fixed.opening (floor (changes d.fixed.opening new.books.history)) (changes d.fixed.opening new.books.history ++ more) c)
              (doubt-by new.journal.in_doubt d.fixed.opening new.books.history new.books.place)
              (law d.fixed done.after (state_after d.fixed.opening (entries_of d)) [] (book_in new) new.journal done.are t c since);
        }))

    pub keeps-sizes : KeepsSizes w d disk
    keeps-sizes t = subst (λ (x : D). geometry_of (w.content x) ≡ Ok d.fixed.geometry) (sym same) (done.are.images t).here.geometry

    pub ends-time : Falls w → (w.tells → Elapses w.moment w.since d.fixed.begun (disk_of d)) → (w.tells → Elapses w.moment w.since (disk_of d) new.journal.disk) → EndsTime w d disk
    ends-time falls was is t =
        subst (λ (x : D). Elapses w.moment w.since d.fixed.begun x) (sym same) (time-on w d.fixed.begun (disk_of d) new.journal.disk falls was is t)
