-- The books after a doubt ended, after a commit of what is kept back alone, and after calls that only read or write pages
-- aside; and what the images show in each.
use Rattle.std.proofs.Common.{◌≡◌, ◌⊎◌, inl, inr, ◌-◌, ◌^◌, ◌≤◌, Bool, true, false, List, [], ◌++◌, None, refl, sym, ap, ◌∙◌, subst, append-nil, arith}
use Rattle.std.specs.Prelude.{if◌then◌else◌}
use Rattle.std.proofs.lemmas.Bool.{false≢true}
use Rattle.opfs_base.specs.Texts.{Text}
use Rattle.opfs_base.specs.declared.extents.Extent.{Extent}
use Rattle.opfs_commit.specs.Calls.{IsAnyOf, IsNoneOf, IsNextAlone}
use Rattle.opfs_commit.specs.Images.{Account, AreImages, doubting}
use Rattle.opfs_commit.specs.Making.{IsReadyFor, AreBeside}
use Rattle.opfs_commit.specs.Seen.{KeptBack, committing}
use Rattle.opfs_commit.specs.Shown.{ShowsSince}
use Rattle.opfs_commit.specs.Trail.{IsTrail}
use Rattle.opfs_data.specs.Calls.{Reads}
use Rattle.opfs_laws.specs.Histories.Doubts.{doubted}
use Rattle.opfs_journal.specs.Calls.{IsSettled, IsUnsettled}
use Rattle.opfs_journal.specs.Format.{Stored}
use Rattle.opfs_journal.specs.Seen.{Seen}
use Rattle.opfs_machine.specs.declared.own.Own.{Own}
use Rattle.opfs_machine.specs.declared.state.State.{State}
use Rattle.opfs_machine.specs.Changes.{floor}
use Rattle.opfs_outside.specs.Faults.{Rose}
use Rattle.opfs_outside.specs.Moments.{Elapses}
use Rattle.opfs_outside.specs.declared.disk.Disk.{Ghosts as DiskWords}
use Rattle.opfs_records.specs.Replay.Built.{Built}
use Rattle.opfs_books.specs.Laws.Books.{Fixed, Book, account_of, AreBooksAt}
use Rattle.opfs_books.specs.Laws.Commits.{CommitLaws}
use Rattle.opfs_books.specs.Laws.Laws.{told, doubt, ShowsTold, SettlingKeepsTheBooks, UnsettledKeepsTheBooks, SettlingShows, CommittedAloneKeepsTheBooks, FailedAloneKeepsTheBooks, AloneShows, ReadsKeepTheBooks, PagesKeepTheBooks, BooksShowTheirImages, BooksStandAtRest, BooksStandAtAContent, CommitsShow}
use Rattle.opfs_books.proofs.laws.Counting.{rose-before, rose-later, counted-later}
use Rattle.opfs_books.proofs.laws.Fronts.{none-recent}
use Rattle.opfs_books.proofs.laws.Storing.{done-shown, failed-shown}

module _ {D : Type 0} (w : DiskWords D) (laws : w.tells → CommitLaws w) (most : (d : D) → w.faults d ≤ 2 ^ 64 - 1) where
  module _ (f : Fixed D) (recorded : Built) (base : State Text Own) (gone : List Text) (b : Book) (old : Seen D) (are : AreBooksAt w f recorded base gone b old) where
    abbrev account : Account
    account = account_of f recorded b

    -- The account of a journal without doubt has none.
    exact : w.tells → AreImages w (doubting account (doubt f b old)) (committing old b.back)
    exact t =
        elim old.in_doubt as (λ d. old.in_doubt ≡ d → AreImages w (doubting account (if d then doubted f.opening b.entries b.place else [])) (committing old b.back)) [
          | true ↦ λ is. are.images t
          | false ↦ λ is. (laws t).gate account [] (committing old b.back) (are.images t) is
        ] refl

    steady-before : (j : Seen D) → w.faults old.disk ≤ w.faults j.disk → (Rose (w.faults f.begun) (w.faults j.disk) → ⊥) → Rose (w.faults f.begun) (w.faults old.disk) → ⊥
    steady-before j later steady rose = steady (rose-later (w.faults f.begun) (w.faults old.disk) (w.faults j.disk) (most j.disk) rose later)

    steady-sure : (j : Seen D) → w.faults old.disk ≤ w.faults j.disk → (Rose (w.faults f.begun) (w.faults j.disk) → ⊥) → old.in_doubt ≡ false
    steady-sure j later steady = elim old.in_doubt as (λ d. old.in_doubt ≡ d → d ≡ false) [ true ↦ λ is. absurd (steady-before j later steady (are.counted.raised is)) | false ↦ λ is. refl ] refl

    no-doubt : old.in_doubt ≡ false → told f b ++ doubt f b old ≡ told f b
    no-doubt is = ap (λ (d : Bool). told f b ++ (if d then doubted f.opening b.entries b.place else [])) is ∙ append-nil (told f b)

    -- The trail goes on with a call that shows nothing new.
    trail-goes-on : (j : Seen D) → w.faults old.disk ≤ w.faults j.disk → (w.tells → Elapses w.moment w.since old.disk j.disk) → ShowsTold w f b (told f b ++ doubt f b old) old j
        → w.tells → (Rose (w.faults f.begun) (w.faults j.disk) → ⊥) → IsTrail w f.opening (told f b) f.begun j.disk
    trail-goes-on j later time shown t steady =
        (laws t).trail_on f.opening (told f b) (floor (told f b)) f.begun old.disk j.disk (are.trail t (steady-before j later steady)) (time t)
        (subst (λ all. ShowsSince w f.opening (floor (told f b)) all old.disk j.disk) (no-doubt (steady-sure j later steady)) (shown t))

    pub rest-shown : ShowsTold w f b (told f b ++ doubt f b old) old old
    rest-shown t = (laws t).fronts (doubting account (doubt f b old)) (committing old b.back) (exact t)

    -- The end of a doubt.
    pub settled-shown : (j : Seen D) → IsSettled w old j → ShowsTold w f b (told f b ++ doubt f b old) old j
    settled-shown j is t = (laws t).ends_shown (doubting account (doubt f b old)) b.back old j (exact t) is

    pub unsettled-shown : (j : Seen D) → IsUnsettled w old j → ShowsTold w f b (told f b ++ doubt f b old) old j
    unsettled-shown j is t = (laws t).stays_shown (doubting account (doubt f b old)) b.back old j (exact t) is

    -- Without a doubt the journal is as it was; where there was one, the disk had failed.
    settled-trail : (j : Seen D) → IsSettled w old j → w.tells → (Rose (w.faults f.begun) (w.faults j.disk) → ⊥) → IsTrail w f.opening (told f b) f.begun j.disk
    settled-trail j is t steady =
        let same : j ≡ old = is.none (steady-sure j is.later steady) in
        subst (λ (k : Seen D). IsTrail w f.opening (told f b) f.begun k.disk) (sym same) (are.trail t (steady-before j is.later steady))

    pub settled-books : (new : Book) (j : Seen D) → IsSettled w old j → new ≡ record b { place = None } → AreBooksAt w f recorded base gone new j
    settled-books new j is same = subst (λ x. AreBooksAt w f recorded base gone x j) (sym same) (record {
      whole = are.whole;
      limits = are.limits;
      told = are.told;
      machine = are.machine;
      few = are.few;
      images = λ t. (laws t).ends account b.back old j (are.images t) is;
      trail = settled-trail j is;
      recent = none-recent f.opening b.entries None refl;
      counted = counted-later (w.faults f.begun) (w.faults old.disk) (w.faults j.disk) b.entries old.in_doubt j.in_doubt (most j.disk) are.counted is.later (λ d. absurd (false≢true (sym is.sure ∙ d)));
      areas = is.stays.areas ∙ are.areas;
      spare = omega (arith, is.stays.spare, are.spare);
      room = are.room;
      stored = are.stored;
      most = are.most;
    })

    pub unsettled-books : (j : Seen D) → IsUnsettled w old j → AreBooksAt w f recorded base gone b j
    unsettled-books j is = record {
      whole = are.whole;
      limits = are.limits;
      told = are.told;
      machine = are.machine;
      few = are.few;
      images = λ t. (laws t).stays account b.back old j (are.images t) is;
      trail = λ t steady. absurd (steady-before j is.later steady (are.counted.raised is.was));
      recent = are.recent;
      counted = counted-later (w.faults f.begun) (w.faults old.disk) (w.faults j.disk) b.entries old.in_doubt j.in_doubt (most j.disk) are.counted is.later (λ d. inl is.was);
      areas = is.stays.areas ∙ are.areas;
      spare = omega (arith, is.stays.spare, are.spare);
      room = are.room;
      stored = are.stored;
      most = are.most;
    }

    -- Reads.
    pub read-shown : (j : Seen D) → Reads w old j → ShowsTold w f b (told f b ++ doubt f b old) old j
    read-shown j is t = (laws t).reads_shown (doubting account (doubt f b old)) b.back old j (exact t) is

    pub read-books : (j : Seen D) → Reads w old j → AreBooksAt w f recorded base gone b j
    read-books j is = record {
      whole = are.whole;
      limits = are.limits;
      told = are.told;
      machine = are.machine;
      few = are.few;
      images = λ t. (laws t).reads account b.back old j (are.images t) is;
      trail = trail-goes-on j is.later (λ t. (is.told t).time) (read-shown j is);
      recent = are.recent;
      counted = counted-later (w.faults f.begun) (w.faults old.disk) (w.faults j.disk) b.entries old.in_doubt j.in_doubt (most j.disk) are.counted is.later (λ d. inl (sym is.in_doubt ∙ d));
      areas = is.stays.areas ∙ are.areas;
      spare = omega (arith, is.stays.spare, are.spare);
      room = are.room;
      stored = are.stored;
      most = are.most;
    }

    -- Pages aside of what the records name.
    pub page-shown : (extents : List Extent) (j : Seen D) → AreBeside w account extents old j → ShowsTold w f b (told f b) old j
    page-shown extents j is t =
        (laws t).pages_shown account b.back extents old j (are.images t) is

    pub page-books : (extents : List Extent) (j : Seen D) → AreBeside w account extents old j → AreBooksAt w f recorded base gone b j
    page-books extents j is = record {
      whole = are.whole;
      limits = are.limits;
      told = are.told;
      machine = are.machine;
      few = are.few;
      images = λ t. (laws t).pages account b.back extents old j (are.images t) is;
      trail = λ t steady. (laws t).trail_on f.opening (told f b) (floor (told f b)) f.begun old.disk j.disk (are.trail t (steady-before j is.writes.later steady)) (is.writes.told t).time (page-shown extents j is t);
      recent = are.recent;
      counted = counted-later (w.faults f.begun) (w.faults old.disk) (w.faults j.disk) b.entries old.in_doubt j.in_doubt (most j.disk) are.counted is.writes.later (λ d. inl (sym is.writes.in_doubt ∙ d));
      areas = is.writes.stays.areas ∙ are.areas;
      spare = omega (arith, is.writes.stays.spare, are.spare);
      room = are.room;
      stored = are.stored;
      most = are.most;
    }

    -- What is kept back is committed alone.
    module _ (is_sure : old.in_doubt ≡ false) where
      ready : (t : w.tells) (next : Stored) → IsNextAlone b.rows (committing old b.back) next → IsReadyFor w account [] next b.rows (committing old b.back)
      ready t next kind = record {
        images = are.images t;
        settled = is_sure;
        to_store = (laws t).alone account (committing old b.back) next (are.images t) is_sure are.stored.sound are.stored.fits kind;
      }

      shown-all : (j : Seen D) → (w.tells → ShowsSince w f.opening (floor (told f b)) (told f b ++ []) old.disk j.disk) → ShowsTold w f b (told f b) old j
      shown-all j shown t = subst (λ all. ShowsSince w f.opening (floor (told f b)) all old.disk j.disk) (append-nil (told f b)) (shown t)

      pub alone-shown : (j : Seen D) (back : KeptBack) → (IsAnyOf w (IsNextAlone b.rows (committing old b.back)) (committing old b.back) (committing j back) ⊎ IsNoneOf w (IsNextAlone b.rows (committing old b.back)) (committing old b.back) (committing j back)) → ShowsTold w f b (told f b) old j
      alone-shown j back (inl any) = shown-all j (λ t. (laws t).shown account [] any.next b.rows (committing old b.back) (committing j back) (ready t any.next any.kind) any.committed.journal.stays (any.committed.journal.told t).written)
      alone-shown j back (inr none) = shown-all j (λ t. (laws t).shown account [] none.next b.rows (committing old b.back) (committing j back) (ready t none.next none.kind) none.halted.journal.stays (none.halted.journal.told t).written)

      pub alone-books : (new : Book) (j : Seen D) → new ≡ record b { place = None; back = new.back } → IsAnyOf w (IsNextAlone b.rows (committing old b.back)) (committing old b.back) (committing j new.back) → AreBooksAt w f b.rows base gone new j
      alone-books new j same any = subst (λ x. AreBooksAt w f b.rows base gone x j) (sym same) (record {
        whole = are.whole;
        limits = are.limits;
        told = are.told;
        machine = are.machine;
        few = are.few;
        images = λ t.
            let done = (laws t).durable account [] any.next b.rows (committing old b.back) (committing j new.back) (ready t any.next any.kind) any.committed in
            subst (λ all. AreImages w (record { opening = f.opening; geometry = f.geometry; told = all; doubted = []; recorded = b.rows; rows = b.rows }) (committing j new.back)) (append-nil (told f b)) done;
        trail = λ t steady.
            (laws t).trail_on f.opening (told f b) (floor (told f b)) f.begun old.disk j.disk (are.trail t (steady-before j any.committed.journal.later steady)) (any.committed.journal.told t).written.time (alone-shown j new.back (inl any) t);
        recent = none-recent f.opening b.entries None refl;
        counted = counted-later (w.faults f.begun) (w.faults old.disk) (w.faults j.disk) b.entries old.in_doubt j.in_doubt (most j.disk) are.counted any.committed.journal.later (λ d. absurd (false≢true (sym any.committed.journal.sure ∙ d)));
        areas = any.committed.journal.stays.areas ∙ are.areas;
        spare = omega (arith, ap (λ (k : KeptBack). k.room) any.committed.none, any.committed.journal.stays.spare, are.spare);
        room = omega (arith, ap (λ (k : KeptBack). k.room) any.committed.none, are.room);
        stored = are.stored;
        most = omega (arith, ap (λ (k : KeptBack). k.count) any.committed.none);
      })

      pub alone-failed : (new : Book) (j : Seen D) → new ≡ record b { place = None; back = new.back } → IsNoneOf w (IsNextAlone b.rows (committing old b.back)) (committing old b.back) (committing j new.back) → Rose (w.faults old.disk) (w.faults j.disk)
          → AreBooksAt w f recorded base gone new j
      alone-failed new j same none rose = subst (λ x. AreBooksAt w f recorded base gone x j) (sym same) (record {
        whole = are.whole;
        limits = are.limits;
        told = are.told;
        machine = are.machine;
        few = are.few;
        images = λ t. (laws t).in_doubt account [] none.next b.rows (committing old b.back) (committing j new.back) (ready t none.next none.kind) none.halted;
        trail = λ t steady. absurd (steady (rose-before (w.faults f.begun) (w.faults old.disk) (w.faults j.disk) are.counted.fewer rose));
        recent = none-recent f.opening b.entries None refl;
        counted = counted-later (w.faults f.begun) (w.faults old.disk) (w.faults j.disk) b.entries old.in_doubt j.in_doubt (most j.disk) are.counted none.halted.journal.later (λ d. inr rose);
        areas = none.halted.journal.stays.areas ∙ are.areas;
        spare = omega (arith, ap (λ (k : KeptBack). k.room) none.halted.same, none.halted.journal.stays.spare, are.spare);
        room = omega (arith, ap (λ (k : KeptBack). k.room) none.halted.same, are.room);
        stored = are.stored;
        most = omega (arith, ap (λ (k : KeptBack). k.count) none.halted.same, are.most);
      })

  pub settling : SettlingKeepsTheBooks w
  settling f recorded base gone b new old j are is same = settled-books f recorded base gone b old are new j is same

  pub unsettled : UnsettledKeepsTheBooks w
  unsettled f recorded base gone b old j are is = unsettled-books f recorded base gone b old are j is

  pub settling-shows : SettlingShows w
  settling-shows f recorded base gone b old j are (inl is) = settled-shown f recorded base gone b old are j is
  settling-shows f recorded base gone b old j are (inr is) = unsettled-shown f recorded base gone b old are j is

  pub committed-alone : CommittedAloneKeepsTheBooks w
  committed-alone f recorded base gone b new old j are is_sure same any = alone-books f recorded base gone b old are is_sure new j same any

  pub failed-alone : FailedAloneKeepsTheBooks w
  failed-alone f recorded base gone b new old j are is_sure same none rose = alone-failed f recorded base gone b old are is_sure new j same none rose

  pub alone-shows : AloneShows w
  alone-shows f recorded base gone b old j back are is_sure either = alone-shown f recorded base gone b old are is_sure j back either

  pub reads-keep : ReadsKeepTheBooks w
  reads-keep f recorded base gone b old j are is = (read-books f recorded base gone b old are j is, read-shown f recorded base gone b old are j is)

  pub pages-keep : PagesKeepTheBooks w
  pages-keep f recorded base gone b extents old j are is = (page-books f recorded base gone b old are extents j is, page-shown f recorded base gone b old are extents j is)

  pub books-show : BooksShowTheirImages w
  books-show f recorded base gone b j are = rest-shown f recorded base gone b j are

  pub stands-rest : BooksStandAtRest w
  stands-rest f recorded base gone b j are none sure t c now = (laws t).at_rest (account_of f recorded b) (committing j b.back) (are.images t) none sure c now

  pub stands-last : BooksStandAtAContent w
  stands-last f recorded base gone b j are t n at last none crashes = (laws t).last_content (account_of f recorded b) (committing j b.back) n (are.images t) at last none crashes

  pub commits-show : CommitsShow w
  commits-show f recorded base gone b old j back spelled next change are is_sure made fits same (inl any) = done-shown w laws most f recorded base gone b old are is_sure spelled next change made fits same j back any
  commits-show f recorded base gone b old j back spelled next change are is_sure made fits same (inr none) = failed-shown w laws most f recorded base gone b old are is_sure spelled next change made fits same j back none
