-- A call of a desk, over its parts.
use Rattle.opfs_store.specs.Acts.Asking.{MayAct}
use Rattle.opfs_store.specs.declared.acts.acted.Acted.{Acted}
use Rattle.opfs_base.specs.Texts.{Text}
use Rattle.opfs_books.specs.Laws.Books.{Fixed}
use Rattle.opfs_books.specs.Laws.Fronts.{IsShownOnce}
use Rattle.opfs_books.specs.Laws.Laws.{BooksShowTheirImages, BooksStandAtAContent}
use Rattle.opfs_books.proofs.laws.Told.{told-whole}
use Rattle.opfs_hist.specs.declared.entry.Entry.{Entry}
use Rattle.opfs_laws.specs.Histories.Unread.{IsTold}
use Rattle.opfs_machine.specs.Changes.{changes, floor}
use Rattle.opfs_machine.specs.Histories.{state_after}
use Rattle.opfs_machine.specs.Runs.{Call}
use Rattle.opfs_outside.specs.Moments.{Elapses, elapses-trans}
use Rattle.opfs_outside.specs.declared.disk.Disk.{Ghosts as DiskWords}
use Rattle.opfs_work.specs.Works.{WorkingCopy}
use Rattle.std.proofs.Common.{ℕ, ◌≤◌, List, [], sym, subst, ◌∙◌, append-nil}
use Rattle.opfs_desk.specs.Dispatch.Calling.{IsCalled, IsLeftAlone}
use Rattle.opfs_pages.specs.HistoryLaws.Handles.{AreHandlesWhole}
use Rattle.opfs_desk_steps.specs.Parts.Acted.{HasActed}
use Rattle.opfs_desk_steps.specs.declared.parts.parts.DeskParts.{DeskParts}
use Rattle.opfs_desk_bytes.specs.Reading.Handles.{HandlesGoOn}
use Rattle.opfs_desk.specs.Keeping.{IsKept}
use Rattle.opfs_desk.specs.Resting.{IsAtRest}
use Rattle.opfs_desk.proofs.Keeping.{kept-on}
use Rattle.opfs_desk.proofs.Moments.{fronts-still, keeps-still}
use Rattle.opfs_desk.proofs.Passed.{fronts-acted, keeps-acted, once-now}

pub is-called : {D : Type 0} (w : DiskWords D) (f : Fixed D) (old : DeskParts D) (calls : List Entry) (c : Call) (work : WorkingCopy) (past : List Text) → IsAtRest w f old → MayAct w.tells f.opening old.ledger.books.history calls c work past → IsCalled w f old calls c work past
is-called w f old calls c work past rest may = record { held = rest.held; whole = rest.whole; may = may }

pub is-told : {D : Type 0} (w : DiskWords D) (f : Fixed D) (old : DeskParts D) → IsAtRest w f old → IsTold w.tells f.opening old.ledger.books.history
is-told w f old rest = told-whole w.tells f.opening old.ledger.books.history (state_after f.opening old.ledger.books.history) rest.held.are.books.told

-- what was left since a moment was left since an earlier one
abbrev pub Falls : {D : Type 0} → DiskWords D → Type 0
Falls {D} w = w.tells → (disk : D) (t u : ℕ) (c : List ℕ) → t ≤ u → w.since disk u c → w.since disk t c

-- a call more
pub time-on : {D : Type 0} (w : DiskWords D) (begun old new : D) → Falls w → (w.tells → Elapses w.moment w.since begun old) → (w.tells → Elapses w.moment w.since old new) → w.tells → Elapses w.moment w.since begun new
time-on w begun old new falls was is t = elapses-trans w.moment w.since (falls t) begun old new (was t) (is t)

-- the disk as it reads is one of its images
abbrev pub Shows : {D : Type 0} → DiskWords D → Type 0
Shows {D} w = w.crashes → (disk : D) → w.since disk (w.moment disk) (w.content disk)

module _ {D : Type 0} (w : DiskWords D) (falls : Falls w) (shows : BooksShowTheirImages w) (f : Fixed D) (old new : DeskParts D) (calls : List Entry) (c : Call) (work : WorkingCopy) (past : List Text) (rest : IsAtRest w f old)
    (may : MayAct w.tells f.opening old.ledger.books.history calls c work past) where
  pub rests-acted : HandlesGoOn w.tells → BooksStandAtAContent w → Shows w → (after : WorkingCopy) (done : Acted) → HasActed w f old new calls c work after done → IsAtRest w f new
  rests-acted go stands reads after done has = record {
    held = has.held;
    whole =
        go f.opening old.ledger.books.history calls new.ledger.books.history c done.reply (is-told w f old rest) may.pending has.acted rest.whole;
    time = time-on w f.begun old.ledger.journal.disk new.ledger.journal.disk falls rest.time has.way.time;
    fronts = fronts-acted w f old new calls c work after done rest may.pending has;
    keeps = keeps-acted w f old new calls c work after done rest may.pending has shows stands reads;
  }

  pub rests-alone : IsLeftAlone w f old new → IsAtRest w f new
  rests-alone alone = record {
    held = alone.held;
    whole = subst (AreHandlesWhole f.opening) (sym alone.entries) rest.whole;
    time = time-on w f.begun old.ledger.journal.disk new.ledger.journal.disk falls rest.time (λ t. (alone.reads.told t).time);
    fronts = λ t. fronts-still w f.opening old.ledger.books.history new.ledger.books.history alone.entries old.ledger.journal.disk new.ledger.journal.disk (alone.reads.told t).time (read-way t) f.begun (rest.time t).later (rest.fronts t);
    keeps = λ t. keeps-still w f.opening old.ledger.books.history new.ledger.books.history alone.entries old.ledger.journal.disk new.ledger.journal.disk (alone.reads.told t).time (read-way t) (rest.keeps t);
  }
    where
      read-way : w.tells → (x : List ℕ) → w.since new.ledger.journal.disk (w.moment old.ledger.journal.disk) x → IsShownOnce f.opening (floor (changes f.opening old.ledger.books.history)) old.ledger.books.history x
      read-way t x left =
          once-now w f old.ledger shows rest.held.recorded (state_after f.opening old.ledger.books.history) [] rest.held.are.books t x ((alone.reads.told t).moments x left)

  -- What was kept stays kept.
  pub stays-alone : IsLeftAlone w f old new → w.tells → (count moment : ℕ) → IsKept w f.opening old.ledger.books.history old.ledger.journal.disk count moment → IsKept w f.opening new.ledger.books.history new.ledger.journal.disk count moment
  stays-alone alone t count moment =
      kept-on w f.opening old.ledger.books.history [] new.ledger.books.history (alone.entries ∙ sym (append-nil old.ledger.books.history)) count moment old.ledger.journal.disk new.ledger.journal.disk (alone.reads.told t).time
      (λ x left. subst (λ (es : List Entry). IsShownOnce f.opening (floor (changes f.opening old.ledger.books.history)) es x) (sym alone.entries)
      (once-now w f old.ledger shows rest.held.recorded (state_after f.opening old.ledger.books.history) [] rest.held.are.books t x ((alone.reads.told t).moments x left)))
