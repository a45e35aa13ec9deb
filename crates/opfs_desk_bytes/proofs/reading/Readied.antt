-- Parts whose disk was read.
use Rattle.std.specs.Vec.{vec_capacity}
use Rattle.std.proofs.Common.{◌≡◌, ◌⊎◌, ℕ, ◌-◌, ◌^◌, ◌≤◌, Bool, if◌then◌else◌, List, [], ◌++◌, sym, ap, subst, inr, arith}
use Rattle.opfs_store.specs.Acts.Acting.{IsActed, IsGift}
use Rattle.opfs_store.specs.declared.acts.acted.Acted.{Acted}
use Rattle.opfs_base.specs.Texts.{Text}
use Rattle.opfs_books.specs.Laws.Books.{Fixed, AreBooksAt}
use Rattle.opfs_books.specs.Laws.Laws.{ReadsKeepTheBooks}
use Rattle.opfs_books.proofs.laws.Counting.{rose-before}
use Rattle.opfs_books.specs.Seen.{book}
use Rattle.opfs_books.specs.declared.books.Books.{Books}
use Rattle.opfs_commit.specs.Shown.{IsShown}
use Rattle.opfs_data.specs.Calls.{Reads}
use Rattle.opfs_pages.specs.HistoryLaws.Laid.{AreLaid}
use Rattle.opfs_pages.specs.HistoryLaws.Told.{AreTold}
use Rattle.opfs_desk_steps.specs.Parts.Acted.{IsWay, HasActed, IsUnacted}
use Rattle.opfs_desk_steps.specs.Parts.Held.{AreHeldAt, AreHeldWhole}
use Rattle.opfs_desk_steps.specs.Parts.Seen.{book_in}
use Rattle.opfs_desk_steps.specs.declared.parts.parts.Ledger.{Ledger}
use Rattle.opfs_desk_steps.specs.declared.parts.parts.OpenPages.{OpenPages}
use Rattle.opfs_desk_steps.specs.declared.parts.parts.DeskParts.{DeskParts}
use Rattle.opfs_desk_steps.proofs.book_steps.Held.{tied-later}
use Rattle.opfs_hist.specs.declared.entry.Entry.{Entry}
use Rattle.opfs_laws.specs.Histories.Doubts.{doubted}
use Rattle.opfs_machine.specs.declared.own.Own.{Own}
use Rattle.opfs_machine.specs.declared.state.State.{State}
use Rattle.opfs_machine.specs.Changes.{Change, changes, floor}
use Rattle.opfs_machine.specs.Histories.{state_after}
use Rattle.opfs_machine.specs.Runs.{Call}
use Rattle.opfs_outside.specs.Moments.{elapses-trans, each_of_both}
use Rattle.opfs_outside.specs.declared.disk.Disk.{Ghosts as DiskWords}
use Rattle.opfs_records.specs.Replay.Built.{Built}
use Rattle.opfs_pages.specs.RowCalls.Plans.{shelf}
use Rattle.opfs_state.specs.Applied.{StateSeen}
use Rattle.opfs_work.specs.Works.{WorkingCopy}

abbrev pub Falls : {D : Type 0} → DiskWords D → Type 0
Falls {D} w = w.tells → (d : D) (t u : ℕ) (c : List ℕ) → t ≤ u → w.since d u c → w.since d t c

module _ {D : Type 0} (w : DiskWords D) (f : Fixed D) (l now : Ledger D) (same : now.books ≡ l.books) (reads : Reads w l.journal now.journal) where
  pub read-held : ReadsKeepTheBooks w → ((d : D) → w.faults d ≤ 2 ^ 64 - 1) → (recorded : Built) (base : State Text Own) (gone : List Text) (p : OpenPages) → vec_capacity l.freed ≤ vec_capacity now.freed → AreHeldAt w f recorded base gone l p → AreHeldAt w f recorded base gone now p
  read-held keep most recorded base gone p freed held = record {
    books = subst (λ (b : Books StateSeen). AreBooksAt w f recorded base gone (book b.history b.state.store.machine b.state.store.tree b.commits b.place) now.journal) (sym same) (keep f recorded base gone (book_in l) l.journal now.journal held.books reads).0;
    laid =
        subst (λ (b : Books StateSeen). AreLaid w.tells f.opening b.history p.base (w.content now.journal.disk) b.state.store.machine (shelf recorded.rows b.state.store.tree p.swap) p.space) (sym same)
        (record {
          rows = held.laid.rows;
          there = held.laid.there;
          told = λ t. subst (λ (x : List ℕ). AreTold f.opening l.books.history p.base x p.swap) (sym (reads.told t).same) (held.laid.told t);
          spaced = held.laid.spaced;
        });
    tied = tied-later w f most l now p held.tied reads.stays.length reads.later freed;
    fresh = subst (λ (b : Books StateSeen). b.commits.count ≡ 0 → recorded ≡ (book b.history b.state.store.machine b.state.store.tree b.commits b.place).rows) (sym same) held.fresh;
  }

  -- A way that begins once the disk was read is one that begins before.
  pub read-way : ReadsKeepTheBooks w → Falls w → (recorded : Built) (base : State Text Own) (gone : List Text) (p : OpenPages) → AreHeldAt w f recorded base gone l p → (all : List Change) (new : Ledger D) → IsWay w f all now new → IsWay w f all l new
  read-way keep falls recorded base gone p held all new way = record {
    later = omega (arith, reads.later, way.later);
    time = λ t. elapses-trans w.moment w.since (falls t) l.journal.disk now.journal.disk new.journal.disk (reads.told t).time (way.time t);
    shown = λ t c left.
        each_of_both w.moment w.since (falls t) l.journal.disk now.journal.disk new.journal.disk (Shows l.journal.in_doubt l.books) (reads.told t).time (way.time t)
        (λ x first. inr ((keep f recorded base gone (book_in l) l.journal now.journal held.books reads).1 t x first))
        (λ x second. subst (λ (d : Bool). Shows d l.books x) reads.in_doubt (subst (λ (b : Books StateSeen). Shows now.journal.in_doubt b x) same (way.shown t x second))) c left;
  }
    where
      Shows : Bool → Books StateSeen → List ℕ → Type 0
      Shows d b x = IsShown f.opening (floor (changes f.opening b.history)) all x ⊎ IsShown f.opening (floor (changes f.opening b.history)) (changes f.opening b.history ++ (if d then doubted f.opening b.history b.place else [])) x

  pub read-acted : ReadsKeepTheBooks w → Falls w → (recorded : Built) (p q r : OpenPages) → AreHeldWhole w f recorded l p → (new : DeskParts D) (calls : List Entry) (c : Call) (before after : WorkingCopy) (done : Acted)
      → HasActed w f (record { ledger = now; pages = q }) new calls c before after done → HasActed w f (record { ledger = l; pages = r }) new calls c before after done
  read-acted keep falls recorded p q r held new calls c before after done is = record {
    held = is.held;
    acted = subst (λ (b : Books StateSeen). IsActed w.tells f.opening b.history calls c done.reply new.ledger.books.history) same is.acted;
    left = is.left;
    gift = subst (λ (b : Books StateSeen). IsGift w.tells (state_after f.opening (b.history ++ calls)) c.op done.reply done.gift) same is.gift;
    rows = is.rows;
    fault = λ fault. rose-before (w.faults l.journal.disk) (w.faults now.journal.disk) (w.faults new.ledger.journal.disk) reads.later (is.fault fault);
    way = read-way keep falls recorded (state_after f.opening l.books.history) [] p held _ new.ledger is.way;
  }

  -- Where there was no memory then, the parts are kept as they were.
  pub read-unacted : (recorded : Built) (q r : OpenPages) → AreHeldWhole w f recorded now q → IsUnacted w f (record { ledger = l; pages = r }) (record { ledger = now; pages = q })
  read-unacted recorded q r after = record { recorded = recorded; are = after; entries = ap (λ (b : Books StateSeen). b.history) same; reads = reads }
