-- Units that are cleared once the doubt is ended.
use Rattle.std.proofs.Common.{◌≡◌, false, map, List, [], ◌∷◌, ◌++◌, sym, ap, subst, ◌∙◌}
use Rattle.std.proofs.lemmas.List.{append_assoc}
use Rattle.opfs_books.specs.Laws.Books.{Fixed, IsPlaced}
use Rattle.opfs_books.specs.Laws.Laws.{told, failed}
use Rattle.opfs_books.proofs.laws.Counting.{rose-before}
use Rattle.opfs_hist.specs.declared.entry.Entry.{Entry}
use Rattle.opfs_laws.proofs.histories.Adding.{changes-append}
use Rattle.opfs_machine.specs.Changes.{changes, changes_from}
use Rattle.opfs_machine.specs.Histories.{state_after, IsCall}
use Rattle.opfs_machine.specs.Openings.{begun}
use Rattle.opfs_machine.specs.Runs.{eviction}
use Rattle.opfs_outside.specs.declared.disk.Disk.{Ghosts as DiskWords}
use Rattle.opfs_records.specs.Replay.Built.{Built}
use Rattle.opfs_space.specs.Room.{Machine}
use Rattle.opfs_state.specs.Applied.{StateSeen, IsPrepared}
use Rattle.opfs_state.specs.Verdicts.Callers.{IsAgent}
use Rattle.opfs_desk_steps.specs.Parts.Acted.{IsWayNow, AreCleared, HasFailed, last_doubt}
use Rattle.opfs_desk_steps.specs.Parts.Held.{AreHeldAt, AreHeldWhole}
use Rattle.opfs_desk_steps.specs.Parts.Seen.{book_in, units_in}
use Rattle.opfs_desk_steps.specs.declared.parts.call.Eviction.{Eviction}
use Rattle.opfs_desk_steps.specs.declared.parts.parts.Ledger.{Ledger}
use Rattle.opfs_desk_steps.specs.declared.parts.parts.OpenPages.{OpenPages}
use Rattle.opfs_desk_steps.specs.BookSteps.Clearing.{IsJudged, MayMakeWay, MayEndDoubt, MayClearAll}
use Rattle.opfs_desk_steps.proofs.book_steps.Loop.{Falls}
use Rattle.opfs_desk_steps.proofs.book_steps.Real.{agent-there}
use Rattle.opfs_desk_steps.proofs.book_steps.Ways.{way-both}

module _ {D : Type 0} (w : DiskWords D) (l : Ledger D) (e : Entry) (all : List Eviction) where
  pub may-end : MayMakeWay w l e all → MayEndDoubt w l e
  may-end may = record {
    fixed = may.fixed;
    recorded = may.recorded;
    pages = may.pages;
    are = may.are;
    agent = subst (λ (m : Machine). IsAgent m e.agent) (sym may.are.books.machine) (agent-there (state_after may.fixed.opening l.books.history) e.agent may.judged.live);
    placed = may.placed;
  }

  module _ (mid : Ledger D) (entries : mid.books.history ≡ l.books.history) (sure : mid.journal.in_doubt ≡ false) (held : (f : Fixed D) (recorded : Built) (p : OpenPages) → AreHeldWhole w f recorded l p → AreHeldWhole w f recorded mid p × IsWayNow w f l mid) where
    judged-then : (f : Fixed D) → IsJudged (state_after f.opening l.books.history) e (units_in all) → IsJudged (state_after f.opening mid.books.history) e (units_in all)
    judged-then f judged = subst (λ (h : List Entry). IsJudged (state_after f.opening h) e (units_in all)) (sym entries) judged

    pub may-clear : MayMakeWay w l e all → mid.books.state ≡ l.books.state → (back : Entry) → back ≡ e → MayClearAll w mid back all
    may-clear may state back same =
        subst (λ (x : Entry). MayClearAll w mid x all) (sym same)
        (record {
          way = record {
            fixed = may.fixed;
            recorded = may.recorded;
            pages = may.pages;
            are = (held may.fixed may.recorded may.pages may.are).0;
            judged = judged-then may.fixed may.judged;
            prepared = subst (λ (s : StateSeen). IsPrepared s e.agent e.op) (sym state) may.prepared;
            evictions = may.evictions;
            placed = subst (λ (h : List Entry). IsPlaced h e.agent) (sym entries) may.placed;
          };
          settled = sure;
        })

    grows : (f : Fixed D) (new : Ledger D) (more : List Entry) → new.books.history ≡ mid.books.history ++ more → told f (book_in new) ≡ told f (book_in mid) ++ changes_from (state_after f.opening mid.books.history) more
    grows f new more grown = ap (changes f.opening) grown ∙ changes-append (begun f.opening) mid.books.history more

    same-told : (f : Fixed D) → told f (book_in mid) ≡ told f (book_in l)
    same-told f = ap (changes f.opening) entries

    pub then-cleared : Falls w → (new : Ledger D) → new.books.history ≡ mid.books.history ++ map eviction (units_in all) → ((f : Fixed D) (recorded : Built) (p : OpenPages) → AreHeldWhole w f recorded mid p → AreCleared w f (units_in all) mid new p)
        → (f : Fixed D) (recorded : Built) (p : OpenPages) → AreHeldWhole w f recorded l p → AreCleared w f (units_in all) l new p
    then-cleared falls new grown cleared f recorded p are =
        let first = held f recorded p are in
        let done = cleared f recorded p first.0 in
        record {
          recorded = done.recorded;
          are = subst (λ (h : List Entry). AreHeldAt w f done.recorded (state_after f.opening h) (units_in all) new p) entries done.are;
          way = way-both w f falls l mid new (told f (book_in new)) (changes_from (state_after f.opening mid.books.history) (map eviction (units_in all))) first.1 (same-told f) sure done.way (grows f new (map eviction (units_in all)) grown);
        }

    pub then-failed : Falls w → (new : Ledger D) (back : Entry) → back ≡ e → ((f : Fixed D) (recorded : Built) (p : OpenPages) → AreHeldWhole w f recorded mid p → IsJudged (state_after f.opening mid.books.history) back (units_in all) → HasFailed w f back mid new p)
        → (f : Fixed D) (recorded : Built) (p : OpenPages) → AreHeldWhole w f recorded l p → IsJudged (state_after f.opening l.books.history) e (units_in all) → HasFailed w f e l new p
    then-failed falls new back same fails f recorded p are judged =
        let first = held f recorded p are in
        let done : HasFailed w f e mid new p =
        subst (λ (x : Entry). HasFailed w f x mid new p) same
        (fails f recorded p first.0 (subst (λ (x : Entry). IsJudged (state_after f.opening mid.books.history) x (units_in all)) (sym same) (judged-then f judged))) in
        let more = map eviction done.gone ++ failed e ∷ [] in
        record {
          gone = done.gone;
          grown = done.grown ∙ ap (λ h. h ++ more) entries;
          call = subst (λ (h : List Entry). IsCall (state_after f.opening h) done.gone (failed e)) entries done.call;
          recorded = done.recorded;
          are = done.are;
          idle = done.idle;
          rose = rose-before (w.faults l.journal.disk) (w.faults mid.journal.disk) (w.faults new.journal.disk) first.1.later done.rose;
          way =
              way-both w f falls l mid new (told f (book_in new) ++ last_doubt f.opening new.books.history)
              (changes_from (state_after f.opening mid.books.history) more ++ last_doubt f.opening new.books.history) first.1 (same-told f) sure done.way
              (ap (λ cs. cs ++ last_doubt f.opening new.books.history) (grows f new more done.grown)
              ∙ append_assoc (told f (book_in mid)) (changes_from (state_after f.opening mid.books.history) more) (last_doubt f.opening new.books.history));
        }
