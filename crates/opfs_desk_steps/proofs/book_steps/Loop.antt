-- Units that are cleared one after another.
use Rattle.std.proofs.Common.{◌≡◌, ℕ, ◌≤◌, false, None, map, List, [], ◌∷◌, ◌++◌, refl, sym, ap, subst, ◌∙◌, append-nil, length}
use Rattle.std.proofs.lemmas.List.{append_assoc, map-append}
use Rattle.std.proofs.lemmas.List.Sums.{fold-append}
use Rattle.opfs_base.specs.Texts.{Text}
use Rattle.opfs_books.specs.Stored.Laws.{CallsMayFail}
use Rattle.opfs_books.specs.Laws.Books.{Fixed, IsPlaced}
use Rattle.opfs_books.specs.Laws.Laws.{LeavesPages, ShowsTold, told, failed, BooksShowTheirImages}
use Rattle.opfs_books.proofs.laws.Counting.{rose-before}
use Rattle.opfs_state_rows.specs.Changes.Asking.{AreOwnUnits}
use Rattle.opfs_hist.specs.declared.entry.Entry.{Entry}
use Rattle.opfs_laws.specs.Histories.Unread.{ReadsLeaveTheState}
use Rattle.opfs_laws.specs.Counting.{AStateCountsItsHistory}
use Rattle.opfs_laws.specs.Lengths.Bridge.{LengthsFollowEachCall, LengthsDecideEachRuling}
use Rattle.opfs_machine.specs.declared.own.Own.{Own}
use Rattle.opfs_machine.specs.declared.state.State.{State}
use Rattle.opfs_machine.specs.Changes.{evict}
use Rattle.opfs_machine.specs.Histories.{state_after}
use Rattle.opfs_machine.specs.Runs.{eviction}
use Rattle.opfs_machine.specs.Steps.{evicted}
use Rattle.opfs_outside.specs.Faults.{Rose}
use Rattle.opfs_outside.specs.declared.disk.Disk.{Ghosts as DiskWords}
use Rattle.opfs_records.specs.Replay.Built.{Built}
use Rattle.opfs_space.specs.Room.{Machine}
use Rattle.opfs_state.specs.Applied.{IsPrepared}
use Rattle.opfs_state.specs.Laws.Owned.{CallsAreAboutOwnUnits}
use Rattle.opfs_state.specs.Laws.Room.{HasRoom, EvictionsMakeRoom}
use Rattle.opfs_tree.specs.Rows.{Rows as Tree, without}
use Rattle.opfs_state.specs.Verdicts.Callers.{IsAgent}
use Rattle.opfs_desk_steps.specs.Parts.Acted.{AreCleared, HasFailed, last_doubt}
use Rattle.opfs_desk_steps.specs.Parts.Asked.{AreEvictions}
use Rattle.opfs_desk_steps.specs.Parts.Held.{AreHeldAt, AreHeldWhole}
use Rattle.opfs_desk_steps.specs.Parts.Seen.{machine_in, tree_in, book_in, units_in}
use Rattle.opfs_desk_steps.specs.declared.parts.call.Eviction.{Eviction}
use Rattle.opfs_desk_steps.specs.declared.parts.parts.Ledger.{Ledger}
use Rattle.opfs_desk_steps.specs.declared.parts.parts.OpenPages.{OpenPages}
use Rattle.opfs_desk_steps.specs.BookSteps.Clearing.{IsJudged, IsTurn, IsStillReady, MayEvict, IsEnteredFailed, IsOnWay, cleared_from}
use Rattle.opfs_desk_steps.proofs.book_steps.Held.{evicted-told, evictions-told, refused-told}
use Rattle.opfs_desk_steps.proofs.book_steps.Real.{own-units, has-room, agent-there}
use Rattle.opfs_desk_steps.proofs.book_steps.Turns.{turn}
use Rattle.opfs_desk_steps.proofs.book_steps.Ways.{way-here, way-then, way-same, way-told-same, last-doubt}

abbrev pub Falls : {D : Type 0} → DiskWords D → Type 0
Falls {D} w = w.tells → (d : D) (t u : ℕ) (c : List ℕ) → t ≤ u → w.since d u c → w.since d t c

module _ {D : Type 0} (w : DiskWords D) (start : Ledger D) (e : Entry) (all : List Eviction) where
  -- Nothing is cleared yet.
  pub way-begins : BooksShowTheirImages w → IsStillReady start e → start.journal.in_doubt ≡ false → AreEvictions all → IsOnWay w start start e all all
  way-begins rest ready settled evictions = record {
    done = [];
    split = refl;
    entries = sym (append-nil start.books.history);
    machine = refl;
    tree = refl;
    ready = ready;
    settled = settled;
    evictions = evictions;
    cleared = λ f recorded p are. record { recorded = recorded; are = are; way = way-here w f recorded (state_after f.opening start.books.history) [] start start (told f (book_in start)) rest are.books refl };
  }

  module _ (mid : Ledger D) (x : Eviction) (rest : List Eviction) (on : IsOnWay w start mid e all (x ∷ rest)) where
    abbrev more : List Text
    more = on.done ++ x.unit ∷ []

    -- The next one may be.
    pub next-may : LengthsFollowEachCall → (f : Fixed D) (recorded : Built) (p : OpenPages) → AreHeldWhole w f recorded start p → IsJudged (state_after f.opening start.books.history) e (units_in all) → HasRoom (state_after f.opening start.books.history) e.agent e.op (units_in all)
        → MayEvict w mid e x
    next-may follow f recorded p are judged room =
        let was = on.cleared f recorded p are in
        record {
          fixed = f;
          recorded = was.recorded;
          base = state_after f.opening start.books.history;
          gone = on.done;
          pages = p;
          are = was.are;
          turn = turn follow (state_after f.opening start.books.history) e (units_in all) judged room mid on.done x.unit (units_in rest) on.split was.are.books.machine;
          ready = on.ready;
          told = on.evictions.0;
          settled = on.settled;
        }

    told-mid : (f : Fixed D) → told f (book_in mid) ≡ told f (book_in start) ++ map evict on.done
    told-mid f = evictions-told w f start mid on.done on.entries

    -- It is cleared.
    pub way-goes-on : Falls w → (new : Ledger D) → new.books.history ≡ mid.books.history ++ eviction x.unit ∷ [] → machine_in new ≡ evicted (machine_in mid) x.unit → tree_in new ≡ without (x.unit, []) (tree_in mid) → IsStillReady new e → new.journal.in_doubt ≡ false
        → ((f : Fixed D) (recorded : Built) (base : State Text Own) (gone : List Text) (p : OpenPages) → AreHeldAt w f recorded base gone mid p → AreHeldAt w f (book_in new).rows base (gone ++ x.unit ∷ []) new p)
        → LeavesPages w mid.journal new.journal
        → ((f : Fixed D) (recorded : Built) (base : State Text Own) (gone : List Text) (p : OpenPages) → AreHeldAt w f recorded base gone mid p → ShowsTold w f (book_in mid) (told f (book_in mid) ++ evict x.unit ∷ []) mid.journal new.journal)
        → IsOnWay w start new e all rest
    way-goes-on falls new entries machine tree ready settled held leaves shown = record {
      done = more;
      split = on.split ∙ sym (append_assoc on.done (x.unit ∷ []) (units_in rest));
      entries =
          entries ∙ ap (λ es. es ++ eviction x.unit ∷ []) on.entries
          ∙ append_assoc start.books.history (map eviction on.done) (eviction x.unit ∷ [])
          ∙ ap (λ es. start.books.history ++ es) (sym (map-append eviction on.done (x.unit ∷ [])));
      machine = machine ∙ ap (λ (m : Machine). evicted m x.unit) on.machine ∙ sym (fold-append evicted (machine_in start) on.done (x.unit ∷ []));
      tree = tree ∙ ap (λ (t : Tree). without (x.unit, []) t) on.tree ∙ sym (fold-append cleared_from (tree_in start) on.done (x.unit ∷ []));
      ready = ready;
      settled = settled;
      evictions = on.evictions.1;
      cleared = λ f recorded p are.
          let was = on.cleared f recorded p are in
          let base = state_after f.opening start.books.history in
          record {
            recorded = (book_in new).rows;
            are = held f was.recorded base on.done p was.are;
            way =
                way-same w f start new _ _ (sym (evicted-told w f mid new x.unit entries))
                (way-then w f falls start mid new (map evict on.done) (evict x.unit ∷ []) (told-mid f) was.way leaves.later leaves.time (shown f was.recorded base on.done p was.are));
          };
    }

    -- The disk failed.
    pub way-fails : Falls w → CallsMayFail w.tells → (new : Ledger D) → LeavesPages w mid.journal new.journal → Rose (w.faults mid.journal.disk) (w.faults new.journal.disk) → new.books.state.store.prepared.place ≡ None
        → (f : Fixed D) (recorded : Built) (p : OpenPages) → AreHeldWhole w f recorded start p → IsTurn (state_after f.opening start.books.history) on.done mid e x.unit
        → ((recorded : Built) (base : State Text Own) (gone : List Text) → AreHeldAt w f recorded base gone mid p → IsTurn base gone mid e x.unit → IsEnteredFailed w f recorded e mid new p)
        → ((recorded : Built) (base : State Text Own) (gone : List Text) → AreHeldAt w f recorded base gone mid p → ShowsTold w f (book_in mid) (told f (book_in mid) ++ evict x.unit ∷ []) mid.journal new.journal)
        → HasFailed w f e start new p
    way-fails falls fails new leaves rose idle f recorded p are its entered shown =
        let was = on.cleared f recorded p are in
        let base = state_after f.opening start.books.history in
        let ended = entered was.recorded base on.done was.are its in
        let silent = refused-told w f mid new (failed e) refl ended.grown in
        record {
          gone = on.done;
          grown = ended.grown ∙ ap (λ es. es ++ failed e ∷ []) on.entries ∙ append_assoc start.books.history (map eviction on.done) (failed e ∷ []);
          call = its.fault;
          recorded = was.recorded;
          are = ended.are;
          idle = idle;
          rose = rose-before (w.faults start.journal.disk) (w.faults mid.journal.disk) (w.faults new.journal.disk) was.way.later rose;
          way =
              way-told-same w f start new (told f (book_in mid) ++ evict x.unit ∷ []) _
              (λ t.
              (λ i. sym silent i ++ evict x.unit ∷ [])
              ∙ ap (λ cs. told f (book_in new) ++ cs)
              (sym (ap (last_doubt f.opening) ended.grown ∙ last-doubt w.tells f.opening mid.books.history (failed e) base on.done was.are.books.told its.fault t ∙ fails.eviction base on.done its.rest x.unit e its.victims)))
              (way-then w f falls start mid new (map evict on.done) (evict x.unit ∷ []) (told-mid f) was.way leaves.later leaves.time (shown was.recorded base on.done was.are));
        }

-- ---- what the way begins with

module _ {D : Type 0} (w : DiskWords D) (f : Fixed D) (recorded : Built) (l : Ledger D) (p : OpenPages) (are : AreHeldWhole w f recorded l p) (e : Entry) (units : List Text) (judged : IsJudged (state_after f.opening l.books.history) e units) where
  pub ready-for : IsPrepared l.books.state e.agent e.op → IsPlaced l.books.history e.agent → AStateCountsItsHistory → ReadsLeaveTheState → CallsAreAboutOwnUnits → IsStillReady l e
  ready-for prepared placed counts reads about = record {
    prepared = prepared;
    own =
        subst (λ (m : Machine). AreOwnUnits m e.agent e.op) (sym are.books.machine)
        (own-units w.tells f.opening l.books.history reads are.books.told counts are.tied.keys e.agent e.op judged.fitting about);
    agent = subst (λ (m : Machine). IsAgent m e.agent) (sym are.books.machine) (agent-there (state_after f.opening l.books.history) e.agent judged.live);
    placed = placed;
  }

  pub room-for : AStateCountsItsHistory → ReadsLeaveTheState → EvictionsMakeRoom → LengthsDecideEachRuling → HasRoom (state_after f.opening l.books.history) e.agent e.op units
  room-for counts reads make decide =
      has-room w.tells f.opening l.books.history reads are.books.told counts are.tied.keys e.agent e.op judged.fitting make decide are.books.whole units judged.judged

-- ---- where it ends

none-left : (rest : List Eviction) → length rest ≡ 0 → units_in rest ≡ []
none-left [] none = refl
none-left (x ∷ rest) none = cc

pub all-cleared : {D : Type 0} (w : DiskWords D) (start new : Ledger D) (e : Entry) (all rest : List Eviction) → IsOnWay w start new e all rest → length rest ≡ 0 → (f : Fixed D) (recorded : Built) (p : OpenPages) → AreHeldWhole w f recorded start p
    → AreCleared w f (units_in all) start new p
all-cleared w start new e all rest on none f recorded p are =
    subst (λ (us : List Text). AreCleared w f us start new p) (sym (on.split ∙ ap (λ us. on.done ++ us) (none-left rest none) ∙ append-nil on.done)) (on.cleared f recorded p are)
