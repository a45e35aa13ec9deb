-- What the images show on the way through a change, whether the call is entered with it or as one in which the disk failed.
use Rattle.std.proofs.Common.{◌≡◌, false, List, [], ◌∷◌, ◌++◌, map, fold, Some, None, refl, sym, ap, subst, ◌∙◌}
use Rattle.std.proofs.lemmas.List.{append_assoc}
use Rattle.opfs_base.specs.Texts.{Text}
use Rattle.opfs_books.specs.Stored.Laws.{CallsAreSpelled, CallsMayFail}
use Rattle.opfs_books.specs.Stored.Spelled.{spelled_by, bytes_stored, told_list}
use Rattle.opfs_books.specs.Laws.Books.{Fixed}
use Rattle.opfs_books.specs.Laws.Laws.{BooksKeepTheState, told, failed}
use Rattle.opfs_books.proofs.laws.Counting.{rose-before}
use Rattle.opfs_books.proofs.laws.Told.{changes-more}
use Rattle.opfs_books.specs.Seen.{stored_change}
use Rattle.opfs_books.proofs.Following.{answered-changes}
use Rattle.opfs_codec.specs.declared.change.Change.{Change as Spelled}
use Rattle.opfs_hist.specs.declared.entry.Entry.{Entry}
use Rattle.opfs_laws.specs.Histories.Doubts.{faulted}
use Rattle.opfs_laws.specs.Lengths.Kept.{Kept}
use Rattle.opfs_machine.specs.declared.own.Own.{Own}
use Rattle.opfs_machine.specs.declared.state.Sizes.{Sizes}
use Rattle.opfs_machine.specs.declared.state.State.{State}
use Rattle.opfs_machine.specs.Changes.{Change, changes, entry_changes, stored_by, evict}
use Rattle.opfs_machine.specs.Histories.{state_after, evicted_by, IsCall}
use Rattle.opfs_machine.specs.Runs.{eviction}
use Rattle.opfs_machine.specs.Steps.{evicted, is_refusal}
use Rattle.opfs_outside.specs.declared.disk.Disk.{Ghosts as DiskWords}
use Rattle.opfs_space.specs.Room.{Machine}
use Rattle.opfs_desk_steps.specs.Parts.Acted.{IsWay, IsWayEnded, AreCleared, HasFailed, last_doubt}
use Rattle.opfs_desk_steps.specs.Parts.Answered.{IsAnswered}
use Rattle.opfs_desk_steps.specs.Parts.Seen.{machine_in, tree_in, book_in}
use Rattle.opfs_desk_steps.specs.declared.parts.parts.Ledger.{Ledger}
use Rattle.opfs_desk_steps.specs.declared.parts.parts.OpenPages.{OpenPages}
use Rattle.opfs_desk_steps.proofs.book_steps.Held.{evictions-told, refused-told}
use Rattle.opfs_desk_steps.proofs.book_steps.Loop.{Falls}
use Rattle.opfs_desk_steps.proofs.book_steps.Ways.{way-then, way-told, way-same, way-told-same, last-doubt}
use Rattle.opfs_desk_entries.specs.KeptBack.Changing.{HasNotChanged, IsChangeShown}
use Rattle.opfs_desk_steps.specs.Going.{IsTidy}

module _ {D : Type 0} (w : DiskWords D) (f : Fixed D) (states : BooksKeepTheState w) (spells : CallsAreSpelled) (fails : CallsMayFail w.tells) (falls : Falls w) (mid back new : Ledger D) (p : OpenPages) (units : List Text) (e : Entry) (z : Sizes) (own : Spelled)
    (grown : back.books.history ≡ mid.books.history ++ map eviction units) (cleared : AreCleared w f units mid back p) (answered : IsAnswered w (state_after f.opening mid.books.history) units back e z) (plain : is_refusal e.reply ≡ false)
    (tidy : IsTidy back) (spelled : spelled_by (machine_in back) (tree_in back) e.agent e.op z None ≡ Some own) (no_evict : evicted_by e.op ≡ None) where
  abbrev base : State Text Own
  base = state_after f.opening mid.books.history

  abbrev s : State Text Own
  s = fold evicted base units

  abbrev change : Change
  change = stored_change base units e own

  -- What the call stores.
  stored-is : stored_by s e.agent e.op ≡ change ∷ []
  stored-is =
      let machine = cleared.are.books.machine in
      spells.told s (tree_in back) e.agent (sym tidy.lines ∙ ap (λ (m : Machine). m.rows) machine) (subst Kept machine answered.change.kept) e.op z None no_evict
      ∙ ap (λ (m : Machine). told_list (bytes_stored s e.agent e.op) (spelled_by m (tree_in back) e.agent e.op z None)) (sym machine)
      ∙ ap (told_list (bytes_stored s e.agent e.op)) spelled

  changes-are : entry_changes (state_after f.opening back.books.history) e ≡ change ∷ []
  changes-are =
      ap (λ (x : State Text Own). entry_changes x e) (states.known f cleared.recorded base units (book_in back) back.journal cleared.are.books)
      ∙ (answered-changes s e plain ∙ stored-is)

  -- The way up to the change, and through it.
  way-through : IsChangeShown w f base units back new e own → IsWay w f (told f (book_in back) ++ change ∷ []) mid new
  way-through shown = way-then w f falls mid back new (map evict units) (change ∷ []) (evictions-told w f mid back units grown) cleared.way shown.later shown.time shown.shown

  -- ---- the call is entered

  pub way-ended : new.books.history ≡ back.books.history ++ e ∷ [] → IsChangeShown w f base units back new e own → IsWayEnded w f mid new
  way-ended entries shown =
      let more = last_doubt f.opening new.books.history in
      let is : told f (book_in new) ≡ told f (book_in back) ++ change ∷ [] =
      ap (changes f.opening) entries ∙ changes-more f.opening back.books.history e ∙ ap (λ (cs : List Change). told f (book_in back) ++ cs) changes-are in
      way-same w f mid new ((told f (book_in back) ++ change ∷ []) ++ more) (told f (book_in new) ++ more) (ap (λ (cs : List Change). cs ++ more) (sym is))
      (way-told w f mid new new (told f (book_in back) ++ change ∷ []) more (way-through shown) refl)

  -- ---- or the disk failed

  fault : IsCall base units (failed e) × (faulted base units (failed e) ≡ change ∷ [])
  fault = fails.call base units e change answered.next plain stored-is

  doubt-is : new.books.history ≡ back.books.history ++ failed e ∷ [] → w.tells → last_doubt f.opening new.books.history ≡ change ∷ []
  doubt-is entries t =
      ap (last_doubt f.opening) entries
      ∙ (last-doubt w.tells f.opening back.books.history (failed e) base units cleared.are.books.told fault.0 t ∙ fault.1)

  pub has-failed : HasNotChanged w f cleared.recorded base units back new p e own → HasFailed w f e mid new p
  has-failed not = record {
    gone = units;
    grown = not.entries ∙ ap (λ (es : List Entry). es ++ failed e ∷ []) grown ∙ append_assoc mid.books.history (map eviction units) (failed e ∷ []);
    call = fault.0;
    recorded = cleared.recorded;
    are = not.are;
    idle = not.idle;
    rose = rose-before (w.faults mid.journal.disk) (w.faults back.journal.disk) (w.faults new.journal.disk) cleared.way.later not.rose;
    way =
        way-told-same w f mid new (told f (book_in back) ++ change ∷ []) (told f (book_in new) ++ last_doubt f.opening new.books.history)
        (λ t. λ i. sym (refused-told w f back new (failed e) refl not.entries) i ++ sym (doubt-is not.entries t) i)
        (way-through not.shown);
  }
