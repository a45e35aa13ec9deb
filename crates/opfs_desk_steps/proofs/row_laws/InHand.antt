-- The row that a call has in hand.
use Rattle.std.proofs.Common.{◌≡◌, ℕ, ◌*◌, ◌<◌, false, List, [], ◌∷◌, ◌++◌, fold, length, Option, Some, None, is_some, sym, ap, ◌∙◌, subst}
use Rattle.std.proofs.lemmas.List.Sums.{fold-append}
use Rattle.opfs_base.specs.Texts.{Text}
use Rattle.opfs_books.specs.Laws.Books.{Fixed}
use Rattle.opfs_books.specs.Laws.Laws.{BooksKeepTheState}
use Rattle.opfs_data.specs.Pages.{page_of}
use Rattle.opfs_data.specs.Rows.{row_of, pages_at, page_at, IsOther, OthersStay}
use Rattle.opfs_pages.specs.HistoryLaws.Hands.{row_in_hand}
use Rattle.opfs_pages.specs.HistoryLaws.Laid.{AreLaid, IsLaidInHand}
use Rattle.opfs_pages.specs.HistoryLaws.Laws.{CallsLeaveOtherRows}
use Rattle.opfs_pages.specs.HistoryLaws.Open.{open_at, OthersStayOpen}
use Rattle.opfs_pages.specs.HistoryLaws.Spaced.{Shelf, AreSpaced}
use Rattle.opfs_pages.specs.HistoryLaws.Told.{OthersReadAlike}
use Rattle.opfs_hist.specs.declared.entry.Entry.{Entry}
use Rattle.opfs_laws.specs.Lengths.Outlines.{in_lengths_of}
use Rattle.opfs_machine.specs.declared.own.Own.{Own}
use Rattle.opfs_machine.specs.declared.state.State.{State}
use Rattle.opfs_machine.specs.Histories.{evicted_by, after_entry, after_op, state_after}
use Rattle.opfs_machine.specs.Openings.{Opening, begun}
use Rattle.opfs_machine.specs.Steps.{evicted, after_reply}
use Rattle.opfs_outside.specs.declared.disk.Disk.{Ghosts as DiskWords}
use Rattle.opfs_pages.specs.Copies.{IsBegun}
use Rattle.opfs_records.specs.Replay.Built.{Built}
use Rattle.opfs_space.specs.Room.{Machine}
use Rattle.opfs_space.specs.Spaces.{SpaceSeen}
use Rattle.opfs_laws.specs.Steady.Steady.{row_bytes}
use Rattle.opfs_desk_steps.specs.Parts.Held.{AreHeldAt}
use Rattle.opfs_desk_steps.specs.Parts.Seen.{machine_in, shelf_in, book_in}
use Rattle.opfs_desk_steps.specs.declared.parts.parts.Ledger.{Ledger}
use Rattle.opfs_desk_steps.specs.declared.parts.parts.OpenPages.{OpenPages}
use Rattle.opfs_desk_steps.specs.RowLaws.InHand.{HasInHand, HasPages, HasNoPages, RowsInHandAreLaid}
use Rattle.opfs_desk_steps.proofs.row_laws.Staying.{open-with-bytes}

some-text : (a b : Text) → ◌≡◌ {A = Option Text} (Some a) (Some b) → a ≡ b
some-text a b is = cc

none-text : (a : Text) → ◌≡◌ {A = Option Text} None (Some a) → ⊥
none-text a is = cc

-- The state after one entry more.
pub entered : (o : Opening) (h : List Entry) (e : Entry) (s : State Text Own) → state_after o h ≡ s → evicted_by e.op ≡ None → state_after o (h ++ e ∷ []) ≡ after_reply s e.agent e.op e.reply
entered o h e s known plain =
    fold-append after_entry (begun o) h (e ∷ []) ∙ (ap (λ (x : State Text Own). after_entry x e) known ∙ ap (after_op s e) plain)

-- What a law of what is laid says of one entry.
abbrev pub LaidInHand : Type 0 → Type 0
LaidInHand tells =
    (o : Opening) (h : List Entry) (e : Entry) (base : ℕ) (c d : List ℕ) (m t : Machine) (s r : Shelf) (old new : SpaceSeen) → IsLaidInHand tells o h e base c d m t s r → AreSpaced t r new
    → AreLaid tells o h base c m s old → AreLaid tells o (h ++ e ∷ []) base d t r new

module _ (calls : CallsLeaveOtherRows) {D : Type 0} (w : DiskWords D) (known : BooksKeepTheState w) (laid : LaidInHand w.tells)
    (f : Fixed D) (recorded : Built) (base : State Text Own) (gone : List Text) (l : Ledger D) (p : OpenPages) (d : List ℕ) (e : Entry) (row : ℕ) (r : Shelf) (space : SpaceSeen)
    (held : AreHeldAt w f recorded base gone l p) (has : HasInHand (fold evicted base gone) e row) where
  abbrev s : State Text Own
  s = fold evicted base gone

  abbrev after : State Text Own
  after = after_reply s e.agent e.op e.reply

  abbrev o : Opening
  o = f.opening

  abbrev h : List Entry
  h = l.books.history

  abbrev c : List ℕ
  c = w.content l.journal.disk

  state : state_after o h ≡ s
  state = known.known f recorded base gone (book_in l) l.journal held.books

  later : state_after o (h ++ e ∷ []) ≡ after
  later = entered o h e s state has.plain

  hand : row_in_hand (state_after o h) e.agent e.op ≡ row
  hand = ap (λ (x : State Text Own). row_in_hand x e.agent e.op) state ∙ has.in_hand

  others_open : OthersStayOpen (machine_in l) (in_lengths_of after) e.agent row
  others_open = subst (λ (m : Machine). OthersStayOpen m (in_lengths_of after) e.agent row) (sym held.books.machine) (subst (λ (n : ℕ). OthersStayOpen (in_lengths_of s) (in_lengths_of after) e.agent n) has.in_hand (calls.called s e.agent e.op e.reply has.live))

  -- All that is asked, at the row's own number.
  in-hand : OthersStay e.agent row p.swap r.swap → is_some (row_of e.agent row r.swap) ≡ is_some (open_at (in_lengths_of after) e.agent row) → (w.tells → OthersReadAlike p.base c d p.swap r.swap e.agent row)
      → ((i : ℕ) (x : Text) → row_bytes (state_after o (h ++ e ∷ [])) e.agent row ≡ Some x → 4096 * i < length x → i < length (pages_at e.agent row r.swap))
      → (w.tells → (i : ℕ) (x : Text) → row_bytes (state_after o (h ++ e ∷ [])) e.agent row ≡ Some x → 4096 * i < length x → IsBegun x i (page_of d p.base (page_at e.agent row i r.swap)))
      → IsLaidInHand w.tells o h e p.base c d (machine_in l) (in_lengths_of after) (shelf_in recorded.rows l p) r
  in-hand others here read there told = record {
    others = subst (λ (n : ℕ). OthersStay e.agent n p.swap r.swap) (sym hand) others;
    others_open = subst (λ (n : ℕ). OthersStayOpen (machine_in l) (in_lengths_of after) e.agent n) (sym hand) others_open;
    here = subst (λ (n : ℕ). is_some (row_of e.agent n r.swap) ≡ is_some (open_at (in_lengths_of after) e.agent n)) (sym hand) here;
    read = λ tells k n j other below. read tells k n j (subst (λ (x : ℕ). IsOther e.agent x k n) hand other) below;
    there = subst (λ (n : ℕ). (i : ℕ) (x : Text) → row_bytes (state_after o (h ++ e ∷ [])) e.agent n ≡ Some x → 4096 * i < length x → i < length (pages_at e.agent n r.swap)) (sym hand) there;
    told = λ tells. subst (λ (n : ℕ). (i : ℕ) (x : Text) → row_bytes (state_after o (h ++ e ∷ [])) e.agent n ≡ Some x → 4096 * i < length x → IsBegun x i (page_of d p.base (page_at e.agent n i r.swap))) (sym hand) (told tells);
  }

  goes-on : IsLaidInHand w.tells o h e p.base c d (machine_in l) (in_lengths_of after) (shelf_in recorded.rows l p) r → AreSpaced (in_lengths_of after) r space → AreLaid w.tells o (h ++ e ∷ []) p.base d (in_lengths_of after) r space
  goes-on is spaced = laid o h e p.base c d (machine_in l) (in_lengths_of after) (shelf_in recorded.rows l p) r p.space space is spaced held.laid

  pub open-laid : (bytes : Text) → row_bytes after e.agent row ≡ Some bytes → HasPages w.tells p.base c d p.swap r.swap e.agent row bytes → AreSpaced (in_lengths_of after) r space
      → AreLaid w.tells o (h ++ e ∷ []) p.base d (in_lengths_of after) r space
  open-laid bytes opened pages spaced =
      let same : (x : Text) → row_bytes (state_after o (h ++ e ∷ [])) e.agent row ≡ Some x → bytes ≡ x =
      λ x is. some-text bytes x (sym opened ∙ (sym (ap (λ (y : State Text Own). row_bytes y e.agent row) later) ∙ is)) in
      goes-on (in-hand pages.others (pages.here ∙ sym (open-with-bytes after e.agent row bytes opened)) pages.read
      (λ i x is below. pages.there i (subst (λ (y : Text). 4096 * i < length y) (sym (same x is)) below))
      (λ tells i x is below. subst (λ (y : Text). IsBegun y i (page_of d p.base (page_at e.agent row i r.swap))) (same x is) (pages.told tells i (subst (λ (y : Text). 4096 * i < length y) (sym (same x is)) below))))
      spaced

  pub closed-laid : row_bytes after e.agent row ≡ None → is_some (open_at (in_lengths_of after) e.agent row) ≡ false → HasNoPages w.tells p.base c d p.swap r.swap e.agent row → AreSpaced (in_lengths_of after) r space
      → AreLaid w.tells o (h ++ e ∷ []) p.base d (in_lengths_of after) r space
  closed-laid closed shut pages spaced =
      let none : (x : Text) → row_bytes (state_after o (h ++ e ∷ [])) e.agent row ≡ Some x → ⊥ =
      λ x is. none-text x (sym closed ∙ (sym (ap (λ (y : State Text Own). row_bytes y e.agent row) later) ∙ is)) in
      goes-on (in-hand pages.others (ap is_some pages.gone ∙ sym shut) pages.read (λ i x is below. absurd (none x is)) (λ tells i x is below. absurd (none x is))) spaced

pub rows-laid : CallsLeaveOtherRows → {D : Type 0} (w : DiskWords D) → BooksKeepTheState w → LaidInHand w.tells → RowsInHandAreLaid w
rows-laid calls w known laid = record {
  open_row = λ f recorded base gone l p d e row bytes r space held has opened pages spaced. open-laid calls w known laid f recorded base gone l p d e row r space held has bytes opened pages spaced;
  closed_row = λ f recorded base gone l p d e row r space held has closed shut pages spaced. closed-laid calls w known laid f recorded base gone l p d e row r space held has closed shut pages spaced;
}
