-- Pages that are ready to be put stay so while the journal is used.
use Rattle.std.specs.Vec.{vec_capacity}
use Rattle.std.specs.Prelude.{MatchOption}
use Rattle.std.proofs.Common.{◌≡◌, ℕ, ◌≤◌, false, List, [], ◌∷◌, length, Option, Some, None, sym, ap, subst, ◌∙◌, inl, inr, append-nil, arith}
use Rattle.std.proofs.lemmas.Bool.{cases_lt}
use Rattle.std.proofs.lemmas.List.{get_or_past}
use Rattle.opfs_base.specs.Texts.{Text}
use Rattle.opfs_books.specs.Laws.Books.{Fixed}
use Rattle.opfs_books.specs.Laws.Laws.{told}
use Rattle.opfs_data.specs.declared.page.SavedPage.{SavedPage}
use Rattle.opfs_data.specs.Pages.{AreNow, blank, page_of}
use Rattle.opfs_data.specs.Rows.{Rows, pages_at, page_at, row_at}
use Rattle.opfs_data.specs.Writes.{WriteList}
use Rattle.opfs_pages.specs.HistoryLaws.Putting.{AllReadAlike}
use Rattle.opfs_desk_steps.specs.Parts.Acted.{AreCleared}
use Rattle.opfs_desk_steps.specs.Parts.Held.{AreHeldAt, AreHeldWhole}
use Rattle.opfs_desk_steps.specs.Parts.Seen.{book_in, machine_in, shelf_in, tree_in}
use Rattle.opfs_desk_steps.specs.declared.parts.parts.Ledger.{Ledger}
use Rattle.opfs_desk_steps.specs.declared.parts.parts.OpenPages.{OpenPages}
use Rattle.opfs_desk_steps.proofs.book_steps.Loop.{Falls}
use Rattle.opfs_desk_steps.proofs.book_steps.Ways.{way-both}
use Rattle.opfs_hist.specs.declared.entry.Entry.{Entry}
use Rattle.opfs_machine.specs.Changes.{changes}
use Rattle.opfs_machine.specs.Histories.{state_after}
use Rattle.opfs_outside.specs.declared.disk.Disk.{Ghosts as DiskWords}
use Rattle.opfs_pages.specs.Writing.Puts.{IsReady as IsPutReady}
use Rattle.opfs_pages.specs.declared.writing.put.Put.{Put}
use Rattle.opfs_pages.specs.RowCalls.Plans.{AreGotten, shelf}
use Rattle.opfs_pages.specs.RowCalls.Rows.{IsPutOf}
use Rattle.opfs_state.specs.Applied.{StateSeen}
use Rattle.opfs_tree.specs.Rows.{Rows as Tree}
use Rattle.opfs_laws.specs.Steady.Steady.{row_bytes}
use Rattle.opfs_work.specs.Works.{WorkingCopy}
use Rattle.opfs_desk_contents.specs.Putting.{IsRowToPut, all_of}

module _ (base : ℕ) (c d : List ℕ) (swap : Rows) (agent row : ℕ) (alike : AllReadAlike base c d swap swap) where
  pub alike-all : (i : ℕ) → page_of d base (page_at agent row i swap) ≡ page_of c base (page_at agent row i swap)
  alike-all i = elim (cases_lt i (length (pages_at agent row swap))) [
    | inl within ↦ alike agent row i within
    | inr past ↦ let none = get_or_past (pages_at agent row swap) i blank past in ap (page_of d base) none ∙ sym (ap (page_of c base) none)
  ]

  all-now : (saved : List SavedPage) → AreNow c base (pages_at agent row swap) saved → AreNow d base (pages_at agent row swap) saved
  all-now [] all = tt
  all-now (s ∷ more) all = (all.0 ∙ sym (alike-all s.page), all-now more all.1)

  saved-now : (o : Option (List SavedPage)) → MatchOption o ⊥ (λ saved. AreNow c base (pages_at agent row swap) saved) → MatchOption o ⊥ (λ saved. AreNow d base (pages_at agent row swap) saved)
  saved-now None is = is
  saved-now (Some saved) is = all-now saved is

pub ready-on : (tells : Type 0) (c d : List ℕ) (base : ℕ) (swap : Rows) (agent row pages : ℕ) (w : WriteList) (moves room now : ℕ) → (tells → AllReadAlike base c d swap swap) → room ≤ now
    → IsPutReady tells c base swap agent row pages w moves room → IsPutReady tells d base swap agent row pages w moves now
ready-on tells c d base swap agent row pages w moves room now alike more is = record {
  there = is.there;
  count = is.count;
  places = is.places;
  extents = omega (arith, is.extents, more);
  room_is = is.room_is;
  saved = is.saved;
  now = λ t. saved-now base c d swap agent row (alike t) (row_at agent row swap).saved (is.now t);
}

pub ready-put : (tells : Type 0) (c d : List ℕ) (base next_base : ℕ) (swap next_swap : Rows) (agent row : ℕ) (put next : Put) → next_swap ≡ swap → next_base ≡ base → next.writes ≡ put.writes → next.pages ≡ put.pages → next.moves ≡ put.moves
    → vec_capacity put.extents ≤ vec_capacity next.extents → (tells → AllReadAlike base c d swap swap) → IsPutReady tells c base swap agent row put.pages put.writes put.moves (vec_capacity put.extents)
    → IsPutReady tells d next_base next_swap agent row next.pages next.writes next.moves (vec_capacity next.extents)
ready-put tells c d base next_base swap next_swap agent row put next same_swap same_base writes pages moves more alike is =
    let goes = ready-on tells c d base swap agent row put.pages put.writes put.moves (vec_capacity put.extents) (vec_capacity next.extents) alike more is in
    subst (λ (x : ℕ). IsPutReady tells d next_base next_swap agent row next.pages next.writes x (vec_capacity next.extents)) (sym moves)
    (subst (λ (x : ℕ). IsPutReady tells d next_base next_swap agent row x next.writes put.moves (vec_capacity next.extents)) (sym pages)
    (subst (λ (x : WriteList). IsPutReady tells d next_base next_swap agent row put.pages x put.moves (vec_capacity next.extents)) (sym writes)
    (subst (λ (x : ℕ). IsPutReady tells d x next_swap agent row put.pages put.writes put.moves (vec_capacity next.extents)) (sym same_base)
    (subst (λ (x : Rows). IsPutReady tells d base x agent row put.pages put.writes put.moves (vec_capacity next.extents)) (sym same_swap) goes))))

-- What was gotten stays.
pub gotten-on : {D : Type 0} (w : DiskWords D) (recorded : Tree) (l new : Ledger D) (p : OpenPages) (agent row : ℕ) (put : Put) → new.books.state ≡ l.books.state → w.size new.journal.disk ≡ w.size l.journal.disk
    → AreGotten put.taken (machine_in l) (shelf_in recorded l p) p.space p.base (w.size l.journal.disk) agent row put.pages put.writes [] put.extents.items
    → AreGotten put.taken (machine_in new) (shelf_in recorded new p) p.space p.base (w.size new.journal.disk) agent row put.pages put.writes [] put.extents.items
gotten-on w recorded l new p agent row put state size is =
    subst (λ (s : StateSeen). AreGotten put.taken s.store.machine (shelf recorded s.store.tree p.swap) p.space p.base (w.size new.journal.disk) agent row put.pages put.writes [] put.extents.items) (sym state)
    (subst (λ (n : ℕ). AreGotten put.taken (machine_in l) (shelf recorded (tree_in l) p.swap) p.space p.base n agent row put.pages put.writes [] put.extents.items) (sym size) is)

-- Whole parts after a step over the same history.
pub whole-now : {D : Type 0} (w : DiskWords D) (f : Fixed D) (l new : Ledger D) (p : OpenPages) → new.books.history ≡ l.books.history → (is : AreCleared w f [] l new p) → AreHeldWhole w f is.recorded new p
whole-now w f l new p entries is = subst (λ (es : List Entry). AreHeldAt w f is.recorded (state_after f.opening es) [] new p) (sym entries) is.are

pub of-on : (tells : Type 0) (work : WorkingCopy) (c d : List ℕ) (base : ℕ) (swap : Rows) (agent row : ℕ) (w : WriteList) (before after : Text) → (tells → AllReadAlike base c d swap swap)
    → IsPutOf tells work c base swap agent row (all_of work.length) w before after → IsPutOf tells work d base swap agent row (all_of work.length) w before after
of-on tells work c d base swap agent row w before after alike is = record {
  was = is.was;
  content = is.content;
  staged = is.staged;
  same = is.same;
  alike = λ t i. alike-all base c d swap agent row (alike t) i ∙ is.alike t i;
  paged = is.paged;
  copy = is.copy;
  held = is.held;
  after_is = is.after_is;
}

pub row-on : {D : Type 0} (w : DiskWords D) (f : Fixed D) (l new : Ledger D) (p q : OpenPages) (agent row : ℕ) (put next : Put) (work : WorkingCopy) (bytes : Text) → q.swap ≡ p.swap → q.base ≡ p.base → new.books.history ≡ l.books.history
    → next.writes ≡ put.writes → next.pages ≡ put.pages → (w.tells → AllReadAlike p.base (w.content l.journal.disk) (w.content new.journal.disk) p.swap p.swap)
    → IsRowToPut w f l p agent row put work bytes → IsRowToPut w f new q agent row next work bytes
row-on w f l new p q agent row put next work bytes swap base entries writes pages alike is = record {
  of_row =
      subst (λ (x : WriteList). IsPutOf w.tells work (w.content new.journal.disk) q.base q.swap agent row (all_of work.length) x bytes bytes) (sym writes)
      (subst (λ (b : ℕ). IsPutOf w.tells work (w.content new.journal.disk) b q.swap agent row (all_of work.length) put.writes bytes bytes) (sym base)
      (subst (λ (x : Rows). IsPutOf w.tells work (w.content new.journal.disk) p.base x agent row (all_of work.length) put.writes bytes bytes) (sym swap)
      (of-on w.tells work (w.content l.journal.disk) (w.content new.journal.disk) p.base p.swap agent row put.writes bytes bytes alike is.of_row)));
  its_bytes = ap (λ (es : List Entry). row_bytes (state_after f.opening es) agent row) entries ∙ is.its_bytes;
  size = is.size;
  count = pages ∙ is.count;
}

-- One step after another.
pub cleared-both : {D : Type 0} (w : DiskWords D) (f : Fixed D) → Falls w → (l mid new : Ledger D) (p q : OpenPages) → mid.books.history ≡ l.books.history → new.books.history ≡ mid.books.history → mid.journal.in_doubt ≡ false
    → AreCleared w f [] l mid p → AreCleared w f [] mid new q → AreCleared w f [] l new q
cleared-both w f falls l mid new p q first second sure done more = record {
  recorded = more.recorded;
  are = subst (λ (es : List Entry). AreHeldAt w f more.recorded (state_after f.opening es) [] new q) first more.are;
  way = way-both w f falls l mid new (told f (book_in new)) [] done.way (ap (changes f.opening) first) sure more.way (ap (changes f.opening) second ∙ sym (append-nil (told f (book_in mid))));
}
