-- What the images show while pages are put, one step after another; and that pages read as before where only the journal was used.
use Rattle.std.specs.Prelude.{MatchOption}
use Rattle.std.proofs.Common.{◌≡◌, ℕ, ◌+◌, ◌*◌, ◌≤◌, Bool, true, false, if◌then◌else◌, List, [], ◌∷◌, ◌++◌, slice_index_or, Option, Some, None, refl, sym, ap, subst, ◌∙◌, inr, append-nil, arith}
use Rattle.opfs_base.specs.Texts.{Text}
use Rattle.opfs_books.specs.Laws.Books.{Fixed, AreBooksAt}
use Rattle.opfs_books.specs.Laws.Laws.{BooksShowTheirImages, told}
use Rattle.opfs_commit.specs.Shown.{IsShown}
use Rattle.opfs_data.specs.declared.page.Page.{Page}
use Rattle.opfs_data.specs.declared.page.SavedPage.{SavedPage}
use Rattle.opfs_data.specs.Pages.{bytes_by, page_of, blank, block_bytes, AreNow}
use Rattle.opfs_data.specs.Rows.{Rows, pages_at, row_at}
use Rattle.opfs_data.specs.Writes.{WriteList}
use Rattle.opfs_journal.specs.Clauses.{Outside}
use Rattle.opfs_journal.specs.declared.areas.Areas.{Areas}
use Rattle.opfs_machine.specs.declared.own.Own.{Own}
use Rattle.opfs_machine.specs.declared.state.State.{State}
use Rattle.opfs_machine.specs.Changes.{Change, floor}
use Rattle.opfs_outside.specs.Bytes.{Same, window}
use Rattle.opfs_outside.specs.Moments.{elapses-trans, each_of_both}
use Rattle.opfs_outside.specs.Windows.{same_window}
use Rattle.opfs_outside.specs.declared.disk.Disk.{Ghosts as DiskWords}
use Rattle.opfs_pages.specs.Writing.Puts.{IsReady}
use Rattle.opfs_records.specs.Replay.Built.{Built}
use Rattle.opfs_desk_steps.specs.Parts.Seen.{book_in}
use Rattle.opfs_desk_steps.specs.declared.parts.parts.Ledger.{Ledger}
use Rattle.opfs_desk_steps.proofs.book_steps.Leaves.{elapses-here}
use Rattle.opfs_desk_steps.proofs.book_steps.Loop.{Falls}
use Rattle.opfs_desk_bytes.specs.Writing.Putting.{IsUsed}

-- ---- what the images show

no-doubt : (b : Bool) → b ≡ false → (xs : List Change) → (if b then xs else []) ≡ []
no-doubt true e xs = cc
no-doubt false e xs = refl

module _ {D : Type 0} (w : DiskWords D) (f : Fixed D) where
  -- The disk was not used.
  pub used-here : BooksShowTheirImages w → (recorded : Built) (base : State Text Own) (gone : List Text) (l : Ledger D) → AreBooksAt w f recorded base gone (book_in l) l.journal → l.journal.in_doubt ≡ false → IsUsed w f l l
  used-here shows recorded base gone l are settled = record {
    later = omega arith;
    time = λ t. elapses-here w.moment w.since l.journal.disk;
    shown = λ t c left.
        subst (λ (cs : List Change). IsShown f.opening (floor (told f (book_in l))) cs c)
        (ap (λ (cs : List Change). told f (book_in l) ++ cs) (no-doubt l.journal.in_doubt settled _) ∙ append-nil (told f (book_in l)))
        (shows f recorded base gone (book_in l) l.journal are t c left);
  }

  pub used-both : Falls w → (old mid new : Ledger D) → IsUsed w f old mid → told f (book_in mid) ≡ told f (book_in old) → IsUsed w f mid new → IsUsed w f old new
  used-both falls old mid new first same second = record {
    later = omega (arith, first.later, second.later);
    time = λ t. elapses-trans w.moment w.since (falls t) old.journal.disk mid.journal.disk new.journal.disk (first.time t) (second.time t);
    shown = λ t c left.
        each_of_both w.moment w.since (falls t) old.journal.disk mid.journal.disk new.journal.disk
        (λ (x : List ℕ). IsShown f.opening (floor (told f (book_in old))) (told f (book_in old)) x)
        (first.time t) (second.time t) (first.shown t)
        (λ x left'. subst (λ (cs : List Change). IsShown f.opening (floor cs) cs x) same (second.shown t x left')) c left;
  }

-- ---- pages read as before

module _ (base : ℕ) (c d : List ℕ) (a : Areas) (behind : a.first + 2 * a.bytes ≤ base) (same : Same (Outside a) d c) where
  by-window : (b n : ℕ) → window d (base + 4096 * b) n ≡ window c (base + 4096 * b) n
  by-window b n = same_window d c (base + 4096 * b) n (λ k lt. same (base + 4096 * b + k) (inr (omega (arith, behind))))

  by-bytes : (kept : Option (List ℕ)) (block : Option ℕ) → bytes_by d base kept block ≡ bytes_by c base kept block
  unfolding block_bytes
  by-bytes (Some kept) block = refl
  by-bytes None (Some b) = by-window b 4096
  by-bytes None None = refl

  pub page-alike : (page : Page) → page_of d base page ≡ page_of c base page
  page-alike page = by-bytes page.kept page.block

all-now : (base : ℕ) (c d : List ℕ) (pages : List Page) (saved : List SavedPage) → ((page : Page) → page_of d base page ≡ page_of c base page) → AreNow c base pages saved → AreNow d base pages saved
all-now base c d pages [] same now = tt
all-now base c d pages (s ∷ more) same now = (now.0 ∙ sym (same (slice_index_or pages s.page blank)), all-now base c d pages more same now.1)

some-now : (base : ℕ) (c d : List ℕ) (pages : List Page) (saved : Option (List SavedPage)) → ((page : Page) → page_of d base page ≡ page_of c base page) → MatchOption saved ⊥ (λ s. AreNow c base pages s) → MatchOption saved ⊥ (λ s. AreNow d base pages s)
some-now base c d pages None same now = now
some-now base c d pages (Some saved) same now = all-now base c d pages saved same now

pub ready-alike : (tells : Type 0) (base : ℕ) (c d : List ℕ) (swap : Rows) (agent row pages : ℕ) (writes : WriteList) (moves room more : ℕ) → (tells → (page : Page) → page_of d base page ≡ page_of c base page) → room ≤ more
    → IsReady tells c base swap agent row pages writes moves room → IsReady tells d base swap agent row pages writes moves more
ready-alike tells base c d swap agent row pages writes moves room more same larger is = record {
  there = is.there;
  count = is.count;
  places = is.places;
  extents = let few = is.extents in omega (arith, few, larger);
  room_is = is.room_is;
  saved = is.saved;
  now = λ t. some-now base c d (pages_at agent row swap) (row_at agent row swap).saved (same t) (is.now t);
}
