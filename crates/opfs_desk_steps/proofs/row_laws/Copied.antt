-- What the store has of a working copy.
use Rattle.std.proofs.Common.{◌≡◌, ℕ, zero, suc, ◌<◌, true, false, List, [], ◌∷◌, ◌++◌, length, Option, Some, is_some, refl, sym, ap, ◌∙◌, subst, arith}
use Rattle.std.specs.Prelude.{slice_index, slice_index_or}
use Rattle.std.proofs.lemmas.List.Sums.{fold-append}
use Rattle.opfs_base.specs.Texts.{Text}
use Rattle.opfs_books.specs.Laws.Commits.{StateLaws}
use Rattle.opfs_data.specs.Pages.{blank}
use Rattle.opfs_data.specs.Rows.{pages_at}
use Rattle.opfs_pages.specs.HistoryLaws.Laws.{PagesAreLeft, AllGoOn}
use Rattle.opfs_pages.specs.HistoryLaws.Open.{open_at}
use Rattle.opfs_hist.specs.declared.entry.Entry.{Entry}
use Rattle.opfs_laws.specs.Histories.Unread.{ArePendingFor}
use Rattle.opfs_machine.specs.declared.own.Own.{Own}
use Rattle.opfs_machine.specs.declared.state.State.{State}
use Rattle.opfs_machine.specs.Histories.{state_after, after_entry}
use Rattle.opfs_outside.specs.declared.disk.Disk.{Ghosts as DiskWords}
use Rattle.opfs_pages.specs.Copies.{HasFar}
use Rattle.opfs_laws.specs.Steady.Settling.{NoneSettles}
use Rattle.opfs_laws.specs.Steady.Steady.{settles, row_bytes, open_bytes}
use Rattle.opfs_work.specs.declared.pages.Page.{Page}
use Rattle.opfs_work.specs.declared.pages.Page.TheVariants.{Zero, Near, Clean, Far}
use Rattle.opfs_work.specs.Pages.{page_at, is_far, is_held}
use Rattle.opfs_work.specs.Works.{WorkingCopy, IsStored, contents}
use Rattle.opfs_laws.specs.Lengths.Bridge.{LengthsFollowEachCall, LocalCallsAreKnownByTheirWord}
use Rattle.opfs_laws.specs.Lengths.Outlines.{in_lengths_of}
use Rattle.opfs_machine.specs.Openings.{begun}
use Rattle.opfs_state_rows.specs.Standing.Seen.{Machine}
use Rattle.std.proofs.lemmas.Bool.{false≢true}
use Rattle.opfs_desk_steps.proofs.row_laws.Inside.{lie-inside, lies-by}
use Rattle.opfs_desk_steps.proofs.row_laws.Staying.{pending-stays, open-with-bytes}
use Rattle.opfs_desk_steps.specs.Parts.Seen.{machine_in}
use Rattle.opfs_desk_steps.specs.RowLaws.Copied.{PagesTellAfterPending, CopiesAreStored}

-- Pending calls had no turn, so they settle nothing.
pub pending-settle : (tells : Type 0) (s : State Text Own) (k : ℕ) (es : List Entry) → ArePendingFor tells s k es → (j n : ℕ) → NoneSettles s j n es
pending-settle tells s k [] are j n = tt
pending-settle tells s k (e ∷ es) are j n = (no-turn s j n e are.0.turn, pending-settle tells (after_entry s e) k es are.1 j n)
  where
    no-turn : (s : State Text Own) (j n : ℕ) (e : Entry) → e.turn ≡ false → settles s j n e ≡ false
    no-turn s j n e is = cc

module _ (left : PagesAreLeft) {D : Type 0} (w : DiskWords D) where
  pub telling-after : PagesTellAfterPending w
  telling-after f recorded l p calls k held pending =
      let goes : AllGoOn f.opening l.books.history calls p.swap p.swap = record { none = pending-settle w.tells (state_after f.opening l.books.history) k calls pending; stay = λ j n i is. is } in
      record {
        there = left.there f.opening l.books.history calls p.swap p.swap goes held.laid.there;
        told = λ t. left.told f.opening l.books.history calls p.swap p.swap p.base (w.content l.journal.disk) (w.content l.journal.disk) goes (λ j n i is. refl) held.laid.there (held.laid.told t);
      }

some-text : (a b : Text) → ◌≡◌ {A = Option Text} (Some a) (Some b) → a ≡ b
some-text a b is = cc

far-held : (p : Page) → is_far p ≡ true → is_held p ≡ true
far-held Zero is = absurd (false≢true is)
far-held (Near bytes) is = absurd (false≢true is)
far-held (Clean bytes) is = refl
far-held Far is = refl

far-inside : (pages : List Page) (i : ℕ) → is_far (page_at pages i) ≡ true → i < length pages
far-inside [] zero is = absurd (false≢true is)
far-inside [] (suc i) is = absurd (false≢true is)
far-inside (x ∷ xs) zero is = omega arith
far-inside (x ∷ xs) (suc i) is = omega (arith, far-inside xs i is)

far-stored : (work : WorkingCopy) (i : ℕ) → is_far (page_at work.pages i) ≡ true → IsStored work i
far-stored work i is from to = far-held (page_at work.pages i) is

module _ (states : StateLaws) (left : PagesAreLeft) (follow : LengthsFollowEachCall) (local : LocalCallsAreKnownByTheirWord) {D : Type 0} (w : DiskWords D) where
  pub copies-stored : CopiesAreStored w
  copies-stored f recorded l p calls agent row work held pending some stands =
      let o = f.opening in
      let h = l.books.history in
      let s = state_after o (h ++ calls) in
      let inside = lie-inside states w f recorded l p held in
      let telling = telling-after left w f recorded l p calls agent held pending in
      let rows : row_bytes s agent row ≡ Some stands.copy.bytes = ap (open_bytes s) stands.there ∙ stands.copy.open_row in
      let later : open_at (in_lengths_of s) agent row ≡ open_at (in_lengths_of (state_after o h)) agent row =
      ap (λ (x : State Text Own). open_at (in_lengths_of x) agent row) (fold-append after_entry (begun o) h calls) ∙ pending-stays follow local w.tells (state_after o h) agent calls pending agent row in
      let opened : is_some (open_at (machine_in l) agent row) ≡ true =
      ap (λ (m : Machine). is_some (open_at m agent row)) held.books.machine ∙ (ap is_some (sym later) ∙ open-with-bytes s agent row stands.copy.bytes rows) in
      let there : (i : ℕ) → i < length work.pages → IsStored work i → i < length (pages_at agent row p.swap) = λ i in' stored. telling.there agent row i (stands.held i in' stored) in
      let far : HasFar work p.base (w.size l.journal.disk) (pages_at agent row p.swap) = record {
        there = λ i is. there i (far-inside work.pages i is) (far-stored work i is);
        lies = λ i is. lies-by p.base (w.size l.journal.disk) (page_at-block i) (λ b has. omega (arith, inside.pages agent row i b has, inside.end));
      } in
      record {
        there = held.laid.rows agent row ∙ opened;
        far = far;
        ready = record { far = far; below = inside.pages; part = inside.part };
        copy = λ t bytes is. record { same = subst (λ (x : Text). contents (slice_index x) work ≡ x) (some-text stands.copy.bytes bytes (sym rows ∙ is)) (stands.copy.same t) };
        held = λ t bytes is. record { held = λ i in' stored. (telling.told t).begins agent row i (stands.held i in' stored) bytes is };
      }
    where
      page_at-block : ℕ → Option ℕ
      page_at-block i = (slice_index_or (pages_at agent row p.swap) i blank).block
