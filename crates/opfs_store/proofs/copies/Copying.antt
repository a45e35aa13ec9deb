-- Working copies of open rows.
use Rattle.std.proofs.Common.{◌≡◌, ◌≢◌, All, ℕ, ◌+◌, ◌*◌, ◌/◌, ◌%◌, ◌<◌, nat_lt, true, List, [], ◌∷◌, ◌++◌, map, length, get_or, slice_index, fold, Some, refl, sym, ap, ◌∙◌, subst, arith}
use Rattle.std.specs.Prelude.{⊤}
use Rattle.std.proofs.lemmas.Bool.Decides.{nat_tests}
use Rattle.std.proofs.lemmas.List.FromFn.{length-map-range_with_len, get_or-map-range_with_len}
use Rattle.std.proofs.lemmas.List.Sums.{fold-append}
use Rattle.std.proofs.lemmas.Grind.{same_number_lists}
use Rattle.std.specs.List.{range_with_len}
use Rattle.opfs_base.specs.Blocks.{blocks}
use Rattle.opfs_base.specs.Texts.{Text}
use Rattle.opfs_hist.specs.declared.entry.Entry.{Entry}
use Rattle.opfs_machine.specs.declared.own.Own.{Own}
use Rattle.opfs_machine.specs.declared.own.Own.TheVariants as own
use Rattle.opfs_machine.specs.declared.state.State.{State}
use Rattle.opfs_machine.specs.Agents.{agent_of, own_of}
use Rattle.opfs_machine.specs.Histories.{Legal, after_entry, state_after}
use Rattle.opfs_machine.specs.Openings.{Opening, begun}
use Rattle.opfs_machine.specs.Replies.{block_bytes, sizes_in}
use Rattle.opfs_laws.specs.Steady.Settling.{BytesStay}
use Rattle.opfs_laws.specs.Steady.Steady.{open_bytes, row_bytes, has_page, settles}
use Rattle.opfs_laws.proofs.Others.{others-left}
use Rattle.opfs_laws.proofs.steady.GoingOn.{steady-settled, steady-kept}
use Rattle.opfs_laws.proofs.steady.Others.{others-stay}
use Rattle.opfs_work.specs.declared.pages.Page.{Page}
use Rattle.opfs_work.specs.declared.pages.Page.TheVariants.{Zero, Near, Clean, Far}
use Rattle.opfs_work.specs.Pages.{page_at, page_byte, byte_at, bytes_of}
use Rattle.opfs_work.specs.Works.{WorkingCopy, contents}
use Rattle.opfs_store.specs.Copies.Copies.{IsCopyOf, StandsFor, IsPaged}
use Rattle.opfs_store.specs.Copies.Standing.{ACopyStandsForItsRow}

page-own : (a b : ℕ) (p : Page) (j : ℕ) → page_byte a p j ≡ b → page_byte b p j ≡ b
page-own a b Zero j h = h
page-own a b (Near bytes) j h = h
page-own a b (Clean bytes) j h = h
page-own a b Far j h = refl

-- With the row's own bytes elsewhere a copy has the row's bytes.
pub contents-own : (far : ℕ → ℕ) (work : WorkingCopy) (bytes : Text) → contents far work ≡ bytes → contents (slice_index bytes) work ≡ bytes
unfolding bytes_of byte_at
contents-own far work bytes known =
    let f = byte_at far work.pages in
    let g = byte_at (slice_index bytes) work.pages in
    let size : length bytes ≡ work.length = ap length (sym known) ∙ length-map-range_with_len f 0 work.length in
    same_number_lists (map g (range_with_len 0 work.length)) bytes (length-map-range_with_len g 0 work.length ∙ sym size)
    (λ i within.
    let below : i < work.length = omega (arith, length-map-range_with_len g 0 work.length, within) in
    let here : f i ≡ slice_index bytes i = sym (get_or-map-range_with_len f 0 work.length i i 0 below (omega arith)) ∙ ap (λ (xs : List ℕ). get_or xs i 0) known in
    get_or-map-range_with_len g 0 work.length i i 0 below (omega arith)
    ∙ page-own (far i) (slice_index bytes i) (page_at work.pages (i / 4096)) (i % 4096) here)

within-page : (n i : ℕ) → i < (n + 4095) / 4096 → block_bytes * i < n
within-page n i h = omega (arith, h)

less-test : (a b : ℕ) → a < b → nat_lt a b ≡ true
less-test a b h = grind (arith, nat_tests)

has-page : (s : State Text Own) (r : Own) (bytes : Text) (i : ℕ) → open_bytes s (Some r) ≡ Some bytes → i < blocks (length bytes) → has_page (open_bytes s (Some r)) i ≡ true
has-page s r bytes i is within = ap (λ x. has_page x i) is ∙ less-test (block_bytes * i) (length bytes) (within-page (length bytes) i within)

pub stands-settled : (tells : Type 0) (o : Opening) (h : List Entry) (e : Entry) (k n : ℕ) (r : Own) (work : WorkingCopy) → settles (state_after o h) k n e ≡ true → IsPaged work
    → own_of (agent_of (state_after o (h ++ e ∷ [])) k) n ≡ Some r → IsCopyOf tells (state_after o (h ++ e ∷ [])) r work → StandsFor tells o (h ++ e ∷ []) k n work
stands-settled tells o h e k n r work settled paged there copy = record {
  row = r;
  there = there;
  copy = copy;
  held = λ i within is.
      let inside : i < blocks (length copy.bytes) = subst (λ m. i < m) (paged ∙ ap blocks copy.size) within in
      let t = state_after o (h ++ e ∷ []) in
      steady-settled o h e k n i settled ∙ ap (λ x. has_page (open_bytes t x) i) there ∙ has-page t r copy.bytes i copy.open_row inside;
}

-- The bytes after entries that leave them.
bytes-after : (s : State Text Own) (k n : ℕ) (es : List Entry) → BytesStay s k n es → row_bytes (fold after_entry s es) k n ≡ row_bytes s k n
bytes-after s k n [] stay = refl
bytes-after s k n (e ∷ es) stay = bytes-after (after_entry s e) k n es stay.1 ∙ stay.0

position-same : (s t : State Text Own) (r : Own) → (sizes_in s (Some r)).position ≡ (sizes_in t (Some r)).position
position-same s t (own.Stream w) = refl
position-same s t (own.Handle h) = refl
position-same s t own.ClosedStream = refl
position-same s t own.ClosedHandle = refl
position-same s t (own.Snapshot bytes) = refl
position-same s t (own.Iterator i) = refl

-- A copy stands in another state where the row has the same bytes.
pub copy-alike : (tells : Type 0) (s t : State Text Own) (r : Own) (work : WorkingCopy) → open_bytes t (Some r) ≡ open_bytes s (Some r) → IsCopyOf tells s r work → IsCopyOf tells t r work
copy-alike tells s t r work same copy = record {
  bytes = copy.bytes;
  open_row = same ∙ copy.open_row;
  size = copy.size;
  same = copy.same;
  position = copy.position ∙ position-same s t r;
  reserve = copy.reserve;
}

pub stands-kept : (tells : Type 0) (o : Opening) (h more : List Entry) (k n : ℕ) (work : WorkingCopy) → StandsFor tells o h k n work → BytesStay (state_after o h) k n more
    → own_of (agent_of (state_after o (h ++ more)) k) n ≡ own_of (agent_of (state_after o h) k) n → StandsFor tells o (h ++ more) k n work
stands-kept tells o h more k n work stands stay same =
    let s = state_after o h in
    let t = state_after o (h ++ more) in
    let there : own_of (agent_of t k) n ≡ Some stands.row = same ∙ stands.there in
    let after : row_bytes t k n ≡ row_bytes s k n = ap (λ u. row_bytes u k n) (fold-append after_entry (begun o) h more) ∙ bytes-after s k n more stay in
    record {
      row = stands.row;
      there = there;
      copy = copy-alike tells s t stands.row work (ap (open_bytes t) (sym there) ∙ after ∙ ap (open_bytes s) stands.there) stands.copy;
      held = λ i within is. steady-kept o h more k n i stay (stands.held i within is);
    }

pub stands-others : (tells : Type 0) (o : Opening) (h more rest : List Entry) (k n : ℕ) (work : WorkingCopy) → StandsFor tells o h k n work → Legal o ((h ++ more) ++ rest)
    → All (λ e. e.agent ≢ k) more → StandsFor tells o (h ++ more) k n work
stands-others tells o h more rest k n work stands legal all =
    stands-kept tells o h more k n work stands (others-stay o h more rest k n legal all).0 (ap (λ x. own_of x.0 n) (others-left o h more rest k legal all))

pub copies-stand : ACopyStandsForItsRow
copies-stand = record { own = contents-own; settled = stands-settled ⊤; kept = stands-kept ⊤; others = stands-others ⊤ }
