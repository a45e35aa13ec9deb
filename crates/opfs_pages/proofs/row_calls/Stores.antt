-- The blocks of a row's pages, as those of a content.
use Rattle.std.proofs.Common.{◌≡◌, ℕ, zero, suc, ◌+◌, ◌-◌, ◌*◌, ◌<◌, ◌≤◌, ◌||◌, ◌&&◌, not, nat_eq, is_some, is_none, Bool, true, false, List, [], ◌∷◌, length, take, get_or, Some, None, refl, sym, ap, ◌∙◌, inl, inr, arith}
use Rattle.std.specs.List.{AllByRecursion, range_with_len}
use Rattle.std.proofs.lemmas.Bool.{cases_lt, eq-eqb, eqb-true, false≢true}
use Rattle.std.proofs.lemmas.List.{get_or_past, get_or-take, length-append, length-take}
use Rattle.std.proofs.lemmas.List.Sums.{sum_by-cons}
use Rattle.std.proofs.Math.Seq.{take-length}
use Rattle.opfs_base.specs.Blocks.{blocks}
use Rattle.opfs_base.specs.declared.extents.Extent.{Extent}
use Rattle.opfs_blocks.specs.Sets.{blocks_of}
use Rattle.opfs_data.specs.declared.page.Page.{Page}
use Rattle.opfs_data.specs.Pages.{page_of, blank, is_plain}
use Rattle.opfs_data.specs.Places.{bytes_of}
use Rattle.opfs_data.specs.Rows.{Rows, pages_at, page_at}
use Rattle.opfs_pages.specs.Copies.{IsBegun}
use Rattle.opfs_records.specs.Replay.Built.{block_count, has_block, is_once}
use Rattle.opfs_space.specs.Spaces.{page_blocks, with_block}
use Rattle.opfs_space.proofs.Others.{member_left, member_right}
use Rattle.opfs_pages.proofs.history_laws.Contents.{content-bytes}
use Rattle.opfs_pages.specs.RowCalls.Rows.{ArePlain}

-- ---- which page has a block

abbrev HasIn : List Page → ℕ → Type 0
HasIn ps b = (i : ℕ) × ((get_or ps i blank).block ≡ Some b)

page-has : (ps : List Page) (b : ℕ) → has_block (page_blocks ps) b ≡ true → HasIn ps b
page-has [] b has = absurd (false≢true has)
page-has (p ∷ ps) b has =
    elim p.block as (λ o. p.block ≡ o → has_block (with_block o (page_blocks ps)) b ≡ true → HasIn (p ∷ ps) b) [
      | None ↦ λ is there. let rest = page-has ps b there in (suc rest.0, rest.1)
      | Some x ↦ λ is there. elim (nat_eq b x) as (λ t. nat_eq b x ≡ t → (t || has_block (page_blocks ps) b) ≡ true → HasIn (p ∷ ps) b) [
        | true ↦ λ same h. (0, is ∙ ap Some (sym (eqb-true b x same)))
        | false ↦ λ apart h. let rest = page-has ps b h in (suc rest.0, rest.1)
      ] refl there
    ] refl has

page-taken : (n : ℕ) (ps : List Page) (i b : ℕ) → (get_or (take n ps) i blank).block ≡ Some b → (get_or ps i blank).block ≡ Some b
page-taken n ps i b has = elim (cases_lt i n) [
  | inl below ↦ ap (λ (p : Page). p.block) (sym (get_or-take n ps i blank below)) ∙ has
  | inr past ↦ absurd (none (ap (λ (p : Page). p.block) (sym (get_or_past (take n ps) i blank (omega (arith, past, length-take n ps)))) ∙ has))
]
  where
    none : None ≡ Some b → ⊥
    none e = cc

pub taken-has : (n : ℕ) (ps : List Page) (es : List Extent) (b : ℕ) → blocks_of es ≡ page_blocks (take n ps) → has_block (blocks_of es) b ≡ true → HasIn ps b
taken-has n ps es b same has =
    let there = page-has (take n ps) b (ap (λ (xs : List ℕ). has_block xs b) (sym same) ∙ has) in
    (there.0, page-taken n ps there.0 b there.1)

-- ---- each block once

once-pages : (ps : List Page) → ((i j b : ℕ) → (get_or ps i blank).block ≡ Some b → (get_or ps j blank).block ≡ Some b → i ≡ j) → is_once (page_blocks ps) ≡ true
once-pages [] apart = refl
once-pages (p ∷ ps) apart =
    let rest = once-pages ps (λ i j b here there. less i j (apart (suc i) (suc j) b here there)) in
    elim p.block as (λ o. p.block ≡ o → is_once (with_block o (page_blocks ps)) ≡ true) [
      | None ↦ λ is. rest
      | Some x ↦ λ is. elim (has_block (page_blocks ps) x) as (λ t. has_block (page_blocks ps) x ≡ t → (not t && is_once (page_blocks ps)) ≡ true) [
        | true ↦ λ has. let there = page-has ps x has in absurd (far there.0 (apart 0 (suc there.0) x is there.1))
        | false ↦ λ has. rest
      ] refl
    ] refl
  where
    less : (i j : ℕ) → suc i ≡ suc j → i ≡ j
    less i j e = omega (arith, e)

    far : (i : ℕ) → 0 ≡ suc i → ⊥
    far i e = omega (arith, e)

pub taken-once : (n : ℕ) (ps : List Page) (es : List Extent) → blocks_of es ≡ page_blocks (take n ps) → ((i j b : ℕ) → (get_or ps i blank).block ≡ Some b → (get_or ps j blank).block ≡ Some b → i ≡ j) → is_once (blocks_of es) ≡ true
taken-once n ps es same apart = ap is_once same ∙ once-pages (take n ps) (λ i j b here there. apart i j b (page-taken n ps i b here) (page-taken n ps j b there))

-- ---- how many

length-range : (a n : ℕ) → length (range_with_len a n) ≡ n
length-range a zero = refl
length-range a (suc n) = ap suc (length-range (a + 1) n)

count-blocks : (es : List Extent) → block_count es ≡ length (blocks_of es)
count-blocks [] = refl
count-blocks (e ∷ es) =
    let here = sum_by-cons (λ (x : Extent). x.count) e es in
    omega (arith, here, count-blocks es, length-append (range_with_len e.start e.count) (blocks_of es), length-range e.start e.count)

plain-some : (p : Page) (bs : List ℕ) → is_plain p ≡ true → length (with_block p.block bs) ≡ suc (length bs)
plain-some p bs plain =
    elim p.block as (λ o. (is_some o && is_none p.kept) ≡ true → length (with_block o bs) ≡ suc (length bs)) [ None ↦ λ is. absurd (false≢true is) | Some x ↦ λ is. refl ] plain

count-pages : (ps : List Page) → AllByRecursion (λ p. is_plain p ≡ true) ps → length (page_blocks ps) ≡ length ps
count-pages [] all = refl
count-pages (p ∷ ps) all = plain-some p (page_blocks ps) all.0 ∙ ap suc (count-pages ps all.1)

all-from : (P : Page → Type 0) (ps : List Page) → ((i : ℕ) → i < length ps → P (get_or ps i blank)) → AllByRecursion P ps
all-from P [] each = tt
all-from P (p ∷ ps) each = (each 0 (omega arith), all-from P ps (λ i below. each (suc i) (omega (arith, below))))

module _ (swap : Rows) (agent row pages : ℕ) (es : List Extent) (same : blocks_of es ≡ page_blocks (take pages (pages_at agent row swap))) (are : ArePlain swap agent row pages) where
  abbrev all : List Page
  all = pages_at agent row swap

  whole : blocks_of es ≡ page_blocks all
  whole = same ∙ ap (λ (n : ℕ). page_blocks (take n all)) (sym are.count) ∙ ap page_blocks (take-length all)

  plain : AllByRecursion (λ p. is_plain p ≡ true) all
  plain = all-from (λ p. is_plain p ≡ true) all (λ i below. are.plain i (omega (arith, below, are.count)))

  pub plain-count : block_count es ≡ pages
  plain-count = count-blocks es ∙ ap (λ (xs : List ℕ). length xs) whole ∙ count-pages all plain ∙ are.count

  pub plain-bytes : (c : List ℕ) (base : ℕ) (bytes : List ℕ) → pages ≡ blocks (length bytes) → ((i : ℕ) → 4096 * i < length bytes → IsBegun bytes i (page_of c base (page_at agent row i swap))) → bytes_of c base es (length bytes) ≡ bytes
  plain-bytes c base bytes many begun = content-bytes c base es all bytes whole plain (are.count ∙ many) begun

-- ---- where runs end

range-has : (a n i : ℕ) → i < n → has_block (range_with_len a n) (a + i) ≡ true
range-has a zero i below = absurd (omega (arith, below))
range-has a (suc n) zero below = ap (λ t. t || has_block (range_with_len (a + 1) n) (a + 0)) (here a (a + 0) (omega arith))
  where
    here : (x y : ℕ) → y ≡ x → nat_eq y x ≡ true
    here x y e = eq-eqb y x e
range-has a (suc n) (suc i) below = or-right (nat_eq (a + suc i) a) (has_block (range_with_len (a + 1) n) (a + suc i)) (ap (has_block (range_with_len (a + 1) n)) next ∙ range-has (a + 1) n i (omega (arith, below)))
  where
    or-right : (s t : Bool) → t ≡ true → (s || t) ≡ true
    or-right true t is = refl
    or-right false t is = is

    next : a + suc i ≡ (a + 1) + i
    next = omega arith

pub runs-below : (size : ℕ) (es : List Extent) → AllByRecursion (λ e. 0 < e.count) es → ((b : ℕ) → has_block (blocks_of es) b ≡ true → b < size) → AllByRecursion (λ e. e.start + e.count ≤ size) es
runs-below size [] some below = tt
runs-below size (e ∷ es) some below =
    let last : ℕ = e.count - 1 in
    let within : last < e.count = omega (arith, some.0) in
    let end = below (e.start + last) (member_left (range_with_len e.start e.count) (blocks_of es) (e.start + last) (range-has e.start e.count last within)) in (
      omega (arith, end, some.0),
      runs-below size es some.1 (λ b has. below b (member_right (range_with_len e.start e.count) (blocks_of es) b has)),
    )
