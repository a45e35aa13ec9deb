-- What a row's pages are once they were put.
use Rattle.std.proofs.Common.{◌≡◌, ℕ, ◌-◌, ◌<◌, true, List, [], ◌∷◌, length, take, replicate, get_or, slice_set, Some, None, refl, sym, ap, subst, ◌∙◌, inl, inr, arith}
use Rattle.std.proofs.lemmas.Bool.{cases_lt, false≢true}
use Rattle.std.proofs.lemmas.List.{get_or_past, get_or-take, get_or_append_left, length-take, length-append, length-replicate, length-set, get_or-set_same, get_or-set_other}
use Rattle.opfs_base.specs.Blocks.{blocks}
use Rattle.opfs_base.specs.Texts.{Text}
use Rattle.opfs_base.specs.declared.extents.Extent.{Extent}
use Rattle.opfs_data.specs.declared.page.Page.{Page}
use Rattle.opfs_data.specs.Pages.{page_of, blank, is_plain, resized, with_writes, NamesPage}
use Rattle.opfs_data.specs.Rows.{Rows, pages_at, page_at}
use Rattle.opfs_data.specs.Writes.{PageWrite, WriteList, page_writes, page_moves, placed, blocks_in}
use Rattle.opfs_pages.specs.Copies.{AreHeld, IsBegun, IsNamed}
use Rattle.opfs_pages.specs.Stages.{Stage}
use Rattle.opfs_pages.specs.Writing.Puts.{IsPut, all_writes}
use Rattle.opfs_work.specs.Works.{WorkingCopy}
use Rattle.opfs_pages.proofs.history_laws.Puts.{named-or, names-left, names-right, names-placed, put-told}
use Rattle.opfs_pages.specs.RowCalls.Plans.{IsStagedFor}
use Rattle.opfs_pages.specs.RowCalls.Rows.{Change, IsPutOf}

-- ---- the row's bytes

pub put-begins : (tells : Type 0) (work : WorkingCopy) (c d : List ℕ) (base : ℕ) (mid new : Rows) (agent row pages : ℕ) (call : Change) (w : WriteList) (extents : List Extent) (before after : Text) → tells
    → IsPutOf tells work c base mid agent row call w before after → pages ≡ blocks call.size → length (page_moves w call.given) ≡ length (blocks_in extents)
    → IsPut tells base c d mid new agent row pages (all_writes w call.given extents) → (i : ℕ) → i < pages → IsBegun after i (page_of d base (page_at agent row i new))
put-begins tells work c d base mid new agent row pages call w extents before after told of many count put i within =
    let s : Stage = record { own = of.staged.own; swap = of.staged.from; agent = agent; row = row; work = work; content = of.staged.content; base = base; at = call.at; given = call.given; size = call.size; whole = call.whole } in
    put-told tells told s w extents before after base c d mid new agent row pages
    (record {
      staged = of.staged.staged;
      pages = of.paged;
      copy = of.copy;
      held = λ t. subst (λ (x : List ℕ). AreHeld before work x base (pages_at agent row of.staged.from)) (sym (of.staged.alike t))
          (subst (λ (ps : List Page). AreHeld before work of.content base ps) (sym of.staged.same) (of.held t));
      after_is = of.after_is;
    }) refl refl refl (ap (λ (ps : List Page). length ps) (of.same ∙ sym of.staged.same))
    (λ j. of.alike told j ∙ ap (λ (x : List ℕ). page_of x base (page_at agent row j of.was)) (sym (of.staged.alike told))
    ∙ ap (λ (ps : List Page). page_of of.staged.content base (get_or ps j blank)) (sym of.staged.same)) count put many i within

-- ---- pages with blocks

set-same : (pages : List Page) (i : ℕ) (p : Page) → i < length pages → get_or (slice_set pages i p) i blank ≡ p
set-same pages i p below = get_or-set_same pages i p blank below

other-page : (ws : List PageWrite) (pages : List Page) (j : ℕ) → (NamesPage ws j → ⊥) → get_or (with_writes ws pages) j blank ≡ get_or pages j blank
other-page [] pages j none = refl
other-page (w ∷ ws) pages j none =
    other-page ws (slice_set pages w.page (record { block = Some w.block; kept = None })) j (λ more. none (inr more))
    ∙ get_or-set_other pages w.page j (record { block = Some w.block; kept = None }) blank (λ is. none (inl (sym is)))

named-plain : (ws : List PageWrite) (pages : List Page) (i : ℕ) → NamesPage ws i → i < length pages → is_plain (get_or (with_writes ws pages) i blank) ≡ true
named-plain [] pages i named below = absurd named
named-plain (w ∷ ws) pages i named below =
    let next : List Page = slice_set pages w.page (record { block = Some w.block; kept = None }) in
    elim (named-or ws i) [
      | inl later ↦ named-plain ws next i later (omega (arith, below, length-set pages w.page (record { block = Some w.block; kept = None })))
      | inr never ↦ elim named [
        | inl here ↦
            ap is_plain (other-page ws next i never)
            ∙ subst (λ (j : ℕ). is_plain (get_or (slice_set pages w.page (record { block = Some w.block; kept = None })) j blank) ≡ true) here
            (ap is_plain (set-same pages w.page (record { block = Some w.block; kept = None }) (subst (λ (j : ℕ). j < length pages) (sym here) below)))
        | inr later ↦ absurd (never later)
      ]
    ]

plain-within : (ps : List Page) (i : ℕ) → is_plain (get_or ps i blank) ≡ true → i < length ps
plain-within ps i plain = elim (cases_lt i (length ps)) [
  | inl within ↦ within
  | inr past ↦ absurd (false≢true (ap is_plain (sym (get_or_past ps i blank past)) ∙ plain))
]

resized-at : (n : ℕ) (ps : List Page) (i : ℕ) → i < n → i < length ps → get_or (resized n ps) i blank ≡ get_or ps i blank
resized-at n ps i below there = get_or_append_left (take n ps) (replicate (n - length ps) blank) blank i (omega (arith, length-take n ps)) ∙ get_or-take n ps i blank below

resized-size : (n : ℕ) (ps : List Page) → length (resized n ps) ≡ n
resized-size n ps = omega (arith, length-append (take n ps) (replicate (n - length ps) blank), length-take n ps, length-replicate (n - length ps) blank)

all-named : (w : WriteList) (given : List ℕ) (extents : List Extent) (i : ℕ) → length (page_moves w given) ≡ length (blocks_in extents) → IsNamed w given i → NamesPage (all_writes w given extents) i
all-named w given extents i count named = elim named [
  | inl here ↦ names-left (page_writes w given) (placed (page_moves w given) (blocks_in extents)) i here
  | inr later ↦ names-right (page_writes w given) (placed (page_moves w given) (blocks_in extents)) i (names-placed (page_moves w given) (blocks_in extents) i count later)
]

-- Each page of a content that was put has a block, and nothing is kept of it.
pub put-plain : (tells : Type 0) (work : WorkingCopy) (content c d : List ℕ) (base : ℕ) (was mid new : Rows) (agent row pages at : ℕ) (given : List ℕ) (size : ℕ) (w : WriteList) (extents : List Extent)
    → IsStagedFor tells work content base was agent row at given size true w → pages_at agent row mid ≡ pages_at agent row was → pages ≡ blocks size → length (page_moves w given) ≡ length (blocks_in extents)
    → IsPut tells base c d mid new agent row pages (all_writes w given extents) → (i : ℕ) → i < pages → is_plain (page_at agent row i new) ≡ true
put-plain tells work content c d base was mid new agent row pages at given size w extents staged same many count put i within =
    ap (λ (ps : List Page). is_plain (get_or ps i blank)) put.pages_are ∙ elim (named-or all i) [
      | inl named ↦ named-plain all (resized pages (pages_at agent row mid)) i named (omega (arith, within, resized-size pages (pages_at agent row mid)))
      | inr never ↦ elim (staged.staged.known i (omega (arith, within, many))) [
        | inl named ↦ absurd (never (all-named w given extents i count named))
        | inr rest ↦
            let plain : is_plain (get_or (pages_at agent row mid) i blank) ≡ true =
            subst (λ (ps : List Page). is_plain (get_or ps i blank) ≡ true) (staged.same ∙ sym same) (rest.block refl)
            in
            ap is_plain (other-page all (resized pages (pages_at agent row mid)) i never ∙ resized-at pages (pages_at agent row mid) i within (plain-within (pages_at agent row mid) i plain)) ∙ plain
      ]
    ]
  where
    all : List PageWrite
    all = all_writes w given extents
