-- Pages that got their blocks, and how many are kept.
use Rattle.std.proofs.Common.{◌≡◌, ℕ, zero, suc, ◌+◌, ◌-◌, ◌*◌, ◌<◌, ◌≤◌, ◌++◌, cond, min, true, Option, Some, None, is_some, List, [], ◌∷◌, length, get_or, set, take, drop, replicate, inl, inr, refl, sym, ap, subst, ◌∙◌, arith, Result, Ok, Err, OnOk, is_err, false}
use Rattle.std.specs.List.{sum_by, count_by, AllByRecursion}
use Rattle.std.proofs.lemmas.Bool.{cases_eq, cases_lt, false≢true}
use Rattle.std.proofs.lemmas.List.{length-set, length-append, length-take, length-replicate, get_or-set_same, get_or-set_other, get_or-take, get_or_append_left, get_or-append_right, get_or-replicate, take-append-drop}
use Rattle.std.proofs.lemmas.List.Sums.{sum_by-append, sum_by-set}
use Rattle.std.proofs.lemmas.List.Folds.{sum_by-replicate}
use Rattle.opfs_base.specs.declared.extents.Extent.{Extent}
use Rattle.opfs_outside.specs.Bytes.{Same}
use Rattle.opfs_data.specs.Places.{Aside}
use Rattle.opfs_data.specs.declared.page.Page.{Page}
use Rattle.opfs_data.specs.Writes.{PageWrite, Run, run_pages, run_writes, writes_of, source_bytes}
use Rattle.opfs_data.specs.Pages.{block_bytes, page_of, blank, runs_of, resized, with_writes, pages_from, pages_in, NamesPage, AreOnce, AreOwn, ArePlaced}
use Rattle.opfs_data.proofs.PageLemmas.{page_stays}
use Rattle.opfs_data.proofs.RunLemmas.{all_at}
use Rattle.opfs_data.proofs.WriteLemmas.{all_append, all_left, all_right}

-- what holds of an Ok holds where there was no error
pub ok_holds : {X E : Type 0} (result : Result X E) (P : Type 0) → false ≡ is_err result → OnOk result P → P
ok_holds (Ok x) P never h = h
ok_holds (Err e) P never h = absurd (false≢true never)

-- the page of an item that is to be written
abbrev pub page_in : PageWrite → Page
page_in w = record { block = Some w.block; kept = None }

names_page : (ws : List PageWrite) (k : ℕ) (d : PageWrite) → k < length ws → NamesPage ws (get_or ws k d).page
names_page [] k d lt = absurd (omega arith)
names_page (w ∷ ws) zero d lt = inl refl
names_page (w ∷ ws) (suc k) d lt = inr (names_page ws k d (omega arith))

with_writes_other : (ws : List PageWrite) (pages : List Page) (j : ℕ) → (NamesPage ws j → ⊥) → get_or (with_writes ws pages) j blank ≡ get_or pages j blank
with_writes_other [] pages j none = refl
with_writes_other (w ∷ ws) pages j none =
    with_writes_other ws (set pages w.page (page_in w)) j (λ more. none (inr more))
    ∙ get_or-set_other pages w.page j (page_in w) blank (λ is. none (inl (sym is)))

with_writes_at : (ws : List PageWrite) (pages : List Page) (k : ℕ) (d : PageWrite) → AreOnce ws → k < length ws → (get_or ws k d).page < length pages
    → get_or (with_writes ws pages) (get_or ws k d).page blank ≡ page_in (get_or ws k d)
with_writes_at [] pages k d once lt below = absurd (omega arith)
with_writes_at (w ∷ ws) pages zero d once lt below = with_writes_other ws (set pages w.page (page_in w)) w.page once.0 ∙ get_or-set_same pages w.page (page_in w) blank below
with_writes_at (w ∷ ws) pages (suc k) d once lt below = with_writes_at ws (set pages w.page (page_in w)) k d once.2 (omega arith) (omega (arith, below, length-set pages w.page (page_in w)))

length-resized : (n : ℕ) (pages : List Page) → length (resized n pages) ≡ n
length-resized n pages =
    let new : List Page = replicate (n - length pages) blank in
    omega (arith, length-append (take n pages) new, length-take n pages, length-replicate (n - length pages) blank)

resized_at : (n : ℕ) (pages : List Page) (j : ℕ) → j < n → j < length pages → get_or (resized n pages) j blank ≡ get_or pages j blank
resized_at n pages j below there = get_or_append_left (take n pages) (replicate (n - length pages) blank) blank j (omega (arith, length-take n pages)) ∙ get_or-take n pages j blank below

-- a page that was written has its bytes
pub written_reads : (c : List ℕ) (base n : ℕ) (old new : List Page) (ws : List PageWrite) (k : ℕ) (d : PageWrite) → new ≡ with_writes ws (resized n old) → AreOnce ws → k < length ws → (get_or ws k d).page < n
    → block_bytes c base (get_or ws k d).block ≡ (get_or ws k d).bytes → page_of c base (get_or new (get_or ws k d).page blank) ≡ (get_or ws k d).bytes
written_reads c base n old new ws k d is once lt below bytes =
    let w : PageWrite = get_or ws k d in
    ap (λ (ps : List Page). page_of c base (get_or ps w.page blank)) is
    ∙ ap (λ (p : Page). page_of c base p) (with_writes_at ws (resized n old) k d once lt (omega (arith, below, length-resized n old)))
    ∙ bytes

-- whether pages are below a number does not depend on their bytes
pages_below : (n : ℕ) (bytes other : List ℕ) (page block from count : ℕ) → AllByRecursion (λ w. w.page < n) (run_pages bytes page block from count) → AllByRecursion (λ w. w.page < n) (run_pages other page block from count)
pages_below n bytes other page block from zero all = tt
pages_below n bytes other page block from (suc count) all = (all.0, pages_below n bytes other (page + 1) (block + 1) (from + 4096) count all.1)

runs_below : (n : ℕ) (own given : List ℕ) (runs : List Run) → AllByRecursion (λ w. w.page < n) (writes_of own given runs) → AllByRecursion (λ w. w.page < n) (writes_of [] [] runs)
runs_below n own given [] all = tt
runs_below n own given (r ∷ runs) all =
    all_append (λ w. w.page < n) (run_writes [] [] r) (writes_of [] [] runs)
    (pages_below n (source_bytes own given r.source) (source_bytes [] [] r.source) r.page r.block r.from r.count (all_left (λ w. w.page < n) (run_writes own given r) (writes_of own given runs) all))
    (runs_below n own given runs (all_right (λ w. w.page < n) (run_writes own given r) (writes_of own given runs) all))

pub below_all : (n : ℕ) (pages : List Page) (own given : List ℕ) (runs : List Run) → AllByRecursion (λ w. w.page < n) (writes_of own given runs) → AllByRecursion (λ w. w.page < length (resized n pages)) (writes_of [] [] runs)
below_all n pages own given runs all = rw (length-resized n pages) (runs_below n own given runs all)

all_from : (P : PageWrite → Type 0) (ws : List PageWrite) → ((k : ℕ) (d : PageWrite) → k < length ws → P (get_or ws k d)) → AllByRecursion P ws
all_from P [] each = tt
all_from P (w ∷ ws) each = (each 0 w (omega arith), all_from P ws (λ k d lt. each (suc k) d (omega arith)))

-- the pages that were written have their bytes
pub given_reads : (c : List ℕ) (base n : ℕ) (old new : List Page) (ws : List PageWrite) → new ≡ with_writes ws (resized n old) → AreOnce ws → AllByRecursion (λ w. w.page < n) ws
    → AllByRecursion (λ w. block_bytes c base w.block ≡ w.bytes) ws → AllByRecursion (λ w. page_of c base (get_or new w.page blank) ≡ w.bytes) ws
given_reads c base n old new ws is once below bytes =
    all_from (λ w. page_of c base (get_or new w.page blank) ≡ w.bytes) ws
    (λ k d lt. written_reads c base n old new ws k d is once lt (all_at (λ (w : PageWrite). w.page < n) ws k d lt below) (all_at (λ (w : PageWrite). block_bytes c base w.block ≡ w.bytes) ws k d lt bytes))

-- a page that is not written reads as before
pub rest_reads : (c c' : List ℕ) (base n : ℕ) (old new : List Page) (ws : List PageWrite) (j : ℕ) → new ≡ with_writes ws (resized n old) → AreOwn old ws → Same (Aside base (runs_of ws)) c' c
    → j < n → j < length old → (NamesPage ws j → ⊥) → page_of c' base (get_or new j blank) ≡ page_of c base (get_or old j blank)
rest_reads c c' base n old new ws j is own same below there none =
    ap (λ (ps : List Page). page_of c' base (get_or ps j blank)) is
    ∙ ap (λ (p : Page). page_of c' base p) (with_writes_other ws (resized n old) j none ∙ resized_at n old j below there)
    ∙ page_stays c c' base ws (get_or old j blank) same (λ k d within kept block. none (subst (NamesPage ws) (sym (own k j d within there block)) (names_page ws k d within)))

length-with_writes : (ws : List PageWrite) (pages : List Page) → length (with_writes ws pages) ≡ length pages
length-with_writes [] pages = refl
length-with_writes (w ∷ ws) pages = length-with_writes ws (set pages w.page (page_in w)) ∙ length-set pages w.page (page_in w)

-- after a write there are so many pages, and new ones that were not written have nothing
pub written_size : (n : ℕ) (old new : List Page) (ws : List PageWrite) → new ≡ with_writes ws (resized n old) → length new ≡ n
written_size n old new ws is = ap (length {A = Page}) is ∙ length-with_writes ws (resized n old) ∙ length-resized n old

pub written_fresh : (n : ℕ) (old new : List Page) (ws : List PageWrite) (j : ℕ) → new ≡ with_writes ws (resized n old) → length old ≤ j → j < n → (NamesPage ws j → ⊥) → get_or new j blank ≡ blank
written_fresh n old new ws j is past below none =
    ap (λ (ps : List Page). get_or ps j blank) is
    ∙ with_writes_other ws (resized n old) j none
    ∙ get_or-append_right (take n old) (replicate (n - length old) blank) (length old) j blank (omega (arith, length-take n old)) past
    ∙ get_or-replicate (n - length old) (j - length old) blank blank (omega arith)

-- ---- kept pages

-- 1 where bytes are kept
abbrev one_kept : Page → ℕ
one_kept page = cond (is_some page.kept) 1 0

set_past : (xs : List Page) (i : ℕ) (y : Page) → length xs ≤ i → set xs i y ≡ xs
set_past [] i y past = refl
set_past (x ∷ xs) zero y past = absurd (omega arith)
set_past (x ∷ xs) (suc i) y past = ap (λ (l : List Page). x ∷ l) (set_past xs i y (omega arith))

kept_set : (xs : List Page) (w : PageWrite) → sum_by one_kept (set xs w.page (page_in w)) ≤ sum_by one_kept xs
kept_set xs w = elim (cases_lt w.page (length xs)) [
  | inl lt ↦ omega (arith, sum_by-set one_kept xs w.page (page_in w) blank lt)
  | inr past ↦ omega (arith, ap (λ (l : List Page). sum_by one_kept l) (set_past xs w.page (page_in w) past))
]

kept_writes : (ws : List PageWrite) (xs : List Page) → sum_by one_kept (with_writes ws xs) ≤ sum_by one_kept xs
kept_writes [] xs = omega arith
kept_writes (w ∷ ws) xs = omega (arith, kept_set xs w, kept_writes ws (set xs w.page (page_in w)))

kept_resized : (n : ℕ) (xs : List Page) → sum_by one_kept (resized n xs) ≤ sum_by one_kept xs
kept_resized n xs =
    let new : List Page = replicate (n - length xs) blank in
    let none : sum_by one_kept new ≡ (n - length xs) * 0 = sum_by-replicate one_kept (n - length xs) blank in
    let whole : sum_by one_kept xs ≡ sum_by one_kept (take n xs) + sum_by one_kept (drop n xs) =
    ap (λ (l : List Page). sum_by one_kept l) (sym (take-append-drop n xs)) ∙ sum_by-append one_kept (take n xs) (drop n xs) in
    omega (arith, none, whole, sum_by-append one_kept (take n xs) new)

-- no more is kept after a write, and nothing where nothing was
pub kept_less : (n : ℕ) (old new : List Page) (ws : List PageWrite) → new ≡ with_writes ws (resized n old) → count_by (λ page. is_some page.kept) new ≤ count_by (λ page. is_some page.kept) old
kept_less n old new ws is =
    let same : sum_by one_kept new ≡ sum_by one_kept (with_writes ws (resized n old)) = ap (λ (l : List Page). sum_by one_kept l) is in
    let less : sum_by one_kept new ≤ sum_by one_kept old = omega (arith, same, kept_writes ws (resized n old), kept_resized n old) in
    less

pub none_kept : (n : ℕ) (old new : List Page) (ws : List PageWrite) → new ≡ with_writes ws (resized n old) → count_by (λ page. is_some page.kept) old ≡ 0 → count_by (λ page. is_some page.kept) new ≡ 0
none_kept n old new ws is none = omega (arith, none, kept_less n old new ws is)

-- nothing is kept of new pages
kept_from : (start count : ℕ) → sum_by one_kept (pages_from start count) ≡ 0
kept_from start zero = refl
kept_from start (suc count) = kept_from (start + 1) count

pub kept_open : (extents : List Extent) → count_by (λ page. is_some page.kept) (pages_in extents) ≡ 0
kept_open [] = refl
kept_open (e ∷ extents) =
    let rest : sum_by one_kept (pages_in extents) ≡ 0 = kept_open extents in
    let both : sum_by one_kept (pages_from e.start e.count ++ pages_in extents) ≡ 0 = omega (arith, rest, kept_from e.start e.count, sum_by-append one_kept (pages_from e.start e.count) (pages_in extents)) in
    both

-- ---- the first pages, which have a block each

-- a page keeps a block where pages are written
placed_writes : (ws : List PageWrite) (pages : List Page) (i : ℕ) → i < length pages → is_some (get_or pages i blank).block ≡ true → is_some (get_or (with_writes ws pages) i blank).block ≡ true
placed_writes [] pages i lt has = has
placed_writes (w ∷ ws) pages i lt has =
    let now : is_some (get_or (set pages w.page (page_in w)) i blank).block ≡ true = elim (cases_eq w.page i) [
      | inl is ↦ ap (λ (p : Page). is_some p.block) (subst (λ (k : ℕ). get_or (set pages w.page (page_in w)) k blank ≡ page_in w) is (get_or-set_same pages w.page (page_in w) blank (omega (arith, is, lt))))
      | inr other ↦ ap (λ (p : Page). is_some p.block) (get_or-set_other pages w.page i (page_in w) blank (λ is. other (sym is))) ∙ has
    ] in
    placed_writes ws (set pages w.page (page_in w)) i (omega (arith, lt, length-set pages w.page (page_in w))) now

pub placed_written : (n known : ℕ) (old new : List Page) (ws : List PageWrite) → new ≡ with_writes ws (resized n old) → ArePlaced known old → ArePlaced (min known n) new
placed_written n known old new ws is placed = (
  omega (arith, written_size n old new ws is),
  λ i below.
      let in_old : i < known = omega (arith, below) in
      let in_new : i < n = omega (arith, below) in
      let there : i < length old = omega (arith, in_old, placed.0) in
      ap (λ (ps : List Page). is_some (get_or ps i blank).block) is
      ∙ placed_writes ws (resized n old) i (omega (arith, in_new, length-resized n old)) (ap (λ (p : Page). is_some p.block) (resized_at n old i in_new there) ∙ placed.1 i in_old),
)

-- and where all blocks stay
pub placed_same : (known : ℕ) (old new : List Page) → length new ≡ length old → ((j : ℕ) → (get_or new j blank).block ≡ (get_or old j blank).block) → ArePlaced known old → ArePlaced known new
placed_same known old new size same placed = (omega (arith, size, placed.0), λ i below. ap (λ (b : Option ℕ). is_some b) (same i) ∙ placed.1 i below)
