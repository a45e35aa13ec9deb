-- Which page has which block after a write, and in a row that is opened.
use Rattle.std.proofs.Common.{◌≡◌, ℕ, zero, suc, ◌-◌, ◌⊎◌, ◌++◌, nat_eq, false, Option, Some, None, List, [], ◌∷◌, length, take, map, replicate, slice_get, get_or, set, unwrap_or, refl, sym, ap, subst, ◌∙◌, inl, inr}
use Rattle.std.specs.List.{AllByRecursion, IsDistinct}
use Rattle.std.proofs.lemmas.Bool.{cases_eq, eq-eqb}
use Rattle.std.proofs.lemmas.List.{map-append}
use Rattle.opfs_base.specs.declared.extents.Extent.{Extent}
use Rattle.opfs_blocks.specs.Sets.{Used, blocks_in, blocks_of}
use Rattle.opfs_data.specs.declared.page.Page.{Page}
use Rattle.opfs_data.specs.Pages.{RowSeen, blank, with_writes, resized, pages_from, pages_in, AreOnce}
use Rattle.opfs_data.specs.Rows.{Rows, pages_at, no_row, IsOther, OthersStay}
use Rattle.opfs_data.specs.Writes.{PageWrite}
use Rattle.opfs_space.specs.Holders.{HasPage, Holders, AreBlocks, HasFiles, KeepsRow, KeepsOthers, Writes, AreMine, IsOpened}
use Rattle.opfs_space.proofs.Keeping.{both, HasPut, blocks_put}
use Rattle.opfs_space.proofs.Storing.{page_with, blocks_opened}

-- a page of a list has a block
abbrev pub HasAt : List Page → ℕ → ℕ → Type 0
HasAt pages i b = (get_or pages i blank).block ≡ Some b

set_at : (pages : List Page) (p : Page) (i j b : ℕ) → HasAt (set pages j p) i b → ((i ≡ j) × (p.block ≡ Some b)) ⊎ HasAt pages i b
set_at [] p i j b has = inr has
set_at (x ∷ pages) p zero zero b has = inl (refl, has)
set_at (x ∷ pages) p zero (suc j) b has = inr has
set_at (x ∷ pages) p (suc i) zero b has = inr has
set_at (x ∷ pages) p (suc i) (suc j) b has = elim (set_at pages p i j b has) [ inl here ↦ inl (ap suc here.0, here.1) | inr there ↦ inr there ]

written_at : (writes : List PageWrite) (pages : List Page) (i b : ℕ) → HasAt (with_writes writes pages) i b → Writes writes i b ⊎ HasAt pages i b
written_at [] pages i b has = inr has
written_at (w ∷ more) pages i b has = elim (written_at more (set pages w.page (record { block = Some w.block; kept = None })) i b has) [
  | inl later ↦ inl (inr later)
  | inr there ↦ elim (set_at pages (record { block = Some w.block; kept = None }) i w.page b there) [
    | inl here ↦ inl (inl (sym here.0, some_same w.block b here.1))
    | inr old ↦ inr old
  ]
] where
  some_same : (x y : ℕ) → ◌≡◌ {A = Option ℕ} (Some x) (Some y) → x ≡ y
  some_same x y is = cc

blank_at : (n i b : ℕ) → HasAt (replicate n blank) i b → ⊥
blank_at zero i b has = absurd cc
blank_at (suc n) zero b has = absurd cc
blank_at (suc n) (suc i) b has = blank_at n i b has

fill_at : (count n : ℕ) (pages : List Page) (i b : ℕ) → HasAt (take count pages ++ replicate n blank) i b → HasAt pages i b
fill_at zero n pages i b has = absurd (blank_at n i b has)
fill_at (suc count) n [] i b has = absurd (blank_at n i b has)
fill_at (suc count) n (x ∷ pages) zero b has = has
fill_at (suc count) n (x ∷ pages) (suc i) b has = fill_at count n pages i b has

resized_at : (count : ℕ) (pages : List Page) (i b : ℕ) → HasAt (resized count pages) i b → HasAt pages i b
resized_at count pages i b has = fill_at count (count - length pages) pages i b has

-- which row it is
pub data Which (agent row k n : ℕ) : Type 0 where
  Same : k ≡ agent → n ≡ row → Which agent row k n
  Apart : IsOther agent row k n → Which agent row k n

pub which : (agent row k n : ℕ) → Which agent row k n
which agent row k n = elim (cases_eq k agent) [
  | inr apart ↦ Apart (λ q. apart q.0)
  | inl agent_is ↦ elim (cases_eq n row) [
    | inr apart ↦ Apart (λ q. apart q.1)
    | inl row_is ↦ Same agent_is row_is
  ]
]

pub at_row : (swap : Rows) (agent row k n i b : ℕ) → k ≡ agent → n ≡ row → HasPage swap k n i b → HasPage swap agent row i b
at_row swap agent row k n i b agent_is row_is has = subst (λ (x : ℕ). HasPage swap agent x i b) row_is (subst (λ (x : ℕ). HasPage swap x n i b) agent_is has)

other_page : (old new : Rows) (agent row k n i b : ℕ) → OthersStay agent row old new → IsOther agent row k n → HasPage new k n i b → HasPage old k n i b
other_page old new agent row k n i b stay apart has =
    ap (λ (o : Option RowSeen). (get_or (unwrap_or o no_row).pages i blank).block) (sym (stay k n apart)) ∙ has

keeps_at : (old new : Holders) (agent row k n : ℕ) → k ≡ agent → n ≡ row → KeepsRow old new agent row → KeepsRow old new k n
keeps_at old new agent row k n agent_is row_is keeps = subst (λ (x : ℕ). KeepsRow old new x n) (sym agent_is) (subst (λ (x : ℕ). KeepsRow old new agent x) (sym row_is) keeps)

put_pages : (old new : Holders) (agent row pages : ℕ) (writes : List PageWrite) → KeepsRow old new agent row → KeepsOthers old new agent row
    → pages_at agent row new.swap ≡ with_writes writes (resized pages (pages_at agent row old.swap)) → HasPut old new agent row writes
put_pages old new agent row pages writes keeps others is k n i b has = elim (which agent row k n) [
  | Apart apart ↦ inl (other_page old.swap new.swap agent row k n i b others.pages apart has, others.rows k n apart)
  | Same agent_is row_is ↦
      let here : HasAt (pages_at agent row new.swap) i b = at_row new.swap agent row k n i b agent_is row_is has in
      elim (written_at writes (resized pages (pages_at agent row old.swap)) i b (subst (λ (ps : List Page). HasAt ps i b) is here)) [
        | inl write ↦ inr (record { agent_is = agent_is; row_is = row_is; write = write })
        | inr there ↦ inl (at_row old.swap k n agent row i b (sym agent_is) (sym row_is) (resized_at pages (pages_at agent row old.swap) i b there), keeps_at old new agent row k n agent_is row_is keeps)
      ]
]

pub pages_written : (old new : Holders) (used own : Used) (agent row pages : ℕ) (writes : List PageWrite) → AreBlocks old used own → HasFiles old new → KeepsRow old new agent row → KeepsOthers old new agent row
    → pages_at agent row new.swap ≡ with_writes writes (resized pages (pages_at agent row old.swap)) → AreOnce writes → AreMine used own old.swap agent row (new.reserve agent row) writes → AreBlocks new used own
pages_written old new used own agent row pages writes are same keeps others is once mine =
    blocks_put old new used own agent row writes are same (put_pages old new agent row pages writes keeps others is) once mine keeps.file

-- ---- a row that is opened

run_pages : (xs : List ℕ) → map (λ block. record { block = Some block; kept = None }) xs ≡ map page_with xs
run_pages xs = refl

opened_pages : (extents : List Extent) → pages_in extents ≡ map page_with (blocks_of extents)
opened_pages [] = refl
opened_pages (e ∷ more) = ap (λ ps. pages_from e.start e.count ++ ps) (opened_pages more) ∙ sym (map-append page_with (blocks_in e) (blocks_of more))

block_at : (blocks : List ℕ) (i b : ℕ) → HasAt (map page_with blocks) i b → slice_get blocks i ≡ Some b
block_at [] i b has = absurd cc
block_at (x ∷ blocks) zero b has = has
block_at (x ∷ blocks) (suc i) b has = block_at blocks i b has

never_at : (x : ℕ) (xs : List ℕ) (i : ℕ) → AllByRecursion (λ y. nat_eq x y ≡ false) xs → slice_get xs i ≡ Some x → ⊥
never_at x [] i all is = absurd cc
never_at x (y ∷ xs) zero all is = let same : y ≡ x = cc in both (nat_eq x y) (eq-eqb x y (sym same)) all.0
never_at x (y ∷ xs) (suc i) all is = never_at x xs i all.1 is

never_here : (x b : ℕ) (xs : List ℕ) (i : ℕ) → AllByRecursion (λ y. nat_eq x y ≡ false) xs → ◌≡◌ {A = Option ℕ} (Some x) (Some b) → slice_get xs i ≡ Some b → ⊥
never_here x b xs i all first is = let same : b ≡ x = cc in never_at x xs i all (is ∙ ap Some same)

one_place : (xs : List ℕ) → IsDistinct nat_eq xs → (i j b : ℕ) → slice_get xs i ≡ Some b → slice_get xs j ≡ Some b → i ≡ j
unfolding IsDistinct
one_place [] once i j b is also = absurd cc
one_place (x ∷ xs) once zero zero b is also = refl
one_place (x ∷ xs) once zero (suc j) b is also = absurd (never_here x b xs j once.0 is also)
one_place (x ∷ xs) once (suc i) zero b is also = absurd (never_here x b xs i once.0 also is)
one_place (x ∷ xs) once (suc i) (suc j) b is also = ap suc (one_place xs once.1 i j b is also)

pub row_opened : (old new : Holders) (used own : Used) (agent row : ℕ) (extents : List Extent) → AreBlocks old used own → HasFiles old new → KeepsOthers old new agent row
    → pages_at agent row new.swap ≡ pages_in extents → IsDistinct nat_eq (blocks_of extents) → IsOpened old new agent row (blocks_of extents) → AreBlocks new used own
row_opened old new used own agent row extents are same others is once opened =
    blocks_opened old new agent row (blocks_of extents) used own are same opened (one_place (blocks_of extents) once) (λ k n i b has. elim (which agent row k n) [
      | Apart apart ↦ inl (other_page old.swap new.swap agent row k n i b others.pages apart has, others.rows k n apart, apart)
      | Same agent_is row_is ↦
          let here : HasAt (pages_at agent row new.swap) i b = at_row new.swap agent row k n i b agent_is row_is has in
          inr (agent_is, row_is, block_at (blocks_of extents) i b (subst (λ (ps : List Page). HasAt ps i b) (is ∙ opened_pages extents) here))
    ])
