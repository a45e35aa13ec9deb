-- Pages in the blocks that are planned for them.
use Rattle.std.proofs.Common.{◌≡◌, ℕ, zero, suc, ◌+◌, ◌<◌, ◌⊎◌, ◌++◌, ◌||◌, nat_eq, cond, Bool, true, false, Option, Some, None, List, [], ◌∷◌, length, map, take, get_or, refl, sym, ap, subst, ◌∙◌, inl, inr, arith}
use Rattle.std.specs.List.{AllByRecursion, IsDistinct}
use Rattle.std.proofs.lemmas.Bool.{eqb-true, eq-eqb}
use Rattle.opfs_blocks.specs.Sets.{Used, is_used, marked, free_from, free_blocks}
use Rattle.opfs_data.specs.Pages.{AreOnce, AreOwn, NamesPage, NamesBlock}
use Rattle.opfs_data.specs.Rows.{Rows, page_at, pages_at, AreFree}
use Rattle.opfs_data.specs.Writes.{PageWrite, placed}
use Rattle.opfs_records.specs.Replay.Built.{has_block}
use Rattle.opfs_space.specs.Spaces.{is_own}
use Rattle.opfs_space.specs.Holders.{HasPage, Holders, AreBlocks, Writes, IsMine, AreMine}
use Rattle.opfs_space.specs.Plans.{if_own, own_block, ArePlanned}
use Rattle.opfs_space.proofs.Keeping.{both}
use Rattle.opfs_space.proofs.Taking.{IsFree, are_free, blocks_taken, taken_mine, own_mine, marked_other}

not_true : (t : Bool) → (t ≡ true → ⊥) → t ≡ false
not_true true never = absurd (never refl)
not_true false never = refl

-- ---- what a put asks

write_at : (writes : List PageWrite) (k : ℕ) (d : PageWrite) → k < length writes → Writes writes (get_or writes k d).page (get_or writes k d).block
write_at [] k d lt = absurd (omega arith)
write_at (w ∷ more) zero d lt = inl (refl, refl)
write_at (w ∷ more) (suc k) d lt = inr (write_at more k d (omega (arith, lt)))

pub mine_own : (used own : Used) (swap : Rows) (agent row reserve : ℕ) (writes : List PageWrite) → AreMine used own swap agent row reserve writes → AreOwn (pages_at agent row swap) writes
mine_own used own swap agent row reserve writes mine k j d lt within has =
    ((mine (get_or writes k d).page (get_or writes k d).block (write_at writes k d lt)).0.only agent row j has).2

pub mine_free : (used own : Used) (swap : Rows) (agent row reserve : ℕ) (writes : List PageWrite) → AreMine used own swap agent row reserve writes → AreFree agent row swap writes
mine_free used own swap agent row reserve writes mine a r other k j d lt within has =
    let q = (mine (get_or writes k d).page (get_or writes k d).block (write_at writes k d lt)).0.only a r j has in other (q.0, q.1)

pub mine_unnamed : (h : Holders) (used own : Used) (swap : Rows) (agent row reserve page b : ℕ) (writes : List PageWrite) → AreBlocks h used own → AreMine used own swap agent row reserve writes → Writes writes page b → h.ground b ≡ false
mine_unnamed h used own swap agent row reserve page b writes are mine write =
    not_true (h.ground b) (λ g. both (is_own own b) (mine page b write).0.owned (are.grounded b g).2)

-- ---- own blocks

owned_by : (own : Used) (o : Option ℕ) (b : ℕ) → if_own own o ≡ Some b → (o ≡ Some b) × (is_own own b ≡ true)
owned_by own None b is = absurd cc
owned_by own (Some x) b is = by_test (is_own own x) refl is where
  by_test : (t : Bool) → is_own own x ≡ t → cond t (Some x) None ≡ Some b → (Some x ≡ Some b) × (is_own own b ≡ true)
  by_test true owned same = let e : x ≡ b = cc in (same, ap (is_own own) (sym e) ∙ owned)
  by_test false owned same = absurd cc

own_page : (own : Used) (swap : Rows) (agent row page b : ℕ) → own_block own swap agent row page ≡ Some b → HasPage swap agent row page b × (is_own own b ≡ true)
unfolding own_block
own_page own swap agent row page b is = owned_by own (page_at agent row page swap).block b is

-- ---- blocks that pages get

writes_either : (xs ys : List PageWrite) (i b : ℕ) → Writes (xs ++ ys) i b → Writes xs i b ⊎ Writes ys i b
writes_either [] ys i b w = inr w
writes_either (x ∷ xs) ys i b (inl here) = inl (inl here)
writes_either (x ∷ xs) ys i b (inr later) = elim (writes_either xs ys i b later) [ inl one ↦ inl (inr one) | inr other ↦ inr other ]

placed_at : (move : List PageWrite) (blocks : List ℕ) (i b : ℕ) → Writes (placed move blocks) i b → NamesPage move i × (has_block blocks b ≡ true)
placed_at [] blocks i b w = absurd w
placed_at (x ∷ move) [] i b w = absurd w
placed_at (x ∷ move) (y ∷ blocks) i b (inl here) = (inl here.0, ap (λ (s : Bool). s || has_block blocks b) (eq-eqb b y (sym here.1)))
placed_at (x ∷ move) (y ∷ blocks) i b (inr later) = let p = placed_at move blocks i b later in (inr p.0, either_true (nat_eq b y) (has_block blocks b) p.1) where
  either_true : (s t : Bool) → t ≡ true → (s || t) ≡ true
  either_true true t is = refl
  either_true false t is = is

never_in : (x : ℕ) (xs : List ℕ) → AllByRecursion (λ y. nat_eq x y ≡ false) xs → has_block xs x ≡ true → ⊥
never_in x [] all is = absurd cc
never_in x (y ∷ xs) all is = never_in x xs all.1 (either (nat_eq x y) (has_block xs x) all.0 is) where
  either : (s t : Bool) → s ≡ false → (s || t) ≡ true → t ≡ true
  either true t out h = absurd cc
  either false t out h = h

one_place : (move : List PageWrite) (blocks : List ℕ) (i j b : ℕ) → IsDistinct nat_eq blocks → Writes (placed move blocks) i b → Writes (placed move blocks) j b → i ≡ j
unfolding IsDistinct
one_place [] blocks i j b once w v = absurd w
one_place (x ∷ move) [] i j b once w v = absurd w
one_place (x ∷ move) (y ∷ blocks) i j b once (inl w) (inl v) = sym w.0 ∙ v.0
one_place (x ∷ move) (y ∷ blocks) i j b once (inl w) (inr v) = absurd (never_in y blocks once.0 (ap (has_block blocks) w.1 ∙ (placed_at move blocks j b v).1))
one_place (x ∷ move) (y ∷ blocks) i j b once (inr w) (inl v) = absurd (never_in y blocks once.0 (ap (has_block blocks) v.1 ∙ (placed_at move blocks i b w).1))
one_place (x ∷ move) (y ∷ blocks) i j b once (inr w) (inr v) = one_place move blocks i j b once.1 w v

-- free blocks are distinct
all_above : (m n : ℕ) (used : Used) → m < n → AllByRecursion (λ y. nat_eq m y ≡ false) (free_from n used)
all_above m n [] less = tt
all_above m n (true ∷ used) less = all_above m (n + 1) used (omega arith)
all_above m n (false ∷ used) less = (not_true (nat_eq m n) (λ same. omega (arith, eqb-true m n same)), all_above m (n + 1) used (omega arith))

free_once : (n : ℕ) (used : Used) → IsDistinct nat_eq (free_from n used)
unfolding IsDistinct
free_once n [] = tt
free_once n (true ∷ used) = free_once (n + 1) used
free_once n (false ∷ used) = (all_above n (n + 1) used (omega arith), free_once (n + 1) used)

all_taken : (n x : ℕ) (xs : List ℕ) → AllByRecursion (λ y. nat_eq x y ≡ false) xs → AllByRecursion (λ y. nat_eq x y ≡ false) (take n xs)
all_taken zero x xs all = tt
all_taken (suc n) x [] all = tt
all_taken (suc n) x (y ∷ xs) all = (all.0, all_taken n x xs all.1)

taken_once : (n : ℕ) (xs : List ℕ) → IsDistinct nat_eq xs → IsDistinct nat_eq (take n xs)
unfolding IsDistinct
taken_once zero xs once = tt
taken_once (suc n) [] once = tt
taken_once (suc n) (x ∷ xs) once = (all_taken n x xs once.0, taken_once n xs once.1)

-- ---- all of a plan

module _ (h : Holders) (used own : Used) (agent row reserve : ℕ) (stay move : List PageWrite) (are : AreBlocks h used own) (plan : ArePlanned own h.swap agent row reserve stay move) where
  abbrev blocks : List ℕ
  blocks = take (length move) (free_blocks used)

  free_at : (b : ℕ) → has_block blocks b ≡ true → IsFree used b
  free_at b is = are_free used (length move) b is

  names_write : (writes : List PageWrite) (i b : ℕ) → Writes writes i b → NamesPage writes i
  names_write [] i b w = absurd w
  names_write (x ∷ more) i b (inl here) = inl here.0
  names_write (x ∷ more) i b (inr later) = inr (names_write more i b later)

  mine_at : length own ≡ length used → (i b : ℕ) → Writes (stay ++ placed move blocks) i b → IsMine (marked true blocks used) (marked true blocks own) h.swap agent row i b × (i < reserve)
  mine_at size i b write = elim (writes_either stay (placed move blocks) i b write) [
    | inl stays ↦
        let page = own_page own h.swap agent row i b (plan.blocks i b stays) in
        let out : has_block blocks b ≡ false = not_true (has_block blocks b) (λ t. both (is_used used b) (are.pages agent row i b page.0).1 (free_at b t).free) in (
          own_mine h (marked true blocks used) (marked true blocks own) agent row i b (blocks_taken h used own blocks are size free_at) page.0 (marked_other true false blocks own b out ∙ page.1),
          plan.within i (inl (names_write stay i b stays)),
        )
    | inr moves ↦
        let p = placed_at move blocks i b moves in
        (taken_mine h used own blocks are size free_at agent row i b p.1, plan.within i (inr p.0))
  ]

  one_page : (i j b : ℕ) → Writes (stay ++ placed move blocks) i b → Writes (stay ++ placed move blocks) j b → i ≡ j
  one_page i j b w v = elim (writes_either stay (placed move blocks) i b w) [
    | inl first ↦
        let here = own_page own h.swap agent row i b (plan.blocks i b first) in
        elim (writes_either stay (placed move blocks) j b v) [
          | inl second ↦ are.apart agent row i j b here.0 (own_page own h.swap agent row j b (plan.blocks j b second)).0
          | inr moved ↦ absurd (both (is_used used b) (are.pages agent row i b here.0).1 (free_at b (placed_at move blocks j b moved).1).free)
        ]
    | inr moves ↦ elim (writes_either stay (placed move blocks) j b v) [
      | inl second ↦ absurd (both (is_used used b) (are.pages agent row j b (own_page own h.swap agent row j b (plan.blocks j b second)).0).1 (free_at b (placed_at move blocks i b moves).1).free)
      | inr moved ↦ one_place move blocks i j b (taken_once (length move) (free_blocks used) (free_once 0 used)) moves moved
    ]
  ]

pub planned_mine : (h : Holders) (used own : Used) (agent row reserve : ℕ) (stay move : List PageWrite) → AreBlocks h used own → length own ≡ length used → ArePlanned own h.swap agent row reserve stay move
    → AreMine (marked true (take (length move) (free_blocks used)) used) (marked true (take (length move) (free_blocks used)) own) h.swap agent row reserve (stay ++ placed move (take (length move) (free_blocks used)))
planned_mine h used own agent row reserve stay move are size plan i b write = mine_at h used own agent row reserve stay move are plan size i b write

-- ---- once

abbrev pages_of : List PageWrite → List ℕ
pages_of writes = map (λ (x : PageWrite). x.page) writes

names_member : (writes : List PageWrite) (i : ℕ) → NamesPage writes i → has_block (pages_of writes) i ≡ true
names_member [] i n = absurd n
names_member (x ∷ more) i (inl here) = ap (λ (s : Bool). s || has_block (pages_of more) i) (eq-eqb i x.page (sym here))
names_member (x ∷ more) i (inr later) = either_true (nat_eq i x.page) (has_block (pages_of more) i) (names_member more i later) where
  either_true : (s t : Bool) → t ≡ true → (s || t) ≡ true
  either_true true t is = refl
  either_true false t is = is

block_write : (writes : List PageWrite) (b : ℕ) → NamesBlock writes b → (i : ℕ) × Writes writes i b
block_write [] b n = absurd n
block_write (x ∷ more) b (inl here) = (x.page, inl (refl, here))
block_write (x ∷ more) b (inr later) = let p = block_write more b later in (p.0, inr p.1)

write_names : (writes : List PageWrite) (i b : ℕ) → Writes writes i b → NamesPage writes i
write_names [] i b w = absurd w
write_names (x ∷ more) i b (inl here) = inl here.0
write_names (x ∷ more) i b (inr later) = inr (write_names more i b later)

are_once : (writes : List PageWrite) → IsDistinct nat_eq (pages_of writes) → ((i j b : ℕ) → Writes writes i b → Writes writes j b → i ≡ j) → AreOnce writes
unfolding IsDistinct
are_once [] once one = tt
are_once (x ∷ more) once one = (
  λ named. never_in x.page (pages_of more) once.0 (names_member more x.page named),
  λ named.
      let w = block_write more x.block named in
      let same : x.page ≡ w.0 = one x.page w.0 x.block (inl (refl, refl)) (inr w.1) in
      never_in x.page (pages_of more) once.0 (names_member more x.page (subst (NamesPage more) (sym same) (write_names more w.0 x.block w.1))),
  are_once more once.1 (λ i j b w v. one i j b (inr w) (inr v)),
)

all_apart : (p : ℕ) (xs : List PageWrite) → ((i : ℕ) → NamesPage xs i → p ≡ i → ⊥) → AllByRecursion (λ y. nat_eq p y ≡ false) (pages_of xs)
all_apart p [] apart = tt
all_apart p (x ∷ xs) apart = (not_true (nat_eq p x.page) (λ t. apart x.page (inl refl) (eqb-true p x.page t)), all_apart p xs (λ i named. apart i (inr named)))

apart_both : (p : ℕ) (xs ys : List PageWrite) → AllByRecursion (λ y. nat_eq p y ≡ false) (pages_of xs) → AllByRecursion (λ y. nat_eq p y ≡ false) (pages_of ys) → AllByRecursion (λ y. nat_eq p y ≡ false) (pages_of (xs ++ ys))
apart_both p [] ys one other = other
apart_both p (x ∷ xs) ys one other = (one.0, apart_both p xs ys one.1 other)

both_once : (xs ys : List PageWrite) → IsDistinct nat_eq (pages_of xs) → IsDistinct nat_eq (pages_of ys) → ((i : ℕ) → NamesPage xs i → NamesPage ys i → ⊥) → IsDistinct nat_eq (pages_of (xs ++ ys))
unfolding IsDistinct
both_once [] ys one other apart = other
both_once (x ∷ xs) ys one other apart = (
  apart_both x.page xs ys one.0 (all_apart x.page ys (λ i named same. apart x.page (inl refl) (subst (NamesPage ys) (sym same) named))),
  both_once xs ys one.1 other (λ i named also. apart i (inr named) also),
)

placed_names : (move : List PageWrite) (blocks : List ℕ) (i : ℕ) → NamesPage (placed move blocks) i → NamesPage move i
placed_names [] blocks i n = absurd n
placed_names (x ∷ move) [] i n = absurd n
placed_names (x ∷ move) (y ∷ blocks) i (inl here) = inl here
placed_names (x ∷ move) (y ∷ blocks) i (inr later) = inr (placed_names move blocks i later)

placed_all : (p : ℕ) (move : List PageWrite) (blocks : List ℕ) → AllByRecursion (λ y. nat_eq p y ≡ false) (pages_of move) → AllByRecursion (λ y. nat_eq p y ≡ false) (pages_of (placed move blocks))
placed_all p [] blocks all = tt
placed_all p (x ∷ move) [] all = tt
placed_all p (x ∷ move) (y ∷ blocks) all = (all.0, placed_all p move blocks all.1)

placed_once : (move : List PageWrite) (blocks : List ℕ) → IsDistinct nat_eq (pages_of move) → IsDistinct nat_eq (pages_of (placed move blocks))
unfolding IsDistinct
placed_once [] blocks once = tt
placed_once (x ∷ move) [] once = tt
placed_once (x ∷ move) (y ∷ blocks) once = (placed_all x.page move blocks once.0, placed_once move blocks once.1)

name_write : (writes : List PageWrite) (i : ℕ) → NamesPage writes i → (b : ℕ) × Writes writes i b
name_write [] i n = absurd n
name_write (x ∷ more) i (inl here) = (x.block, inl (here, refl))
name_write (x ∷ more) i (inr later) = let p = name_write more i later in (p.0, inr p.1)

none_some : (o : Option ℕ) (b : ℕ) → o ≡ Some b → o ≡ None → ⊥
none_some None b is not = absurd cc
none_some (Some x) b is not = absurd cc

pub planned_once : (h : Holders) (used own : Used) (agent row reserve : ℕ) (stay move : List PageWrite) → AreBlocks h used own → ArePlanned own h.swap agent row reserve stay move
    → AreOnce (stay ++ placed move (take (length move) (free_blocks used)))
planned_once h used own agent row reserve stay move are plan =
    are_once (stay ++ placed move (take (length move) (free_blocks used)))
    (both_once stay (placed move (take (length move) (free_blocks used))) plan.stay_once (placed_once move (take (length move) (free_blocks used)) plan.move_once) (λ i named also.
    let w = name_write stay i named in
    none_some (own_block own h.swap agent row i) w.0 (plan.blocks i w.0 w.1) (plan.none i (placed_names move (take (length move) (free_blocks used)) i also))))
    (one_page h used own agent row reserve stay move are plan)
