-- Free blocks that are taken, and the beginning.
use Rattle.std.proofs.Common.{◌≡◌, ℕ, zero, suc, ◌+◌, ◌-◌, ◌<◌, ◌≤◌, ◌||◌, nat_eq, Bool, true, false, List, [], ◌∷◌, length, take, replicate, get_or, set, refl, sym, ap, subst, ◌∙◌, inl, inr, arith}
use Rattle.std.proofs.lemmas.Bool.{cases_eq, eqb-true, eq-eqb}
use Rattle.std.proofs.lemmas.List.{length-set, get_or-set_same, get_or-set_other}
use Rattle.opfs_blocks.specs.Sets.{Used, is_used, marked, free_from, free_blocks}
use Rattle.opfs_data.specs.Rows.{Rows}
use Rattle.opfs_records.specs.Replay.Built.{has_block}
use Rattle.opfs_space.specs.Spaces.{is_own}
use Rattle.opfs_space.specs.Holders.{HasPage, Holders, AreBlocks, IsMine, IsFirst}
use Rattle.opfs_space.proofs.Keeping.{both}

not_true : (t : Bool) → (t ≡ true → ⊥) → t ≡ false
not_true true never = absurd (never refl)
not_true false never = refl

either : (a b : Bool) → a ≡ false → (a || b) ≡ true → b ≡ true
either true b is h = absurd cc
either false b is h = h

-- a block that is marked has the mark, and another what it had
pub marked_size : (t : Bool) (xs : List ℕ) (used : Used) → length (marked t xs used) ≡ length used
marked_size t [] used = refl
marked_size t (x ∷ xs) used = marked_size t xs (set used x t) ∙ length-set used x t

pub marked_other : (t d : Bool) (xs : List ℕ) (used : Used) (b : ℕ) → has_block xs b ≡ false → get_or (marked t xs used) b d ≡ get_or used b d
marked_other t d [] used b none = refl
marked_other t d (x ∷ xs) used b none = elim (cases_eq b x) [
  | inl same ↦ absurd (both (has_block (x ∷ xs) b) (ap (λ (s : Bool). s || has_block xs b) (eq-eqb b x same)) none)
  | inr apart ↦
      let first : nat_eq b x ≡ false = not_true (nat_eq b x) (λ same. apart (eqb-true b x same)) in
      marked_other t d xs (set used x t) b (sym (ap (λ (s : Bool). s || has_block xs b) first) ∙ none) ∙ get_or-set_other used x b t d apart
]

marked_still : (t d : Bool) (xs : List ℕ) (used : Used) (b : ℕ) → b < length used → get_or used b d ≡ t → get_or (marked t xs used) b d ≡ t
marked_still t d [] used b lt is = is
marked_still t d (x ∷ xs) used b lt is = marked_still t d xs (set used x t) b (omega (arith, lt, length-set used x t)) (elim (cases_eq b x) [
  | inl same ↦ ap (λ (n : ℕ). get_or (set used n t) b d) (sym same) ∙ get_or-set_same used b t d lt
  | inr apart ↦ get_or-set_other used x b t d apart ∙ is
])

pub marked_here : (t d : Bool) (xs : List ℕ) (used : Used) (b : ℕ) → b < length used → has_block xs b ≡ true → get_or (marked t xs used) b d ≡ t
marked_here t d [] used b lt is = absurd cc
marked_here t d (x ∷ xs) used b lt is = elim (cases_eq b x) [
  | inl same ↦ marked_still t d xs (set used x t) b (omega (arith, lt, length-set used x t)) (ap (λ (n : ℕ). get_or (set used n t) b d) (sym same) ∙ get_or-set_same used b t d lt)
  | inr apart ↦ marked_here t d xs (set used x t) b (omega (arith, lt, length-set used x t)) (either (nat_eq b x) (has_block xs b) (not_true (nat_eq b x) (λ same. apart (eqb-true b x same))) is)
]

-- a free block is below the size and is not used
pub record IsFree (used : Used) (b : ℕ) : Type 0 where
  pub below : b < length used
  pub free : is_used used b ≡ false

free_at : (n b : ℕ) (used : Used) → has_block (free_from n used) b ≡ true → (n ≤ b) × (b < n + length used) × (get_or used (b - n) true ≡ false)
free_at n b [] is = absurd cc
free_at n b (true ∷ used) is =
    let p = free_at (n + 1) b used is in
    let e : b - n ≡ suc (b - (n + 1)) = omega (arith, p.0) in
    (omega (arith, p.0), omega (arith, p.1), ap (λ (k : ℕ). get_or (true ∷ used) k true) e ∙ p.2)
free_at n b (false ∷ used) is = elim (cases_eq b n) [
  | inl here ↦ let e : b - n ≡ 0 = omega (arith, here) in (omega (arith, here), omega (arith, here), ap (λ (k : ℕ). get_or (false ∷ used) k true) e)
  | inr apart ↦
      let p = free_at (n + 1) b used (either (nat_eq b n) (has_block (free_from (n + 1) used) b) (not_true (nat_eq b n) (λ same. apart (eqb-true b n same))) is) in
      let e : b - n ≡ suc (b - (n + 1)) = omega (arith, p.0) in
      (omega (arith, p.0), omega (arith, p.1), ap (λ (k : ℕ). get_or (false ∷ used) k true) e ∙ p.2)
]

among_all : (n b : ℕ) (xs : List ℕ) → has_block (take n xs) b ≡ true → has_block xs b ≡ true
among_all zero b xs is = absurd cc
among_all (suc n) b [] is = is
among_all (suc n) b (x ∷ xs) is = later (nat_eq b x) (has_block (take n xs) b) (has_block xs b) (among_all n b xs) is where
  later : (s t u : Bool) → (t ≡ true → u ≡ true) → (s || t) ≡ true → (s || u) ≡ true
  later true t u f h = refl
  later false t u f h = f h

pub are_free : (used : Used) (n b : ℕ) → has_block (take n (free_blocks used)) b ≡ true → IsFree used b
are_free used n b is =
    let p = free_at 0 b used (among_all n b (free_blocks used) is) in
    let e : b ≡ b - 0 = omega arith in
    record { below = omega (arith, p.1); free = ap (λ (k : ℕ). get_or used k true) e ∙ p.2 }

module _ (h : Holders) (used own : Used) (taken : List ℕ) (are : AreBlocks h used own) (size : length own ≡ length used) (free : (b : ℕ) → has_block taken b ≡ true → IsFree used b) where
  still_used : (b : ℕ) → b < length used → is_used used b ≡ true → is_used (marked true taken used) b ≡ true
  still_used b lt is = marked_still true true taken used b lt is

  -- a block that is used is not taken
  not_taken : (b : ℕ) → is_used used b ≡ true → has_block taken b ≡ false
  not_taken b is = not_true (has_block taken b) (λ t. both (is_used used b) is (free b t).free)

  was_own : (b : ℕ) → has_block taken b ≡ false → is_own (marked true taken own) b ≡ is_own own b
  was_own b out = marked_other true false taken own b out

  pub blocks_taken : AreBlocks h (marked true taken used) (marked true taken own)
  blocks_taken = record {
    grounded = λ b g.
        let p = are.grounded b g in
        (omega (arith, p.0, marked_size true taken used), still_used b p.0 p.1, was_own b (not_taken b p.1) ∙ p.2);
    inside = are.inside;
    held = are.held;
    once = are.once;
    pages = λ k n i b has. let p = are.pages k n i b has in (omega (arith, p.0, marked_size true taken used), still_used b p.0 p.1);
    apart = are.apart;
    alone = λ b owned k n i l m j has also. are.alone b (sym (was_own b (not_taken b (are.pages k n i b has).1)) ∙ owned) k n i l m j has also;
    together = are.together;
    of_file = are.of_file;
    reserved = are.reserved;
    covered = are.covered;
  }

  pub taken_mine : (agent row page b : ℕ) → has_block taken b ≡ true → IsMine (marked true taken used) (marked true taken own) h.swap agent row page b
  taken_mine agent row page b is = record {
    below = omega (arith, (free b is).below, marked_size true taken used);
    taken = marked_here true true taken used b (free b is).below is;
    owned = marked_here true false taken own b (omega (arith, (free b is).below, size)) is;
    only = λ k n j has. absurd (both (is_used used b) (are.pages k n j b has).1 (free b is).free);
  }

pub own_mine : (h : Holders) (used own : Used) (agent row page b : ℕ) → AreBlocks h used own → HasPage h.swap agent row page b → is_own own b ≡ true → IsMine used own h.swap agent row page b
own_mine h used own agent row page b are has owned = record {
  below = (are.pages agent row page b has).0;
  taken = (are.pages agent row page b has).1;
  owned = owned;
  only = λ k n j also.
      let p = are.alone b owned k n j agent row page also has in
      (p.0, p.1, are.apart agent row j page b (subst (λ (x : ℕ). HasPage h.swap agent x j b) p.1 (subst (λ (x : ℕ). HasPage h.swap x n j b) p.0 also)) has);
}

-- ---- the beginning

none_own : (n b : ℕ) → get_or (replicate n false) b false ≡ false
none_own zero b = refl
none_own (suc n) zero = refl
none_own (suc n) (suc b) = none_own n b

no_pages : (swap : Rows) → swap ≡ [] → (k n i b : ℕ) → HasPage swap k n i b → ⊥
no_pages swap none k n i b has = let absent : HasPage [] k n i b = subst (λ (rows : Rows). HasPage rows k n i b) none has in absurd cc

pub blocks_first : (h : Holders) (used : Used) → IsFirst h used → AreBlocks h used (replicate (length used) false)
blocks_first h used first = record {
  grounded = λ b g. ((first.grounded b g).0, (first.grounded b g).1, none_own (length used) b);
  inside = first.inside;
  held = first.held;
  once = first.once;
  pages = λ k n i b has. absurd (no_pages h.swap first.none k n i b has);
  apart = λ k n i j b has also. absurd (no_pages h.swap first.none k n i b has);
  alone = λ b owned k n i l m j has also. absurd (no_pages h.swap first.none k n i b has);
  together = λ k n i l m j b has also. absurd (no_pages h.swap first.none k n i b has);
  of_file = λ k n i b has g. absurd (no_pages h.swap first.none k n i b has);
  reserved = λ k n i b has out. absurd (no_pages h.swap first.none k n i b has);
  covered = λ k n i b stream has. absurd (no_pages h.swap first.none k n i b has);
}

-- ---- blocks that are no page's own any more

cut_same : (own : Used) (b : ℕ) → get_or (set own b false) b false ≡ false
cut_same [] b = refl
cut_same (x ∷ own) zero = refl
cut_same (x ∷ own) (suc b) = cut_same own b

cut_still : (xs : List ℕ) (own : Used) (b : ℕ) → get_or own b false ≡ false → get_or (marked false xs own) b false ≡ false
cut_still [] own b is = is
cut_still (x ∷ xs) own b is = cut_still xs (set own x false) b (elim (cases_eq b x) [
  | inl same ↦ ap (λ (n : ℕ). get_or (set own n false) b false) (sym same) ∙ cut_same own b
  | inr apart ↦ get_or-set_other own x b false false apart ∙ is
])

cut_here : (xs : List ℕ) (own : Used) (b : ℕ) → has_block xs b ≡ true → get_or (marked false xs own) b false ≡ false
cut_here [] own b is = absurd cc
cut_here (x ∷ xs) own b is = elim (cases_eq b x) [
  | inl same ↦ cut_still xs (set own x false) b (ap (λ (n : ℕ). get_or (set own n false) b false) (sym same) ∙ cut_same own b)
  | inr apart ↦ cut_here xs (set own x false) b (either (nat_eq b x) (has_block xs b) (not_true (nat_eq b x) (λ same. apart (eqb-true b x same))) is)
]

pub owned_less : (xs : List ℕ) (own : Used) (b : ℕ) → is_own (marked false xs own) b ≡ true → (is_own own b ≡ true) × (has_block xs b ≡ false)
owned_less xs own b owned =
    let out : has_block xs b ≡ false = not_true (has_block xs b) (λ t. both (is_own (marked false xs own) b) owned (cut_here xs own b t)) in
    (sym (marked_other false false xs own b out) ∙ owned, out)
