-- How the blocks stay right through all that happens.
use Rattle.std.proofs.Common.{◌≡◌, ℕ, ◌<◌, ◌⊎◌, Bool, true, false, Option, List, [], ◌∷◌, length, refl, sym, ap, subst, ◌∙◌, inl, inr, arith}
use Rattle.opfs_base.specs.Places.{Place}
use Rattle.opfs_blocks.specs.Sets.{Used}
use Rattle.opfs_data.specs.Pages.{AreOnce, NamesBlock}
use Rattle.opfs_data.specs.Writes.{PageWrite}
use Rattle.opfs_space.specs.Spaces.{is_own}
use Rattle.opfs_space.specs.Holders.{HasPage, Holders, AreBlocks, KeepsRow, HasFiles, HasFewer, Writes, IsMine, AreMine, HasLess, AreSwept}

pub both : (t : Bool) → t ≡ true → t ≡ false → ⊥
both true is not = absurd cc
both false is not = absurd cc

-- ---- rows dropped, opened without pages, kept more for; a put that failed

pub blocks_fewer : (old new : Holders) (used own : Used) → AreBlocks old used own → HasFiles old new → HasFewer old new → AreBlocks new used own
blocks_fewer old new used own are same fewer = record {
  grounded = λ b is. are.grounded b (sym (same.ground b) ∙ is);
  inside = λ b is. same.ground b ∙ are.inside b (sym (same.rows b) ∙ is);
  held = λ f b is. same.rows b ∙ are.held f b (sym (same.has f b) ∙ is);
  once = λ f g b is also. are.once f g b (sym (same.has f b) ∙ is) (sym (same.has g b) ∙ also);
  pages = λ k n i b is. are.pages k n i b (fewer k n i b is).0;
  apart = λ k n i j b is also. are.apart k n i j b (fewer k n i b is).0 (fewer k n j b also).0;
  alone = λ b owned k n i l m j is also. are.alone b owned k n i l m j (fewer k n i b is).0 (fewer l m j b also).0;
  together = λ k n i l m j b is also. (fewer k n i b is).1.file ∙ (are.together k n i l m j b (fewer k n i b is).0 (fewer l m j b also).0 ∙ sym (fewer l m j b also).1.file);
  of_file = λ k n i b is g.
      same.has (new.file k n) b ∙ (ap (λ (f : Option Place). old.has f b) (fewer k n i b is).1.file ∙ are.of_file k n i b (fewer k n i b is).0 (sym (same.ground b) ∙ g));
  reserved = λ k n i b is out. omega (arith, (fewer k n i b is).1.reserve, are.reserved k n i b (fewer k n i b is).0 (sym (same.rows b) ∙ out));
  covered = λ k n i b stream is. omega (arith, (fewer k n i b is).1.reserve, are.covered k n i b ((fewer k n i b is).1.streams stream) (fewer k n i b is).0);
}

-- ---- pages written

-- a page after a put: one from before, or one of the list
pub record IsPut (agent row : ℕ) (writes : List PageWrite) (k n i b : ℕ) : Type 0 where
  pub agent_is : k ≡ agent
  pub row_is : n ≡ row
  pub write : Writes writes i b

abbrev pub HasPut : Holders → Holders → ℕ → ℕ → List PageWrite → Type 0
HasPut old new agent row writes = (k n i b : ℕ) → HasPage new.swap k n i b → (HasPage old.swap k n i b × KeepsRow old new k n) ⊎ IsPut agent row writes k n i b

names_block : (writes : List PageWrite) (i b : ℕ) → Writes writes i b → NamesBlock writes b
names_block [] i b w = absurd w
names_block (x ∷ more) i b (inl here) = inl here.1
names_block (x ∷ more) i b (inr there) = inr (names_block more i b there)

names_at : (writes : List PageWrite) (b c : ℕ) → b ≡ c → NamesBlock writes b → NamesBlock writes c
names_at writes b c is names = subst (λ (x : ℕ). NamesBlock writes x) is names

one_page : (writes : List PageWrite) (i j b : ℕ) → AreOnce writes → Writes writes i b → Writes writes j b → i ≡ j
one_page [] i j b once w v = absurd w
one_page (x ∷ more) i j b once (inl w) (inl v) = sym w.0 ∙ v.0
one_page (x ∷ more) i j b once (inl w) (inr v) = absurd (once.1 (names_at more b x.block (sym w.1) (names_block more j b v)))
one_page (x ∷ more) i j b once (inr w) (inl v) = absurd (once.1 (names_at more b x.block (sym v.1) (names_block more i b w)))
one_page (x ∷ more) i j b once (inr w) (inr v) = one_page more i j b once.2 w v

module _ (old new : Holders) (used own : Used) (agent row : ℕ) (writes : List PageWrite)
    (are : AreBlocks old used own) (same : HasFiles old new) (put : HasPut old new agent row writes) (once : AreOnce writes)
    (mine : AreMine used own old.swap agent row (new.reserve agent row) writes) (file : new.file agent row ≡ old.file agent row) where
  at_mine : (k n i b : ℕ) → IsPut agent row writes k n i b → IsMine used own old.swap agent row i b × (i < new.reserve agent row)
  at_mine k n i b is = mine i b is.write

  put_apart : (k n i j b : ℕ) → HasPage new.swap k n i b → HasPage new.swap k n j b → i ≡ j
  put_apart k n i j b is also = elim (put k n i b is) [
    | inl was ↦ elim (put k n j b also) [
      | inl before ↦ are.apart k n i j b was.0 before.0
      | inr here ↦ ((at_mine k n j b here).0.only k n i was.0).2
    ]
    | inr here ↦ elim (put k n j b also) [
      | inl before ↦ sym ((at_mine k n i b here).0.only k n j before.0).2
      | inr there ↦ one_page writes i j b once here.write there.write
    ]
  ]

  put_alone : (b : ℕ) → is_own own b ≡ true → (k n i l m j : ℕ) → HasPage new.swap k n i b → HasPage new.swap l m j b → (k ≡ l) × (n ≡ m)
  put_alone b owned k n i l m j is also = elim (put k n i b is) [
    | inl was ↦ elim (put l m j b also) [
      | inl before ↦ are.alone b owned k n i l m j was.0 before.0
      | inr here ↦ let q = (at_mine l m j b here).0.only k n i was.0 in (q.0 ∙ sym here.agent_is, q.1 ∙ sym here.row_is)
    ]
    | inr here ↦ elim (put l m j b also) [
      | inl before ↦ let q = (at_mine k n i b here).0.only l m j before.0 in (here.agent_is ∙ sym q.0, here.row_is ∙ sym q.1)
      | inr there ↦ (here.agent_is ∙ sym there.agent_is, here.row_is ∙ sym there.row_is)
    ]
  ]

  at_row : (k n : ℕ) → k ≡ agent → n ≡ row → new.file k n ≡ new.file agent row
  at_row k n agent_is row_is = ap (λ (x : ℕ). new.file x n) agent_is ∙ ap (λ (x : ℕ). new.file agent x) row_is

  put_together : (k n i l m j b : ℕ) → HasPage new.swap k n i b → HasPage new.swap l m j b → new.file k n ≡ new.file l m
  put_together k n i l m j b is also = elim (put k n i b is) [
    | inl was ↦ elim (put l m j b also) [
      | inl before ↦ was.1.file ∙ (are.together k n i l m j b was.0 before.0 ∙ sym before.1.file)
      | inr here ↦ let q = (at_mine l m j b here).0.only k n i was.0 in at_row k n q.0 q.1 ∙ sym (at_row l m here.agent_is here.row_is)
    ]
    | inr here ↦ elim (put l m j b also) [
      | inl before ↦ let q = (at_mine k n i b here).0.only l m j before.0 in at_row k n here.agent_is here.row_is ∙ sym (at_row l m q.0 q.1)
      | inr there ↦ at_row k n here.agent_is here.row_is ∙ sym (at_row l m there.agent_is there.row_is)
    ]
  ]

  put_of_file : (k n i b : ℕ) → HasPage new.swap k n i b → new.ground b ≡ true → new.has (new.file k n) b ≡ true
  put_of_file k n i b is g = elim (put k n i b is) [
    | inl was ↦ same.has (new.file k n) b ∙ (ap (λ (f : Option Place). old.has f b) was.1.file ∙ are.of_file k n i b was.0 (sym (same.ground b) ∙ g))
    | inr here ↦ absurd (both (is_own own b) (at_mine k n i b here).0.owned (are.grounded b (sym (same.ground b) ∙ g)).2)
  ]

  row_reserve : (k n : ℕ) → k ≡ agent → n ≡ row → new.reserve k n ≡ new.reserve agent row
  row_reserve k n agent_is row_is = ap (λ (x : ℕ). new.reserve x n) agent_is ∙ ap (λ (x : ℕ). new.reserve agent x) row_is

  pub blocks_put : AreBlocks new used own
  blocks_put = record {
    grounded = λ b is. are.grounded b (sym (same.ground b) ∙ is);
    inside = λ b is. same.ground b ∙ are.inside b (sym (same.rows b) ∙ is);
    held = λ f b is. same.rows b ∙ are.held f b (sym (same.has f b) ∙ is);
    once = λ f g b is also. are.once f g b (sym (same.has f b) ∙ is) (sym (same.has g b) ∙ also);
    pages = λ k n i b is. elim (put k n i b is) [
      | inl was ↦ are.pages k n i b was.0
      | inr here ↦ ((at_mine k n i b here).0.below, (at_mine k n i b here).0.taken)
    ];
    apart = put_apart;
    alone = put_alone;
    together = put_together;
    of_file = put_of_file;
    reserved = λ k n i b is out. elim (put k n i b is) [
      | inl was ↦ omega (arith, was.1.reserve, are.reserved k n i b was.0 (sym (same.rows b) ∙ out))
      | inr here ↦ omega (arith, (at_mine k n i b here).1, row_reserve k n here.agent_is here.row_is)
    ];
    covered = λ k n i b stream is. elim (put k n i b is) [
      | inl was ↦ omega (arith, was.1.reserve, are.covered k n i b (was.1.streams stream) was.0)
      | inr here ↦ omega (arith, (at_mine k n i b here).1, row_reserve k n here.agent_is here.row_is)
    ];
  }

-- ---- a unit evicted, something removed, what is kept back committed

pub blocks_less : (old new : Holders) (used own : Used) → AreBlocks old used own → HasLess old new → HasFewer old new → AreBlocks new used own
blocks_less old new used own are less fewer = record {
  grounded = λ b is. are.grounded b (less.ground b is);
  inside = λ b is. (less.rows b is).1;
  held = λ f b is. (less.has f b is).1;
  once = λ f g b is also. are.once f g b (less.has f b is).0 (less.has g b also).0;
  pages = λ k n i b is. are.pages k n i b (fewer k n i b is).0;
  apart = λ k n i j b is also. are.apart k n i j b (fewer k n i b is).0 (fewer k n j b also).0;
  alone = λ b owned k n i l m j is also. are.alone b owned k n i l m j (fewer k n i b is).0 (fewer l m j b also).0;
  together = λ k n i l m j b is also. (fewer k n i b is).1.file ∙ (are.together k n i l m j b (fewer k n i b is).0 (fewer l m j b also).0 ∙ sym (fewer l m j b also).1.file);
  of_file = λ k n i b is g. less.stays k n i b is (are.of_file k n i b (fewer k n i b is).0 (less.ground b g));
  reserved = λ k n i b is out. still k n i b is out (old.rows b) refl;
  covered = λ k n i b stream is. omega (arith, (fewer k n i b is).1.reserve, are.covered k n i b ((fewer k n i b is).1.streams stream) (fewer k n i b is).0);
} where
  still : (k n i b : ℕ) → HasPage new.swap k n i b → new.rows b ≡ false → (t : Bool) → old.rows b ≡ t → i < new.reserve k n
  still k n i b is out true was =
      absurd (both (new.rows b) (less.has (new.file k n) b (less.stays k n i b is (are.of_file k n i b (fewer k n i b is).0 (are.inside b was)))).1 out)
  still k n i b is out false was = omega (arith, (fewer k n i b is).1.reserve, are.reserved k n i b (fewer k n i b is).0 was)

-- ---- looks and sweeps

module _ (h : Holders) (size : ℕ) (then own : Used) (swept : AreSwept size h.rows h.swap then own) where
  not_own : (used before : Used) → AreBlocks h used before → length used ≡ size → (b : ℕ) → h.ground b ≡ true → (t : Bool) → is_own own b ≡ t → is_own own b ≡ false
  not_own used before are is b g true owned =
      let p = swept.owned b owned in
      (swept.of_rows b (omega (arith, is, (are.grounded b g).0)) (are.held (h.file p.agent p.row) b (are.of_file p.agent p.row p.page b p.has g))).1
  not_own used before are is b g false owned = owned

  -- a look: the used blocks are as they were
  pub blocks_looked : (used before : Used) → AreBlocks h used before → length used ≡ size → AreBlocks h used own
  blocks_looked used before are is = record {
    grounded = λ b g. ((are.grounded b g).0, (are.grounded b g).1, not_own used before are is b g (is_own own b) refl);
    inside = are.inside;
    held = are.held;
    once = are.once;
    pages = are.pages;
    apart = are.apart;
    alone = swept.alone;
    together = are.together;
    of_file = are.of_file;
    reserved = are.reserved;
    covered = are.covered;
  }

  -- a sweep: with nothing kept back
  pub blocks_swept : (used before : Used) → AreBlocks h used before → length used ≡ size → ((b : ℕ) → h.ground b ≡ true → h.rows b ≡ true) → AreBlocks h then own
  blocks_swept used before are is none = record {
    grounded = λ b g.
        let lt : b < size = omega (arith, is, (are.grounded b g).0) in
        (omega (arith, swept.used_size, lt), (swept.of_rows b lt (none b g)).0, (swept.of_rows b lt (none b g)).1);
    inside = are.inside;
    held = are.held;
    once = are.once;
    pages = λ k n i b has.
        let lt : b < size = omega (arith, is, (are.pages k n i b has).0) in
        (omega (arith, swept.used_size, lt), swept.of_pages k n i b lt has);
    apart = are.apart;
    alone = swept.alone;
    together = are.together;
    of_file = are.of_file;
    reserved = are.reserved;
    covered = are.covered;
  }
