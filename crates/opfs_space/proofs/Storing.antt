-- How the blocks stay right when a row opens with its file's blocks, when a content is stored, and when free blocks are taken.
use Rattle.std.proofs.Common.{◌≡◌, ℕ, zero, suc, ◌<◌, ◌⊎◌, ◌||◌, nat_eq, Bool, true, false, Option, Some, None, List, [], ◌∷◌, length, slice_get, refl, sym, ap, ◌∙◌, inl, inr, arith}
use Rattle.std.proofs.lemmas.Bool.{eq-eqb}
use Rattle.opfs_base.specs.Places.{Place}
use Rattle.opfs_blocks.specs.Sets.{Used, is_used}
use Rattle.opfs_data.specs.declared.page.Page.{Page}
use Rattle.opfs_data.specs.Rows.{IsOther}
use Rattle.opfs_records.specs.Replay.Built.{has_block}
use Rattle.opfs_space.specs.Spaces.{is_own}
use Rattle.opfs_space.specs.Holders.{HasPage, Holders, AreBlocks, KeepsRow, HasFiles, IsOpened, IsStored}
use Rattle.opfs_space.proofs.Keeping.{both}

-- ---- a content is stored

module _ (old new : Holders) (agent row : ℕ) (blocks : List ℕ) (used own own_then : Used) (are : AreBlocks old used own) (is : IsStored old new agent row blocks)
    (less : (b : ℕ) → is_own own_then b ≡ true → (is_own own b ≡ true) × (has_block blocks b ≡ false)) where
  of_content : (b : ℕ) → has_block blocks b ≡ true → new.rows b ≡ true
  of_content b h = is.named (old.file agent row) b (is.here b h)

  not_own : (b : ℕ) → (t : Bool) → is_own own_then b ≡ t → (is_own own b ≡ true → has_block blocks b ≡ false → ⊥) → is_own own_then b ≡ false
  not_own b true owned never = absurd (never (less b owned).0 (less b owned).1)
  not_own b false owned never = owned

  old_grounded : (b : ℕ) (f : Option Place) → old.has f b ≡ true → (b < length used) × (is_used used b ≡ true) × (is_own own b ≡ false)
  old_grounded b f h = are.grounded b (are.inside b (are.held f b h))

  now_grounded : (b : ℕ) → new.ground b ≡ true → (b < length used) × (is_used used b ≡ true) × (is_own own_then b ≡ false)
  now_grounded b g =
      let f = is.after b (sym (is.recorded b) ∙ g) in
      elim (is.came f.0 b f.1) [
        | inl c ↦
            let page = is.of_row b c.1 in
            let p = are.pages agent row page.0 b page.1 in
            (p.0, p.1, not_own b (is_own own_then b) refl (λ _ out. both (has_block blocks b) c.1 out))
        | inr was ↦
            let q = old_grounded b f.0 was in
            (q.0, q.1, not_own b (is_own own_then b) refl (λ owned _. both (is_own own b) owned q.2))
      ]

  -- a block of the content that an old file has is that of the row's file
  of_old : (f : Option Place) (b : ℕ) → has_block blocks b ≡ true → old.has f b ≡ true → f ≡ old.file agent row
  of_old f b h was =
      let page = is.of_row b h in
      are.once f (old.file agent row) b was (are.of_file agent row page.0 b page.1 (are.inside b (are.held f b was)))

  now_once : (f g : Option Place) (b : ℕ) → new.has f b ≡ true → new.has g b ≡ true → f ≡ g
  now_once f g b h k = elim (is.came f b h) [
    | inl c ↦ elim (is.came g b k) [
      | inl d ↦ c.0 ∙ sym d.0
      | inr was ↦ c.0 ∙ sym (of_old g b c.1 was)
    ]
    | inr was ↦ elim (is.came g b k) [
      | inl d ↦ of_old f b d.1 was ∙ sym d.0
      | inr before ↦ are.once f g b was before
    ]
  ]

  file_of : (k n i b : ℕ) → HasPage new.swap k n i b → new.file k n ≡ old.file k n
  file_of k n i b has = elim (is.rest k n i b has).1 [ inl keeps ↦ keeps.0.file | inr flushed ↦ flushed.file ]

  now_of_file : (k n i b : ℕ) → HasPage new.swap k n i b → new.ground b ≡ true → new.has (new.file k n) b ≡ true
  now_of_file k n i b has g =
      let was = (is.rest k n i b has).0 in
      let f = is.after b (sym (is.recorded b) ∙ g) in
      let same = file_of k n i b has in
      elim (is.came f.0 b f.1) [
        | inl c ↦
            let page = is.of_row b c.1 in
            let e : new.file k n ≡ old.file agent row = same ∙ are.together k n i agent row page.0 b was page.1 in
            ap (λ (x : Option Place). new.has x b) e ∙ is.here b c.1
        | inr before ↦
            let e : new.file k n ≡ f.0 = same ∙ are.once (old.file k n) f.0 b (are.of_file k n i b was (are.inside b (are.held f.0 b before))) before in
            ap (λ (x : Option Place). new.has x b) e ∙ f.1
      ]

  -- a page of another row whose block no file has any more
  left_over : (k n i b : ℕ) → HasPage new.swap k n i b → KeepsRow old new k n → IsOther agent row k n → new.rows b ≡ false → (t : Bool) → old.rows b ≡ t → i < new.reserve k n
  left_over k n i b has keeps apart out true was =
      let page = (is.rest k n i b has).0 in
      let f = is.before b was in
      let mine = are.of_file k n i b page (are.inside b was) in
      elim (is.stays (old.file k n) b mine) [
        | inl same ↦ omega (arith, keeps.reserve, are.covered k n i b (is.others k n i b has same apart) page)
        | inr still ↦ absurd (both (new.rows b) (is.named (old.file k n) b still) out)
      ]
  left_over k n i b has keeps apart out false was = omega (arith, keeps.reserve, are.reserved k n i b (is.rest k n i b has).0 was)

  now_reserved : (k n i b : ℕ) → HasPage new.swap k n i b → new.rows b ≡ false → i < new.reserve k n
  now_reserved k n i b has out = elim (is.rest k n i b has).1 [
    | inr flushed ↦ absurd (both (new.rows b) (of_content b flushed.block) out)
    | inl keeps ↦ left_over k n i b has keeps.0 keeps.1 out (old.rows b) refl
  ]

  pub blocks_stored : AreBlocks new used own_then
  blocks_stored = record {
    grounded = now_grounded;
    inside = λ b r. is.recorded b ∙ r;
    held = is.named;
    once = now_once;
    pages = λ k n i b has. are.pages k n i b (is.rest k n i b has).0;
    apart = λ k n i j b has also. are.apart k n i j b (is.rest k n i b has).0 (is.rest k n j b also).0;
    alone = λ b owned k n i l m j has also. are.alone b (less b owned).0 k n i l m j (is.rest k n i b has).0 (is.rest l m j b also).0;
    together = λ k n i l m j b has also. file_of k n i b has ∙ (are.together k n i l m j b (is.rest k n i b has).0 (is.rest l m j b also).0 ∙ sym (file_of l m j b also));
    of_file = now_of_file;
    reserved = now_reserved;
    covered = λ k n i b stream has. elim (is.rest k n i b has).1 [
      | inl keeps ↦ omega (arith, keeps.0.reserve, are.covered k n i b (keeps.0.streams stream) (is.rest k n i b has).0)
      | inr flushed ↦ absurd (both (new.streams k n) stream flushed.handle)
    ];
  }

-- ---- a row is opened with its file's blocks

-- the pages of blocks, in order
abbrev pub page_with : ℕ → Page
page_with b = record { block = Some b; kept = None }

module _ (old new : Holders) (agent row : ℕ) (blocks : List ℕ) (used own : Used) (are : AreBlocks old used own) (same : HasFiles old new) (is : IsOpened old new agent row blocks)
    (once : (i j b : ℕ) → slice_get blocks i ≡ Some b → slice_get blocks j ≡ Some b → i ≡ j)
    (page : (k n i b : ℕ) → HasPage new.swap k n i b → (HasPage old.swap k n i b × KeepsRow old new k n × IsOther agent row k n) ⊎ ((k ≡ agent) × (n ≡ row) × (slice_get blocks i ≡ Some b))) where
  member : (i b : ℕ) (list : List ℕ) → slice_get list i ≡ Some b → has_block list b ≡ true
  member i b [] h = absurd cc
  member zero b (x ∷ xs) h = let same : b ≡ x = cc in ap (λ (t : Bool). t || has_block xs b) (eq-eqb b x same)
  member (suc i) b (x ∷ xs) h = either_true (nat_eq b x) (has_block xs b) (member i b xs h) where
    either_true : (s t : Bool) → t ≡ true → (s || t) ≡ true
    either_true true t h = refl
    either_true false t h = h

  within : (i b : ℕ) (list : List ℕ) → slice_get list i ≡ Some b → i < length list
  within i b [] h = absurd cc
  within zero b (x ∷ xs) h = omega arith
  within (suc i) b (x ∷ xs) h = let lt = within i b xs h in omega (arith, lt)

  in_file : (i b : ℕ) → slice_get blocks i ≡ Some b → old.has (new.file agent row) b ≡ true
  in_file i b h = is.has b (member i b blocks h)

  named : (i b : ℕ) → slice_get blocks i ≡ Some b → old.rows b ≡ true
  named i b h = are.held (new.file agent row) b (in_file i b h)

  ground : (i b : ℕ) → slice_get blocks i ≡ Some b → (b < length used) × (is_used used b ≡ true) × (is_own own b ≡ false)
  ground i b h = are.grounded b (are.inside b (named i b h))

  at_row : (k n : ℕ) → k ≡ agent → n ≡ row → new.file k n ≡ new.file agent row
  at_row k n agent_is row_is = ap (λ (x : ℕ). new.file x n) agent_is ∙ ap (λ (x : ℕ). new.file agent x) row_is

  row_reserve : (k n : ℕ) → k ≡ agent → n ≡ row → new.reserve k n ≡ new.reserve agent row
  row_reserve k n agent_is row_is = ap (λ (x : ℕ). new.reserve x n) agent_is ∙ ap (λ (x : ℕ). new.reserve agent x) row_is

  row_stream : (k n : ℕ) → k ≡ agent → n ≡ row → new.streams k n ≡ new.streams agent row
  row_stream k n agent_is row_is = ap (λ (x : ℕ). new.streams x n) agent_is ∙ ap (λ (x : ℕ). new.streams agent x) row_is

  -- an old page with a block of the file
  as_file : (k n i j b : ℕ) → HasPage old.swap k n i b → slice_get blocks j ≡ Some b → old.file k n ≡ new.file agent row
  as_file k n i j b has h = are.once (old.file k n) (new.file agent row) b (are.of_file k n i b has (are.inside b (named j b h))) (in_file j b h)

  open_apart : (k n i j b : ℕ) → HasPage new.swap k n i b → HasPage new.swap k n j b → i ≡ j
  open_apart k n i j b has also = elim (page k n i b has) [
    | inl was ↦ elim (page k n j b also) [
      | inl before ↦ are.apart k n i j b was.0 before.0
      | inr here ↦ absurd (was.2 (here.0, here.1))
    ]
    | inr here ↦ elim (page k n j b also) [
      | inl before ↦ absurd (before.2 (here.0, here.1))
      | inr there ↦ once i j b here.2 there.2
    ]
  ]

  open_alone : (b : ℕ) → is_own own b ≡ true → (k n i l m j : ℕ) → HasPage new.swap k n i b → HasPage new.swap l m j b → (k ≡ l) × (n ≡ m)
  open_alone b owned k n i l m j has also = elim (page k n i b has) [
    | inl was ↦ elim (page l m j b also) [
      | inl before ↦ are.alone b owned k n i l m j was.0 before.0
      | inr here ↦ absurd (both (is_own own b) owned (ground j b here.2).2)
    ]
    | inr here ↦ absurd (both (is_own own b) owned (ground i b here.2).2)
  ]

  open_together : (k n i l m j b : ℕ) → HasPage new.swap k n i b → HasPage new.swap l m j b → new.file k n ≡ new.file l m
  open_together k n i l m j b has also = elim (page k n i b has) [
    | inl was ↦ elim (page l m j b also) [
      | inl before ↦ was.1.file ∙ (are.together k n i l m j b was.0 before.0 ∙ sym before.1.file)
      | inr here ↦ was.1.file ∙ (as_file k n i j b was.0 here.2 ∙ sym (at_row l m here.0 here.1))
    ]
    | inr here ↦ elim (page l m j b also) [
      | inl before ↦ at_row k n here.0 here.1 ∙ (sym (as_file l m j i b before.0 here.2) ∙ sym before.1.file)
      | inr there ↦ at_row k n here.0 here.1 ∙ sym (at_row l m there.0 there.1)
    ]
  ]

  pub blocks_opened : AreBlocks new used own
  blocks_opened = record {
    grounded = λ b g. are.grounded b (sym (same.ground b) ∙ g);
    inside = λ b r. same.ground b ∙ are.inside b (sym (same.rows b) ∙ r);
    held = λ f b h. same.rows b ∙ are.held f b (sym (same.has f b) ∙ h);
    once = λ f g b h k. are.once f g b (sym (same.has f b) ∙ h) (sym (same.has g b) ∙ k);
    pages = λ k n i b has. elim (page k n i b has) [
      | inl was ↦ are.pages k n i b was.0
      | inr here ↦ ((ground i b here.2).0, (ground i b here.2).1)
    ];
    apart = open_apart;
    alone = open_alone;
    together = open_together;
    of_file = λ k n i b has g. elim (page k n i b has) [
      | inl was ↦ same.has (new.file k n) b ∙ (ap (λ (f : Option Place). old.has f b) was.1.file ∙ are.of_file k n i b was.0 (sym (same.ground b) ∙ g))
      | inr here ↦ same.has (new.file k n) b ∙ (ap (λ (f : Option Place). old.has f b) (at_row k n here.0 here.1) ∙ in_file i b here.2)
    ];
    reserved = λ k n i b has out. elim (page k n i b has) [
      | inl was ↦ omega (arith, was.1.reserve, are.reserved k n i b was.0 (sym (same.rows b) ∙ out))
      | inr here ↦ absurd (both (old.rows b) (named i b here.2) (sym (same.rows b) ∙ out))
    ];
    covered = λ k n i b stream has. elim (page k n i b has) [
      | inl was ↦ omega (arith, was.1.reserve, are.covered k n i b (was.1.streams stream) was.0)
      | inr here ↦ omega (arith, is.reserve (sym (row_stream k n here.0 here.1) ∙ stream), within i b blocks here.2, row_reserve k n here.0 here.1)
    ];
  }
