-- That a sweep leaves blocks enough where the machine has room.
use Rattle.std.proofs.Common.{◌≡◌, ℕ, zero, suc, ◌+◌, ◌<◌, ◌≤◌, ◌⊎◌, ◌++◌, ◌||◌, not, cond, nat_eq, nat_le, Bool, true, false, Option, List, [], ◌∷◌, length, map, filter, unwrap_or, refl, sym, ap, ◌∙◌, inl, inr, arith}
use Rattle.std.specs.List.{range_with_len, sum_by}
use Rattle.std.proofs.lemmas.Bool.{cases_eq, eq-eqb, leb-true}
use Rattle.std.proofs.lemmas.Cmp.{nat_eq_equiv}
use Rattle.std.proofs.lemmas.List.{length-map}
use Rattle.std.proofs.lemmas.List.Filters.{length-filter_both}
use Rattle.std.proofs.lemmas.List.FromFn.{length-range_with_len}
use Rattle.std.proofs.lemmas.Map.Made.{length-le_from_is_member}
use Rattle.opfs_blocks.specs.Sets.{Used, is_used, free_blocks}
use Rattle.opfs_data.specs.Rows.{page_at, IsOther}
use Rattle.opfs_machine.specs.Contents.{in_lengths}
use Rattle.opfs_machine.specs.Sums.{reserve_of, pool, fits_pool, all_own}
use Rattle.opfs_machine.specs.declared.own.Outline.{Outline}
use Rattle.opfs_machine.specs.declared.own.Outline.TheVariants as outline
use Rattle.opfs_records.specs.Replay.Built.{has_block, named}
use Rattle.opfs_space.specs.Spaces.{is_own}
use Rattle.opfs_space.specs.Holders.{HasPage, Holders, AreBlocks, HasLess, HasFewer, AreSwept}
use Rattle.opfs_space.specs.Room.{Machine, is_own_block, IsExact, AreMoves, IsOfMachine, HasRoom}
use Rattle.opfs_space.proofs.Counting.{enough}
use Rattle.opfs_space.proofs.Keeping.{both}
use Rattle.opfs_space.proofs.Placing.{Same, Apart, which, at_row}
use Rattle.opfs_space.proofs.Others.{member_left, member_right, block_at, all_blocks, others_have, others_fewer}
use Rattle.opfs_tree.specs.Rows.{Rows as Tree}

not_true : (t : Bool) → (t ≡ true → ⊥) → t ≡ false
not_true true never = absurd (never refl)
not_true false never = refl

true_or : (t : Bool) → (t ≡ false → ⊥) → t ≡ true
true_or true never = refl
true_or false never = absurd (never refl)

-- ---- numbers of a range that pass

filter_has : (f : ℕ → ℕ) (p : ℕ → Bool) (a n i b : ℕ) → a ≤ i → i < a + n → p i ≡ true → f i ≡ b → has_block (map f (filter p (range_with_len a n))) b ≡ true
filter_has f p a zero i b ge lt pass is = absurd (omega arith)
filter_has f p a (suc n) i b ge lt pass is =
    let rest = filter p (range_with_len (a + 1) n) in
    elim (cases_eq i a) [
      | inl here ↦
          let head : p a ≡ true = ap p (sym here) ∙ pass in
          ap (λ (s : Bool). has_block (map f (cond s (a ∷ rest) rest)) b) head ∙ ap (λ (s : Bool). s || has_block (map f rest) b) (eq-eqb b (f a) (sym is ∙ ap f here))
      | inr later ↦ either (p a) (filter_has f p (a + 1) n i b (omega arith) (omega arith) pass is)
    ] where
      either_true : (s t : Bool) → t ≡ true → (s || t) ≡ true
      either_true true t h = refl
      either_true false t h = h

      either : (s : Bool) → has_block (map f (filter p (range_with_len (a + 1) n))) b ≡ true
          → has_block (map f (cond s (a ∷ filter p (range_with_len (a + 1) n)) (filter p (range_with_len (a + 1) n)))) b ≡ true
      either true h = either_true (nat_eq b (f a)) (has_block (map f (filter p (range_with_len (a + 1) n))) b) h
      either false h = h

same_list : (xs : List ℕ) → map (λ x. x) xs ≡ xs
same_list [] = refl
same_list (x ∷ xs) = ap (λ ys. x ∷ ys) (same_list xs)

module _ (s : Machine) (h : Holders) (rows : Tree) (used planned then own : Used) (k n reserve need : ℕ) (moves : List ℕ)
    (are : AreBlocks h used planned) (of_machine : IsOfMachine s h rows) (swept : AreSwept s.limits.blocks h.rows h.swap then own)
    (room : HasRoom s k n reserve need) (exact : IsExact h planned k n) (moved : AreMoves planned h.swap k n reserve moves) where
  abbrev stays : ℕ → Bool
  stays i = is_own_block planned (page_at k n i h.swap).block

  abbrev own_pages : List ℕ
  own_pages = filter stays (range_with_len 0 reserve)

  abbrev mine : List ℕ
  mine = map (block_at h.swap k n) own_pages

  abbrev others : List ℕ
  others = all_blocks h.swap k n 1 s.agents

  kept_here : h.reserve k n ≡ reserve_of room.own
  kept_here = of_machine.reserve k n ∙ ap (λ (o : Option Outline). reserve_of (unwrap_or o outline.ClosedStream)) room.there

  in_others : (l m j b : ℕ) → IsOther k n l m → HasPage h.swap l m j b → h.rows b ≡ false → has_block others b ≡ true
  in_others l m j b other has out = others_have h.swap k n s.agents l m j b other (omega (arith, are.reserved l m j b has out, of_machine.reserve l m)) has

  own_stays : (i b : ℕ) → HasPage h.swap k n i b → is_own planned b ≡ true → stays i ≡ true
  own_stays i b has owned = ap (is_own_block planned) has ∙ owned

  in_mine : (i b : ℕ) → HasPage h.swap k n i b → h.rows b ≡ false → is_own planned b ≡ true → has_block mine b ≡ true
  in_mine i b has out owned =
      filter_has (block_at h.swap k n) stays 0 reserve i b (omega arith) (omega (arith, are.reserved k n i b has out, kept_here, room.grows)) (own_stays i b has owned)
      (ap (λ (o : Option ℕ). unwrap_or o 0) has)

  -- a page's block is of a file, of another row, or one of the row's own
  covered : (l m j b : ℕ) → HasPage h.swap l m j b → (has_block (named rows) b ≡ false) → (has_block others b ≡ false) → (has_block mine b ≡ false) → ⊥
  covered l m j b has no_file no_other no_own = elim (which k n l m) [
    | Apart other ↦ both (has_block others b) (in_others l m j b other has (of_machine.files b ∙ no_file)) no_other
    | Same agent_is row_is ↦
        let here = at_row h.swap k n l m j b agent_is row_is has in
        let out : h.rows b ≡ false = of_machine.files b ∙ no_file in
        both (has_block mine b) (in_mine j b here out (exact j b here out (λ l' m' j' other also. both (has_block others b) (in_others l' m' j' b other also out) no_other))) no_own
  ]

  all_named : (b : ℕ) → b < length then → is_used then b ≡ true → has_block (named rows ++ others ++ mine) b ≡ true
  all_named b lt is = elim (swept.only b (omega (arith, lt, swept.used_size)) is) [
    | inl file ↦ member_left (named rows ++ others) mine b (member_left (named rows) others b (sym (of_machine.files b) ∙ file))
    | inr page ↦ true_or (has_block (named rows ++ others ++ mine) b) (λ none. covered page.agent page.row page.page b page.has
        (not_true (has_block (named rows) b) (λ is'. both (has_block (named rows ++ others ++ mine) b) (member_left (named rows ++ others) mine b (member_left (named rows) others b is')) none))
        (not_true (has_block others b) (λ is'. both (has_block (named rows ++ others ++ mine) b) (member_left (named rows ++ others) mine b (member_right (named rows) others b is')) none))
        (not_true (has_block mine b) (λ is'. both (has_block (named rows ++ others ++ mine) b) (member_right (named rows ++ others) mine b is') none)))
  ]

  in_rest : (i : ℕ) → has_block moves i ≡ true → has_block (filter (λ j. not (stays j)) (range_with_len 0 reserve)) i ≡ true
  in_rest i is =
      let p = moved.moved i is in
      ap (λ (xs : List ℕ). has_block xs i) (sym (same_list (filter (λ j. not (stays j)) (range_with_len 0 reserve))))
      ∙ filter_has (λ x. x) (λ j. not (stays j)) 0 reserve i i (omega arith) (omega (arith, p.0)) (ap not p.1) refl

  all_fit : length moves + length mine ≤ reserve
  all_fit = omega (
    arith,
    length-le_from_is_member nat_eq_equiv moves (filter (λ j. not (stays j)) (range_with_len 0 reserve)) moved.once in_rest,
    length-filter_both stays (λ j. not (stays j)) (λ j. refl) (range_with_len 0 reserve),
    length-range_with_len 0 reserve,
    length-map own_pages (block_at h.swap k n),
  )

  fits_in : (need' : ℕ) → fits_pool in_lengths s need' ≡ true → (need' ≡ 0) ⊎ (pool in_lengths s + need' ≤ s.limits.blocks)
  fits_in need' is = elim (cases_eq need' 0) [
    | inl none ↦ inl none
    | inr some ↦ inr (le_from (pool in_lengths s + need') s.limits.blocks (first (nat_le need' 0) (nat_le (pool in_lengths s + need') s.limits.blocks) (not_true (nat_le need' 0) (λ t. some (omega (arith, le_from need' 0 t)))) is))
  ] where
    first : (a b : Bool) → a ≡ false → (a || b) ≡ true → b ≡ true
    first true b out is' = absurd cc
    first false b out is' = is'

    le_from : (a b : ℕ) → nat_le a b ≡ true → a ≤ b
    le_from a b t = leb-true a b t

  enough_room : length (named rows) + length others + reserve ≤ length then
  enough_room =
      let sums : pool in_lengths s ≡ length (named rows) + sum_by reserve_of (all_own s) = ap (λ (x : ℕ). x + sum_by reserve_of (all_own s)) (sym of_machine.blocks) in
      let fewer : length others + reserve_of room.own ≤ sum_by reserve_of (all_own s) = others_fewer h.swap s.agents k n room.own room.there in
      elim (fits_in need room.fits) [
        | inl none ↦ omega (arith, none, sums, fewer, room.within, room.needed, swept.used_size)
        | inr some ↦ omega (arith, some, sums, fewer, room.needed, swept.used_size)
      ]

  pub blocks_suffice : length moves ≤ length (free_blocks then)
  blocks_suffice = enough then (named rows) others mine moves reserve (record { all = all_named; room = enough_room; fits = all_fit })

-- ---- what a look knows stays exact

pub look_exact : (h : Holders) (used before own then : Used) → AreBlocks h used before → AreSwept (length used) h.rows h.swap then own → (k n : ℕ) → IsExact h own k n
look_exact h used before own then are swept k n i b has out nobody =
    swept.exact k n i b (are.pages k n i b has).0 has out (λ l m j also. elim (which k n l m) [
      | Apart other ↦ absurd (nobody l m j other also)
      | Same agent_is row_is ↦ (agent_is, row_is, are.apart k n j i b (at_row h.swap k n l m j b agent_is row_is also) has)
    ])

pub exact_stays : (old new : Holders) (used own : Used) → AreBlocks old used own → HasLess old new → HasFewer old new → ((l m j b : ℕ) → HasPage old.swap l m j b → HasPage new.swap l m j b)
    → (k n : ℕ) → IsExact old own k n → IsExact new own k n
exact_stays old new used own are less fewer same k n exact i b has out nobody =
    exact i b (fewer k n i b has).0 (by_rows (old.rows b) refl) (λ l m j other also. nobody l m j other (same l m j b also)) where
      by_rows : (t : Bool) → old.rows b ≡ t → old.rows b ≡ false
      by_rows true was =
          let file = are.of_file k n i b (fewer k n i b has).0 (are.inside b was) in
          absurd (both (new.rows b) (less.has (new.file k n) b (less.stays k n i b has file)).1 out)
      by_rows false was = was
