-- What a sweep finds, block by block.
use Rattle.std.proofs.Common.{◌≡◌, ℕ, ◌+◌, ◌<◌, ◌≤◌, nat_eq, not, cond, Bool, true, false, Option, Some, None, List, [], ◌∷◌, length, get_or, set, replicate, refl, sym, ap, subst, ◌∙◌, inl, inr, arith}
use Rattle.std.proofs.lemmas.Bool.{cases_eq, eqb-true, eq-eqb}
use Rattle.std.proofs.lemmas.List.{length-set, get_or-set_same, get_or-set_other, get_or-replicate, length-replicate}
use Rattle.opfs_blocks.specs.Sets.{Used, is_used, marked}
use Rattle.opfs_data.specs.declared.page.Page.{Page}
use Rattle.opfs_space.specs.Spaces.{SpaceSeen, is_own, block_seen, pages_seen, with_block, page_blocks, times, files_seen, IsSwept}

pub not_true : (t : Bool) → (t ≡ true → ⊥) → t ≡ false
not_true true never = absurd (never refl)
not_true false never = refl

pub one_time : (x b : ℕ) (xs : List ℕ) → x ≡ b → times (x ∷ xs) b ≡ 1 + times xs b
one_time x b xs same = ap (λ (t : Bool). cond t 1 0 + times xs b) (eq-eqb x b same)

pub no_time : (x b : ℕ) (xs : List ℕ) → (x ≡ b → ⊥) → times (x ∷ xs) b ≡ times xs b
no_time x b xs apart =
    let e : 0 + times xs b ≡ times xs b = omega arith in
    ap (λ (t : Bool). cond t 1 0 + times xs b) (not_true (nat_eq x b) (λ t. apart (eqb-true x b t))) ∙ e

set_here : (used : Used) (x b : ℕ) (t d : Bool) → x ≡ b → b < length used → get_or (set used x t) b d ≡ t
set_here used x b t d same lt = ap (λ (n : ℕ). get_or (set used n t) b d) same ∙ get_or-set_same used b t d lt

set_there : (used : Used) (x b : ℕ) (t d : Bool) → (x ≡ b → ⊥) → get_or (set used x t) b d ≡ get_or used b d
set_there used x b t d apart = get_or-set_other used x b t d (λ same. apart (sym same))

-- ---- files

pub marked_length : (xs : List ℕ) (used : Used) → length (marked true xs used) ≡ length used
marked_length [] used = refl
marked_length (x ∷ xs) used = marked_length xs (set used x true) ∙ length-set used x true

marked_none : (xs : List ℕ) (used : Used) (b : ℕ) → times xs b ≡ 0 → get_or (marked true xs used) b true ≡ get_or used b true
marked_none [] used b none = refl
marked_none (x ∷ xs) used b none = elim (cases_eq x b) [
  | inl same ↦ absurd (omega (arith, one_time x b xs same))
  | inr apart ↦ marked_none xs (set used x true) b (omega (arith, no_time x b xs apart)) ∙ set_there used x b true true apart
]

marked_kept : (xs : List ℕ) (used : Used) (b : ℕ) → b < length used → get_or used b true ≡ true → get_or (marked true xs used) b true ≡ true
marked_kept [] used b lt is = is
marked_kept (x ∷ xs) used b lt is = elim (cases_eq x b) [
  | inl same ↦ marked_kept xs (set used x true) b (omega (arith, length-set used x true)) (set_here used x b true true same lt)
  | inr apart ↦ marked_kept xs (set used x true) b (omega (arith, length-set used x true)) (set_there used x b true true apart ∙ is)
]

marked_some : (xs : List ℕ) (used : Used) (b : ℕ) → b < length used → 0 < times xs b → get_or (marked true xs used) b true ≡ true
marked_some [] used b lt some = absurd (omega arith)
marked_some (x ∷ xs) used b lt some = elim (cases_eq x b) [
  | inl same ↦ marked_kept xs (set used x true) b (omega (arith, length-set used x true)) (set_here used x b true true same lt)
  | inr apart ↦ marked_some xs (set used x true) b (omega (arith, length-set used x true)) (omega (arith, no_time x b xs apart))
]

-- ---- pages

record IsFound (b n : ℕ) (old new : SpaceSeen) : Type 0 where
  none : n ≡ 0 → (is_used new.seen b ≡ is_used old.seen b) × (is_own new.own b ≡ is_own old.own b)
  one : n ≡ 1 → (is_used new.seen b ≡ true) × (is_own new.own b ≡ not (is_used old.seen b))
  more : 2 ≤ n → (is_used new.seen b ≡ true) × (is_own new.own b ≡ false)

found_here : (b n : ℕ) (old mid new : SpaceSeen) → is_used mid.seen b ≡ true → is_own mid.own b ≡ not (is_used old.seen b) → IsFound b n mid new → IsFound b (1 + n) old new
found_here b n old mid new seen own is = record {
  none = λ no. absurd (omega arith);
  one = λ one. let both = is.none (omega arith) in (both.0 ∙ seen, both.1 ∙ own);
  more = λ two. elim (cases_eq n 1) [
    | inl one ↦ let both = is.one one in (both.0, both.1 ∙ ap not seen)
    | inr other ↦ is.more (omega arith)
  ];
}

found_there : (b n : ℕ) (old mid new : SpaceSeen) → is_used mid.seen b ≡ is_used old.seen b → is_own mid.own b ≡ is_own old.own b → IsFound b n mid new → IsFound b n old new
found_there b n old mid new seen own is = record {
  none = λ no. let both = is.none no in (both.0 ∙ seen, both.1 ∙ own);
  one = λ one. let both = is.one one in (both.0, both.1 ∙ ap not seen);
  more = is.more;
}

found_next : (block : Option ℕ) (rest : List ℕ) (b : ℕ) (space new : SpaceSeen) → b < length space.own → b < length space.seen
    → IsFound b (times rest b) (block_seen block space) new → IsFound b (times (with_block block rest) b) space new
found_next None rest b space new own seen is = is
found_next (Some x) rest b space new own seen is =
    let mid = block_seen (Some x) space in
    elim (cases_eq x b) [
      | inl same ↦
          subst (λ (n : ℕ). IsFound b n space new) (sym (one_time x b rest same))
          (found_here b (times rest b) space mid new (set_here space.seen x b true true same seen)
          (set_here space.own x b (not (is_used space.seen x)) false same own ∙ ap (λ (n : ℕ). not (is_used space.seen n)) same) is)
      | inr apart ↦
          subst (λ (n : ℕ). IsFound b n space new) (sym (no_time x b rest apart))
          (found_there b (times rest b) space mid new (set_there space.seen x b true true apart) (set_there space.own x b (not (is_used space.seen x)) false apart) is)
    ]

pub own_length : (block : Option ℕ) (space : SpaceSeen) → length (block_seen block space).own ≡ length space.own
own_length None space = refl
own_length (Some x) space = length-set space.own x (not (is_used space.seen x))

pub seen_length : (block : Option ℕ) (space : SpaceSeen) → length (block_seen block space).seen ≡ length space.seen
seen_length None space = refl
seen_length (Some x) space = length-set space.seen x true

found_all : (pages : List Page) (b : ℕ) (space : SpaceSeen) → b < length space.own → b < length space.seen → IsFound b (times (page_blocks pages) b) space (pages_seen pages space)
found_all [] b space own seen = record { none = λ no. (refl, refl); one = λ one. absurd (omega arith); more = λ two. absurd (omega arith) }
found_all (page ∷ pages) b space own seen =
    found_next page.block (page_blocks pages) b space (pages_seen pages (block_seen page.block space)) own seen
    (found_all pages b (block_seen page.block space) (omega (arith, own_length page.block space)) (omega (arith, seen_length page.block space)))

-- ---- both

begun : (size b : ℕ) → b < size → get_or (replicate size false) b true ≡ false
begun size b lt = get_or-replicate size b false true lt

pub swept : (size : ℕ) (files : List ℕ) (pages : List Page) (space : SpaceSeen) → IsSwept size files pages (pages_seen pages (files_seen size files space))
swept size files pages space =
    let start = files_seen size files space in
    let seen_size : length start.seen ≡ size = marked_length files (replicate size false) ∙ length-replicate {A = Bool} size false in
    let own_size : length start.own ≡ size = length-replicate {A = Bool} size false in
    let found : (b : ℕ) → b < size → IsFound b (times (page_blocks pages) b) start (pages_seen pages start) = λ b lt. found_all pages b start (omega arith) (omega arith) in
    let file_none : (b : ℕ) → b < size → times files b ≡ 0 → is_used start.seen b ≡ false = λ b lt none. marked_none files (replicate size false) b none ∙ begun size b lt in
    let file_some : (b : ℕ) → b < size → 0 < times files b → is_used start.seen b ≡ true = λ b lt some. marked_some files (replicate size false) b (omega (arith, length-replicate {A = Bool} size false)) some in
    record {
      used = λ b lt some.
          let is = found b lt in
          elim (cases_eq (times (page_blocks pages) b) 0) [
            | inl none ↦ (is.none none).0 ∙ file_some b lt (omega arith)
            | inr any ↦ elim (cases_eq (times (page_blocks pages) b) 1) [ inl one ↦ (is.one one).0 | inr two ↦ (is.more (omega arith)).0 ]
          ];
      free = λ b lt none. let is = found b lt in (is.none (omega arith)).0 ∙ file_none b lt (omega arith);
      own = λ b lt file one. let is = found b lt in (is.one one).1 ∙ ap not (file_none b lt file);
      shared = λ b lt other.
          let is = found b lt in
          elim (cases_eq (times (page_blocks pages) b) 0) [
            | inl none ↦ (is.none none).1 ∙ get_or-replicate size b false false lt
            | inr any ↦ elim (cases_eq (times (page_blocks pages) b) 1) [
              | inl one ↦ (is.one one).1 ∙ ap not (file_some b lt (elim (cases_eq (times files b) 0) [ inl none ↦ absurd (other none one) | inr file ↦ omega arith ]))
              | inr two ↦ (is.more (omega arith)).1
            ]
          ];
    }
