-- How often a block is among the pages of open rows.
use Rattle.std.proofs.Common.{◌≡◌, ℕ, zero, suc, ◌+◌, ◌-◌, ◌<◌, ◌≤◌, ◌⊎◌, ◌++◌, ◌||◌, nat_eq, cond, Bool, true, false, Option, Some, None, List, [], ◌∷◌, length, get_or, unwrap_or, refl, sym, ap, subst, ◌∙◌, inl, inr, arith}
use Rattle.std.proofs.lemmas.Bool.{cases_eq, eqb-true, eq-eqb}
use Rattle.std.specs.Ordering.{nat_cmp, is_eq}
use Rattle.std.specs.declared.cmp.Ordering.{Ordering}
use Rattle.std.specs.declared.cmp.Ordering.TheVariants.{Less, Equal, Greater}
use Rattle.std.specs.BTreeMap.{is_at}
use Rattle.std.specs.Map.{keys_of}
use Rattle.std.proofs.lemmas.Map.Keys.{sorted_tail}
use Rattle.std.proofs.lemmas.Map.Lookups.{exact_pairs, exact_unsigned}
use Rattle.opfs_blocks.specs.Sets.{is_used}
use Rattle.opfs_data.specs.declared.page.Page.{Page}
use Rattle.opfs_data.specs.Pages.{RowSeen, blank}
use Rattle.opfs_data.specs.Rows.{Rows, row_cmp, row_of, no_row, AreInOrder}
use Rattle.opfs_data.proofs.Behind.{none_twice, found_first}
use Rattle.opfs_records.specs.Replay.Built.{has_block}
use Rattle.opfs_space.specs.Spaces.{SpaceSeen, is_own, with_block, page_blocks, times, IsSwept}
use Rattle.opfs_space.specs.Holders.{HasPage, IsPaged, IsAlone, all_pages, AreSwept}
use Rattle.opfs_space.proofs.Keeping.{both}
use Rattle.opfs_space.proofs.Placing.{HasAt}
use Rattle.opfs_space.proofs.Sweeping.{one_time, no_time, not_true}

-- ---- the pages of one row

-- what a page adds
data Adds (o : Option ℕ) (rest : List ℕ) (b : ℕ) : Type 0 where
  One : o ≡ Some b → times (with_block o rest) b ≡ 1 + times rest b → Adds o rest b
  None_more : (o ≡ Some b → ⊥) → times (with_block o rest) b ≡ times rest b → Adds o rest b

adds : (o : Option ℕ) (rest : List ℕ) (b : ℕ) → Adds o rest b
adds None rest b = None_more (λ is. absurd cc) refl
adds (Some x) rest b = elim (cases_eq x b) [
  | inl same ↦ One (ap Some same) (one_time x b rest same)
  | inr apart ↦ None_more (λ is. apart cc) (no_time x b rest apart)
]

some_page : (ps : List Page) (b : ℕ) → 0 < times (page_blocks ps) b → (i : ℕ) × HasAt ps i b
some_page [] b some = absurd (omega arith)
some_page (p ∷ ps) b some = elim (adds p.block (page_blocks ps) b) [
  | One is count ↦ (0, is)
  | None_more never count ↦ let later = some_page ps b (omega (arith, some, count)) in (suc later.0, later.1)
]

page_counts : (ps : List Page) (i b : ℕ) → HasAt ps i b → 0 < times (page_blocks ps) b
page_counts [] i b has = absurd cc
page_counts (p ∷ ps) zero b has = elim (adds p.block (page_blocks ps) b) [
  | One is count ↦ omega (arith, count)
  | None_more never count ↦ absurd (never has)
]
page_counts (p ∷ ps) (suc i) b has = elim (adds p.block (page_blocks ps) b) [
  | One is count ↦ omega (arith, count)
  | None_more never count ↦ omega (arith, count, page_counts ps i b has)
]

one_page : (ps : List Page) (b : ℕ) → ((i j : ℕ) → HasAt ps i b → HasAt ps j b → i ≡ j) → times (page_blocks ps) b ≤ 1
one_page [] b one = omega arith
one_page (p ∷ ps) b one = elim (adds p.block (page_blocks ps) b) [
  | None_more never count ↦ omega (arith, count, one_page ps b (λ i j is also. let same : suc i ≡ suc j = one (suc i) (suc j) is also in cc))
  | One is count ↦ elim (cases_eq (times (page_blocks ps) b) 0) [
    | inl none ↦ omega (arith, count, none)
    | inr some ↦ let later = some_page ps b (omega (arith, some)) in let same : 0 ≡ suc later.0 = one 0 (suc later.0) is later.1 in absurd cc
  ]
]

-- ---- the pages of all rows

times_append : (xs ys : List ℕ) (b : ℕ) → times (xs ++ ys) b ≡ times xs b + times ys b
times_append [] ys b = omega arith
times_append (x ∷ xs) ys b = omega (arith, times_append xs ys b)

blocks_append : (ps qs : List Page) → page_blocks (ps ++ qs) ≡ page_blocks ps ++ page_blocks qs
blocks_append [] qs = refl
blocks_append (p ∷ ps) qs = ap (with_block p.block) (blocks_append ps qs) ∙ moved p.block (page_blocks ps) (page_blocks qs) where
  moved : (o : Option ℕ) (xs ys : List ℕ) → with_block o (xs ++ ys) ≡ with_block o xs ++ ys
  moved None xs ys = refl
  moved (Some x) xs ys = refl

abbrev count_in : List Page → ℕ → ℕ
count_in ps b = times (page_blocks ps) b

all_times : (e : (ℕ × ℕ) × RowSeen) (es : Rows) (b : ℕ) → count_in (all_pages (e ∷ es)) b ≡ count_in e.1.pages b + count_in (all_pages es) b
all_times e es b = ap (λ xs. times xs b) (blocks_append e.1.pages (all_pages es)) ∙ times_append (page_blocks e.1.pages) (page_blocks (all_pages es)) b

-- a page of rows is one of the first row, or of the others
record IsFirst (e : (ℕ × ℕ) × RowSeen) (k n i b : ℕ) : Type 0 where
  agent_is : k ≡ e.0.0
  row_is : n ≡ e.0.1
  has : HasAt e.1.pages i b

equal : (o : Ordering) → is_eq o ≡ true → o ≡ Equal
equal Less h = absurd cc
equal Equal h = refl
equal Greater h = absurd cc

same_key : (k n : ℕ) (key : ℕ × ℕ) → is_at (row_cmp (k, n)) key ≡ true → (k ≡ key.0) × (n ≡ key.1)
same_key k n key h =
    let same : (k, n) ≡ key = exact_pairs nat_cmp nat_cmp exact_unsigned exact_unsigned (k, n) key (equal (row_cmp (k, n) key) h) in
    (ap (λ (p : ℕ × ℕ). p.0) same, ap (λ (p : ℕ × ℕ). p.1) same)

-- the page of a row that was found or not
abbrev page_in : Option RowSeen → ℕ → ℕ → Type 0
page_in o i b = HasAt (unwrap_or o no_row).pages i b

in_rows : (e : (ℕ × ℕ) × RowSeen) (es : Rows) (k n i b : ℕ) → HasPage (e ∷ es) k n i b → IsFirst e k n i b ⊎ HasPage es k n i b
in_rows e es k n i b has =
    elim (is_at (row_cmp (k, n)) e.0) as (λ t. is_at (row_cmp (k, n)) e.0 ≡ t → page_in (cond t (Some e.1) (row_of k n es)) i b → IsFirst e k n i b ⊎ HasPage es k n i b) [
      | true ↦ λ is at. let key = same_key k n e.0 is in inl (record { agent_is = key.0; row_is = key.1; has = at })
      | false ↦ λ is at. inr at
    ] refl has

first_page : (e : (ℕ × ℕ) × RowSeen) (es : Rows) (i b : ℕ) → HasAt e.1.pages i b → HasPage (e ∷ es) e.0.0 e.0.1 i b
first_page e es i b has = ap (λ (o : Option RowSeen). (get_or (unwrap_or o no_row).pages i blank).block) (found_first e es) ∙ has

not_twice : (e : (ℕ × ℕ) × RowSeen) (es : Rows) (k n i b : ℕ) → AreInOrder (e ∷ es) → HasPage es k n i b → (k ≡ e.0.0) × (n ≡ e.0.1) → ⊥
not_twice e es k n i b order has same =
    let here : HasPage es e.0.0 e.0.1 i b = subst (λ (x : ℕ). HasPage es e.0.0 x i b) same.1 (subst (λ (x : ℕ). HasPage es x n i b) same.0 has) in
    let absent : page_in None i b = subst (λ (o : Option RowSeen). page_in o i b) (none_twice e es order) here in
    absurd cc

later_page : (e : (ℕ × ℕ) × RowSeen) (es : Rows) (k n i b : ℕ) → AreInOrder (e ∷ es) → HasPage es k n i b → HasPage (e ∷ es) k n i b
later_page e es k n i b order has =
    elim (is_at (row_cmp (k, n)) e.0) as (λ t. is_at (row_cmp (k, n)) e.0 ≡ t → page_in (cond t (Some e.1) (row_of k n es)) i b) [
      | true ↦ λ is. absurd (not_twice e es k n i b order has (same_key k n e.0 is))
      | false ↦ λ is. has
    ] refl

tail_order : (e : (ℕ × ℕ) × RowSeen) (es : Rows) → AreInOrder (e ∷ es) → AreInOrder es
tail_order e es order = sorted_tail row_cmp e.0 (keys_of es) order

some_paged : (swap : Rows) (b : ℕ) → AreInOrder swap → 0 < count_in (all_pages swap) b → IsPaged swap b
some_paged [] b order some = absurd (omega arith)
some_paged (e ∷ es) b order some = elim (cases_eq (count_in e.1.pages b) 0) [
  | inr here ↦ let page = some_page e.1.pages b (omega (arith, here)) in record { agent = e.0.0; row = e.0.1; page = page.0; has = first_page e es page.0 b page.1 }
  | inl none ↦
      let p = some_paged es b (tail_order e es order) (omega (arith, some, none, all_times e es b)) in
      record { agent = p.agent; row = p.row; page = p.page; has = later_page e es p.agent p.row p.page b order p.has }
]

paged_counts : (swap : Rows) (k n i b : ℕ) → HasPage swap k n i b → 0 < count_in (all_pages swap) b
paged_counts [] k n i b has = absurd cc
paged_counts (e ∷ es) k n i b has = elim (in_rows e es k n i b has) [
  | inl first ↦ omega (arith, page_counts e.1.pages i b first.has, all_times e es b)
  | inr later ↦ omega (arith, paged_counts es k n i b later, all_times e es b)
]

one_row : (swap : Rows) (b k n i l m j : ℕ) → count_in (all_pages swap) b ≡ 1 → HasPage swap k n i b → HasPage swap l m j b → (k ≡ l) × (n ≡ m)
one_row [] b k n i l m j one has also = absurd cc
one_row (e ∷ es) b k n i l m j one has also = elim (in_rows e es k n i b has) [
  | inl first ↦ elim (in_rows e es l m j b also) [
    | inl second ↦ (first.agent_is ∙ sym second.agent_is, first.row_is ∙ sym second.row_is)
    | inr later ↦ absurd (omega (arith, one, page_counts e.1.pages i b first.has, paged_counts es l m j b later, all_times e es b))
  ]
  | inr later ↦ elim (in_rows e es l m j b also) [
    | inl second ↦ absurd (omega (arith, one, page_counts e.1.pages j b second.has, paged_counts es k n i b later, all_times e es b))
    | inr last ↦ one_row es b k n i l m j (omega (arith, one, paged_counts es k n i b later, all_times e es b)) later last
  ]
]

-- all pages with a block are the same
abbrev AreOne : Rows → ℕ → Type 0
AreOne swap b = (k n i l m j : ℕ) → HasPage swap k n i b → HasPage swap l m j b → (k ≡ l) × (n ≡ m) × (i ≡ j)

at_most_one : (swap : Rows) (b : ℕ) → AreInOrder swap → AreOne swap b → count_in (all_pages swap) b ≤ 1
at_most_one [] b order one = omega arith
at_most_one (e ∷ es) b order one = elim (cases_eq (count_in e.1.pages b) 0) [
  | inl none ↦ omega (arith, none, all_times e es b, at_most_one es b (tail_order e es order) (λ k n i l m j has also. one k n i l m j (later_page e es k n i b order has) (later_page e es l m j b order also)))
  | inr here ↦
      let first = some_page e.1.pages b (omega (arith, here)) in
      let own : count_in e.1.pages b ≤ 1 = one_page e.1.pages b (λ i j has also. (one e.0.0 e.0.1 i e.0.0 e.0.1 j (first_page e es i b has) (first_page e es j b also)).2) in
      elim (cases_eq (count_in (all_pages es) b) 0) [
        | inl none ↦ omega (arith, none, own, all_times e es b)
        | inr some ↦
            let p = some_paged es b (tail_order e es order) (omega (arith, some)) in
            let same = one p.agent p.row p.page e.0.0 e.0.1 first.0 (later_page e es p.agent p.row p.page b order p.has) (first_page e es first.0 b first.1) in
            absurd (not_twice e es p.agent p.row p.page b order p.has (same.0, same.1))
      ]
]

-- ---- files

member_counts : (xs : List ℕ) (b : ℕ) → has_block xs b ≡ true → 0 < times xs b
member_counts [] b is = absurd cc
member_counts (x ∷ xs) b is = elim (cases_eq x b) [
  | inl same ↦ omega (arith, one_time x b xs same)
  | inr apart ↦ omega (arith, no_time x b xs apart, member_counts xs b (either (nat_eq b x) (has_block xs b) (not_true (nat_eq b x) (λ same. apart (sym (eqb-true b x same)))) is))
] where
  either : (s t : Bool) → s ≡ false → (s || t) ≡ true → t ≡ true
  either true t out is = absurd cc
  either false t out is = is

counts_member : (xs : List ℕ) (b : ℕ) → 0 < times xs b → has_block xs b ≡ true
counts_member [] b some = absurd (omega arith)
counts_member (x ∷ xs) b some = elim (cases_eq x b) [
  | inl same ↦ ap (λ (s : Bool). s || has_block xs b) (eq-eqb b x (sym same))
  | inr apart ↦ either_true (nat_eq b x) (has_block xs b) (counts_member xs b (omega (arith, some, no_time x b xs apart)))
] where
  either_true : (s t : Bool) → t ≡ true → (s || t) ≡ true
  either_true true t is = refl
  either_true false t is = is

-- ---- both

past_own : (own : List Bool) (b : ℕ) → length own ≤ b → is_own own b ≡ false
past_own [] b past = refl
past_own (x ∷ own) zero past = absurd (omega arith)
past_own (x ∷ own) (suc b) past = past_own own b (omega (arith, past))

module _ (size : ℕ) (files : List ℕ) (swap : Rows) (space : SpaceSeen) (order : AreInOrder swap) (seen_size : length space.seen ≡ size) (own_size : length space.own ≡ size)
    (is : IsSwept size files (all_pages swap) space) where
  own_below : (b : ℕ) → is_own space.own b ≡ true → b < size
  own_below b owned = below (cases_eq (size - b) 0) where
    below : (size - b ≡ 0) ⊎ (size - b ≡ 0 → ⊥) → b < size
    below (inl past) = absurd (both (is_own space.own b) owned (past_own space.own b (omega (arith, past, own_size))))
    below (inr under) = omega (arith, under)

  own_one : (b : ℕ) → is_own space.own b ≡ true → (times files b ≡ 0) × (count_in (all_pages swap) b ≡ 1)
  own_one b owned = elim (cases_eq (times files b) 0) [
    | inr some ↦ absurd (both (is_own space.own b) owned (is.shared b (own_below b owned) (λ none one. some none)))
    | inl none ↦ elim (cases_eq (count_in (all_pages swap) b) 1) [
      | inr other ↦ absurd (both (is_own space.own b) owned (is.shared b (own_below b owned) (λ out one. other one)))
      | inl one ↦ (none, one)
    ]
  ]

  has_some : (b : ℕ) → b < size → is_used space.seen b ≡ true → (has_block files b ≡ true) ⊎ IsPaged swap b
  has_some b lt used = elim (cases_eq (times files b) 0) [
    | inr some ↦ inl (counts_member files b (omega (arith, some)))
    | inl none ↦ elim (cases_eq (count_in (all_pages swap) b) 0) [
      | inl out ↦ absurd (both (is_used space.seen b) used (is.free b lt (omega (arith, none, out))))
      | inr some ↦ inr (some_paged swap b order (omega (arith, some)))
    ]
  ]

  not_in_files : (b : ℕ) → has_block files b ≡ false → times files b ≡ 0
  not_in_files b out = elim (cases_eq (times files b) 0) [
    | inl none ↦ none
    | inr some ↦ absurd (both (has_block files b) (counts_member files b (omega (arith, some))) out)
  ]

  alone_one : (k n i b : ℕ) → HasPage swap k n i b → IsAlone swap k n i b → count_in (all_pages swap) b ≡ 1
  alone_one k n i b has alone = omega (
    arith,
    paged_counts swap k n i b has,
    at_most_one swap b order (λ k' n' i' l m j is' also.
        let p = alone k' n' i' is' in let q = alone l m j also in (p.0 ∙ sym q.0, p.1 ∙ sym q.1, p.2 ∙ sym q.2)),
  )

  pub are_swept : AreSwept size (has_block files) swap space.seen space.own
  are_swept = record {
    used_size = seen_size;
    only = has_some;
    of_rows = λ b lt in_file.
        let count = member_counts files b in_file in
        (is.used b lt (omega (arith, count)), is.shared b lt (λ none one. absurd (omega (arith, count, none))));
    of_pages = λ k n i b lt has. is.used b lt (omega (arith, paged_counts swap k n i b has));
    owned = λ b owned. let one = own_one b owned in some_paged swap b order (omega (arith, one.1));
    alone = λ b owned k n i l m j has also. one_row swap b k n i l m j (own_one b owned).1 has also;
    exact = λ k n i b lt has out alone. is.own b lt (not_in_files b out) (alone_one k n i b has alone);
  }
