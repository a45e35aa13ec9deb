-- Pages that were staged one after another.
use Rattle.std.proofs.Common.{◌≡◌, ◌⊎◌, ℕ, zero, suc, ◌+◌, ◌-◌, ◌<◌, ◌≤◌, min, max, nat_eq, Bool, true, false, Option, Some, None, List, [], ◌∷◌, ◌++◌, length, map, get_or, unwrap_or, option_map, refl, sym, ap, subst, ◌∙◌, inl, inr, arith}
use Rattle.std.specs.List.{AllByRecursion, IsDistinct}
use Rattle.std.proofs.lemmas.Bool.{cases_lt, eqb-true}
use Rattle.opfs_base.specs.Blocks.{blocks}
use Rattle.opfs_data.specs.Pages.{NamesPage, blank, is_plain, page_of}
use Rattle.opfs_data.specs.Rows.{pages_at, page_at as swap_page}
use Rattle.opfs_data.specs.Writes.{PageWrite, WriteList, Run, HasBytes, page_writes, page_moves, run_pages, writes_of}
use Rattle.opfs_space.specs.Holders.{Writes}
use Rattle.opfs_space.specs.Plans.{own_block, AreAlike}
use Rattle.opfs_data.specs.declared.page.Page.{Page as Stored}
use Rattle.opfs_work.specs.declared.pages.Page.{Page}
use Rattle.opfs_work.specs.declared.pages.Page.TheVariants.{Zero, Near, Clean, Far}
use Rattle.opfs_work.specs.Pages.{page_at, is_far, is_held}
use Rattle.opfs_work.specs.Works.{WorkingCopy, IsStored}
use Rattle.opfs_pages.specs.Copies.{IsCopy, AreHeld, IsHeld, IsNamed, IsRight, AreRight, HasMore}
use Rattle.opfs_pages.specs.Stages.{Stage, Stages, IsPlanned, IsAtRest, IsUnwritten, IsWhole, IsStaged, changed}
use Rattle.opfs_pages.proofs.Named.{names_left, names_right, names_run}

-- ---- nothing, one after another, a page that is at rest

pub stages_more : (tells : Type 0) (s : Stage) (from mid to : ℕ) (w v u : WriteList) → Stages tells s from mid w v → Stages tells s mid to v u → Stages tells s from to w u
stages_more tells s from mid to w v u first second = record {
  right = λ told bytes copy held is. second.right told bytes copy held (first.right told bytes copy held is);
  bytes = λ is. second.bytes (first.bytes is);
  named = λ i is. second.named i (first.named i is);
  known = λ i above below. elim (cases_lt i mid) [
    | inl early ↦ elim (first.known i above early) [ inl named ↦ inl (second.named i named) | inr rest ↦ inr rest ]
    | inr late ↦ second.known i late below
  ];
  planned = λ is. second.planned (first.planned is);
}

-- the same of a call that reads nothing
pub stages_any : (tells : Type 0) (s : Stage) (from to : ℕ) (w v : WriteList) → Stages (Unit {0}) s from to w v → Stages tells s from to w v
stages_any tells s from to w v is = record { right = λ told. is.right tt; bytes = is.bytes; named = is.named; known = is.known; planned = is.planned }

-- the same over a disk that was only read since
pub stages_read : (tells : Type 0) (s : Stage) (content : List ℕ) (from to : ℕ) (w v : WriteList) → (tells → content ≡ s.content) → Stages tells (record s { content = content }) from to w v → Stages tells s from to w v
stages_read tells s content from to w v same is = record {
  right = λ told bytes copy held.
      is.right told bytes copy (subst (λ (c : List ℕ). AreHeld bytes s.work c s.base (pages_at s.agent s.row s.swap)) (sym (same told)) held);
  bytes = is.bytes;
  named = is.named;
  known = λ i above below. elim (is.known i above below) [
    | inl named ↦ inl named
    | inr rest ↦ inr (record { stored = rest.stored; spared = record { unwritten = rest.spared.unwritten; whole = rest.spared.whole }; block = rest.block })
  ];
  planned = λ p. let q = is.planned (record { blocks = p.blocks; none = p.none; stay_once = p.stay_once; move_once = p.move_once; within = p.within }) in
      record { blocks = q.blocks; none = q.none; stay_once = q.stay_once; move_once = q.move_once; within = q.within };
}

-- pages that are at rest
pub stages_rest : (tells : Type 0) (s : Stage) (from to : ℕ) (w : WriteList) → from ≤ to → ((i : ℕ) → from ≤ i → i < to → IsAtRest s i) → Stages tells s from to w w
stages_rest tells s from to w order rest = record {
  right = λ told bytes copy held is. is;
  bytes = λ is. is;
  named = λ i is. is;
  known = λ i above below. inr (rest i above below);
  planned = λ p. record { blocks = p.blocks; none = p.none; stay_once = p.stay_once; move_once = p.move_once; within = λ i named. omega (arith, order, p.within i named) };
}

pub one_rest : (tells : Type 0) (s : Stage) (page : ℕ) (w : WriteList) → IsAtRest s page → Stages tells s page (page + 1) w w
one_rest tells s page w rest = stages_rest tells s page (page + 1) w (omega arith) (λ i above below. let same : page ≡ i = omega (arith, above, below) in subst (IsAtRest s) same rest)

-- ---- pages that are added

abbrev pages_of : List PageWrite → List ℕ
pages_of writes = map (λ (x : PageWrite). x.page) writes

writes_either : (xs ys : List PageWrite) (i b : ℕ) → Writes (xs ++ ys) i b → Writes xs i b ⊎ Writes ys i b
writes_either [] ys i b w = inr w
writes_either (x ∷ xs) ys i b (inl here) = inl (inl here)
writes_either (x ∷ xs) ys i b (inr later) = elim (writes_either xs ys i b later) [ inl one ↦ inl (inr one) | inr other ↦ inr other ]

names_either : (xs ys : List PageWrite) (i : ℕ) → NamesPage (xs ++ ys) i → NamesPage xs i ⊎ NamesPage ys i
names_either [] ys i n = inr n
names_either (x ∷ xs) ys i (inl here) = inl (inl here)
names_either (x ∷ xs) ys i (inr later) = elim (names_either xs ys i later) [ inl one ↦ inl (inr one) | inr other ↦ inr other ]

not_true : (t : Bool) → (t ≡ true → ⊥) → t ≡ false
not_true true never = absurd (never refl)
not_true false never = refl

all_apart : (p : ℕ) (xs : List PageWrite) → ((i : ℕ) → NamesPage xs i → p ≡ i → ⊥) → AllByRecursion (λ y. nat_eq p y ≡ false) (pages_of xs)
all_apart p [] apart = tt
all_apart p (x ∷ xs) apart = (not_true (nat_eq p x.page) (λ t. apart x.page (inl refl) (eqb-true p x.page t)), all_apart p xs (λ i named. apart i (inr named)))

apart_both : (p : ℕ) (xs ys : List PageWrite) → AllByRecursion (λ y. nat_eq p y ≡ false) (pages_of xs) → AllByRecursion (λ y. nat_eq p y ≡ false) (pages_of ys) → AllByRecursion (λ y. nat_eq p y ≡ false) (pages_of (xs ++ ys))
apart_both p [] ys one other = other
apart_both p (x ∷ xs) ys one other = (one.0, apart_both p xs ys one.1 other)

once_both : (xs ys : List PageWrite) (page : ℕ) → IsDistinct nat_eq (pages_of xs) → IsDistinct nat_eq (pages_of ys) → ((i : ℕ) → NamesPage xs i → i < page) → ((i : ℕ) → NamesPage ys i → page ≤ i) → IsDistinct nat_eq (pages_of (xs ++ ys))
unfolding IsDistinct
once_both [] ys page one other below above = other
once_both (x ∷ xs) ys page one other below above = (
  apart_both x.page xs ys one.0 (all_apart x.page ys (λ i named same. omega (arith, same, below x.page (inl refl), above i named))),
  once_both xs ys page one.1 other (λ i named. below i (inr named)) above,
)

-- pages from one on, each once, with their own blocks or with none
pub record AreNext (s : Stage) (block : Option ℕ) (more : List PageWrite) (page end : ℕ) : Type 0 where
  pub stay : (x : ℕ) → block ≡ Some x → (i b : ℕ) → Writes more i b → own_block s.own s.swap s.agent s.row i ≡ Some b
  pub move : block ≡ None → (i : ℕ) → NamesPage more i → own_block s.own s.swap s.agent s.row i ≡ None
  pub once : IsDistinct nat_eq (pages_of more)
  pub inside : (i : ℕ) → NamesPage more i → (page ≤ i) × (i < end)
  pub all : (i : ℕ) → page ≤ i → i < end → NamesPage more i
  pub some : page ≤ end

module _ (s : Stage) (more : List PageWrite) (page end : ℕ) (w v : WriteList) where
  named_either : (block : Option ℕ) → HasMore block more w v s.given → (i : ℕ) → IsNamed v s.given i → IsNamed w s.given i ⊎ NamesPage more i
  named_either None has i (inl here) = inl (inl (subst (λ (l : List PageWrite). NamesPage l i) has.0 here))
  named_either None has i (inr later) = elim (names_either (page_moves w s.given) more i (subst (λ (l : List PageWrite). NamesPage l i) has.1 later)) [ inl old ↦ inl (inr old) | inr new ↦ inr new ]
  named_either (Some x) has i (inl here) = elim (names_either (page_writes w s.given) more i (subst (λ (l : List PageWrite). NamesPage l i) has.0 here)) [ inl old ↦ inl (inl old) | inr new ↦ inr new ]
  named_either (Some x) has i (inr later) = inl (inr (subst (λ (l : List PageWrite). NamesPage l i) has.1 later))

  named_old : (block : Option ℕ) → HasMore block more w v s.given → (i : ℕ) → IsNamed w s.given i → IsNamed v s.given i
  named_old None has i (inl here) = inl (subst (λ (l : List PageWrite). NamesPage l i) (sym has.0) here)
  named_old None has i (inr later) = inr (subst (λ (l : List PageWrite). NamesPage l i) (sym has.1) (names_left (page_moves w s.given) more i later))
  named_old (Some x) has i (inl here) = inl (subst (λ (l : List PageWrite). NamesPage l i) (sym has.0) (names_left (page_writes w s.given) more i here))
  named_old (Some x) has i (inr later) = inr (subst (λ (l : List PageWrite). NamesPage l i) (sym has.1) later)

  named_new : (block : Option ℕ) → HasMore block more w v s.given → (i : ℕ) → NamesPage more i → IsNamed v s.given i
  named_new None has i new = inr (subst (λ (l : List PageWrite). NamesPage l i) (sym has.1) (names_right (page_moves w s.given) more i new))
  named_new (Some x) has i new = inl (subst (λ (l : List PageWrite). NamesPage l i) (sym has.0) (names_right (page_writes w s.given) more i new))

  stays : (block : Option ℕ) → HasMore block more w v s.given → AreNext s block more page end → IsPlanned s page w → (i b : ℕ) → Writes (page_writes v s.given) i b → own_block s.own s.swap s.agent s.row i ≡ Some b
  stays None has next plan i b is = plan.blocks i b (subst (λ (l : List PageWrite). Writes l i b) has.0 is)
  stays (Some x) has next plan i b is = elim (writes_either (page_writes w s.given) more i b (subst (λ (l : List PageWrite). Writes l i b) has.0 is)) [
    | inl old ↦ plan.blocks i b old
    | inr new ↦ next.stay x refl i b new
  ]

  moves : (block : Option ℕ) → HasMore block more w v s.given → AreNext s block more page end → IsPlanned s page w → (i : ℕ) → NamesPage (page_moves v s.given) i → own_block s.own s.swap s.agent s.row i ≡ None
  moves None has next plan i is = elim (names_either (page_moves w s.given) more i (subst (λ (l : List PageWrite). NamesPage l i) has.1 is)) [
    | inl old ↦ plan.none i old
    | inr new ↦ next.move refl i new
  ]
  moves (Some x) has next plan i is = plan.none i (subst (λ (l : List PageWrite). NamesPage l i) has.1 is)

  stay_once : (block : Option ℕ) → HasMore block more w v s.given → AreNext s block more page end → IsPlanned s page w → IsDistinct nat_eq (pages_of (page_writes v s.given))
  stay_once None has next plan = subst (λ (l : List PageWrite). IsDistinct nat_eq (pages_of l)) (sym has.0) plan.stay_once
  stay_once (Some x) has next plan =
      subst (λ (l : List PageWrite). IsDistinct nat_eq (pages_of l)) (sym has.0)
      (once_both (page_writes w s.given) more page plan.stay_once next.once (λ i named. plan.within i (inl named)) (λ i named. (next.inside i named).0))

  move_once : (block : Option ℕ) → HasMore block more w v s.given → AreNext s block more page end → IsPlanned s page w → IsDistinct nat_eq (pages_of (page_moves v s.given))
  move_once None has next plan =
      subst (λ (l : List PageWrite). IsDistinct nat_eq (pages_of l)) (sym has.1)
      (once_both (page_moves w s.given) more page plan.move_once next.once (λ i named. plan.within i (inr named)) (λ i named. (next.inside i named).0))
  move_once (Some x) has next plan = subst (λ (l : List PageWrite). IsDistinct nat_eq (pages_of l)) (sym has.1) plan.move_once

  pub stages_added : (tells : Type 0) (block : Option ℕ) → HasMore block more w v s.given → AreNext s block more page end
      → (tells → (bytes : List ℕ) → IsCopy bytes s.work → AreHeld bytes s.work s.content s.base (pages_at s.agent s.row s.swap) → IsRight (changed bytes s.at s.given s.size) w s.given → IsRight (changed bytes s.at s.given s.size) v s.given)
      → (HasBytes w s.given → HasBytes v s.given) → Stages tells s page end w v
  stages_added tells block has next right bytes = record {
    right = right;
    bytes = bytes;
    named = named_old block has;
    known = λ i above below. inl (named_new block has i (next.all i above below));
    planned = λ plan. record {
      blocks = stays block has next plan;
      none = moves block has next plan;
      stay_once = stay_once block has next plan;
      move_once = move_once block has next plan;
      within = λ i named. elim (named_either block has i named) [
        | inl old ↦ omega (arith, plan.within i old, next.some)
        | inr new ↦ (next.inside i new).1
      ];
    };
  }

-- ---- one page, and a run

pub one_next : (s : Stage) (block : Option ℕ) (page : ℕ) (bytes : List ℕ) → block ≡ own_block s.own s.swap s.agent s.row page → AreNext s block ((record { page = page; block = unwrap_or block 0; bytes = bytes }) ∷ []) page (page + 1)
unfolding IsDistinct
one_next s block page bytes is = record {
  stay = λ x some i b write. stay x some i b write;
  move = λ none i named. move none i named;
  once = (tt, tt);
  inside = λ i named. inside i named;
  all = λ i above below. inl (omega (arith, above, below));
  some = omega arith;
} where
  stay : (x : ℕ) → block ≡ Some x → (i b : ℕ) → ((page ≡ i) × (unwrap_or block 0 ≡ b)) ⊎ ⊥ → own_block s.own s.swap s.agent s.row i ≡ Some b
  stay x some i b (inl p) = ap (own_block s.own s.swap s.agent s.row) (sym p.0) ∙ (sym is ∙ (some ∙ ap Some (ap (λ (o : Option ℕ). unwrap_or o 0) (sym some) ∙ p.1)))
  stay x some i b (inr never) = absurd never

  move : block ≡ None → (i : ℕ) → (page ≡ i) ⊎ ⊥ → own_block s.own s.swap s.agent s.row i ≡ None
  move none i (inl p) = ap (own_block s.own s.swap s.agent s.row) (sym p) ∙ (sym is ∙ none)
  move none i (inr never) = absurd never

  inside : (i : ℕ) → (page ≡ i) ⊎ ⊥ → (page ≤ i) × (i < page + 1)
  inside i (inl p) = (omega (arith, p), omega (arith, p))
  inside i (inr never) = absurd never

run_writes_at : (bytes : List ℕ) (page block from n i b : ℕ) → Writes (run_pages bytes page block from n) i b → (d : ℕ) × (i ≡ page + d) × (d < n) × (b ≡ block + d)
run_writes_at bytes page block from zero i b w = absurd w
run_writes_at bytes page block from (suc n) i b (inl here) = (0, omega (arith, here.0), omega arith, omega (arith, here.1))
run_writes_at bytes page block from (suc n) i b (inr later) =
    let p = run_writes_at bytes (page + 1) (block + 1) (from + 4096) n i b later in (p.0 + 1, omega (arith, p.1), omega (arith, p.2), omega (arith, p.3))

run_names_at : (bytes : List ℕ) (page block from n i : ℕ) → NamesPage (run_pages bytes page block from n) i → (page ≤ i) × (i < page + n)
run_names_at bytes page block from zero i w = absurd w
run_names_at bytes page block from (suc n) i (inl here) = (omega (arith, here), omega (arith, here))
run_names_at bytes page block from (suc n) i (inr later) =
    let p = run_names_at bytes (page + 1) (block + 1) (from + 4096) n i later in (omega (arith, p.0), omega (arith, p.1))

run_once : (bytes : List ℕ) (page block from n : ℕ) → IsDistinct nat_eq (pages_of (run_pages bytes page block from n))
unfolding IsDistinct
run_once bytes page block from zero = tt
run_once bytes page block from (suc n) = (
  all_apart page (run_pages bytes (page + 1) (block + 1) (from + 4096) n) (λ i named same. omega (arith, same, (run_names_at bytes (page + 1) (block + 1) (from + 4096) n i named).0)),
  run_once bytes (page + 1) (block + 1) (from + 4096) n,
)

pub run_next : (s : Stage) (block : Option ℕ) (page from count : ℕ) → block ≡ own_block s.own s.swap s.agent s.row page → AreAlike s.own s.swap s.agent s.row page count → AreNext s block (run_pages s.given page (unwrap_or block 0) from count) page (page + count)
run_next s block page from count is alike = record {
  stay = stay;
  move = move;
  once = run_once s.given page (unwrap_or block 0) from count;
  inside = run_names_at s.given page (unwrap_or block 0) from count;
  all = λ i above below. names_run s.given page (unwrap_or block 0) from count i above below;
  some = omega arith;
} where
  at : (d : ℕ) → d < count → own_block s.own s.swap s.agent s.row (page + d) ≡ option_map (λ b. b + d) block
  at d below = alike d below ∙ ap (option_map (λ b. b + d)) (sym is)

  stay : (x : ℕ) → block ≡ Some x → (i b : ℕ) → Writes (run_pages s.given page (unwrap_or block 0) from count) i b → own_block s.own s.swap s.agent s.row i ≡ Some b
  stay x some i b write =
      let p = run_writes_at s.given page (unwrap_or block 0) from count i b write in
      let first : unwrap_or block 0 ≡ x = ap (λ (o : Option ℕ). unwrap_or o 0) some in
      let here : x + p.0 ≡ b = omega (arith, first, p.3) in
      ap (own_block s.own s.swap s.agent s.row) p.1 ∙ (at p.0 p.2 ∙ (ap (option_map (λ b. b + p.0)) some ∙ ap Some here))

  move : block ≡ None → (i : ℕ) → NamesPage (run_pages s.given page (unwrap_or block 0) from count) i → own_block s.own s.swap s.agent s.row i ≡ None
  move none i named =
      let p = run_names_at s.given page (unwrap_or block 0) from count i named in
      let place : i ≡ page + (i - page) = omega (arith, p.0) in
      ap (own_block s.own s.swap s.agent s.row) place ∙ (at (i - page) (omega (arith, p.0, p.1)) ∙ ap (option_map (λ b. b + (i - page))) none)

-- ---- what is elsewhere

held_far : (p : Page) → is_far p ≡ true → is_held p ≡ true
held_far Zero far = absurd cc
held_far (Near bytes) far = absurd cc
held_far (Clean bytes) far = absurd cc
held_far Far far = refl

far_within : (pages : List Page) (i : ℕ) → is_far (page_at pages i) ≡ true → i < length pages
far_within [] i far = absurd cc
far_within (p ∷ pages) zero far = omega arith
far_within (p ∷ pages) (suc i) far = let lt = far_within pages i far in omega (arith, lt)

pub held_page : (bytes : List ℕ) (work : WorkingCopy) (c : List ℕ) (base : ℕ) (pages : List Stored) (page : ℕ) → AreHeld bytes work c base pages → IsHeld bytes work page (page_of c base (get_or pages page blank))
held_page bytes work c base pages page held far = held.held page (far_within work.pages page far) (λ above below. held_far (page_at work.pages page) far)

-- ---- all of a row

none_planned : (s : Stage) (w : WriteList) → w.runs ≡ [] → w.moves ≡ [] → IsPlanned s 0 w
unfolding IsDistinct
none_planned s w runs moves =
    let writes : page_writes w s.given ≡ [] = ap (λ (rs : List Run). writes_of w.own s.given rs) runs in
    let later : page_moves w s.given ≡ [] = ap (λ (rs : List Run). writes_of w.own s.given rs) moves in
    record {
      blocks = λ i b is. absurd (subst (λ (l : List PageWrite). Writes l i b) writes is);
      none = λ i is. absurd (subst (λ (l : List PageWrite). NamesPage l i) later is);
      stay_once = subst (λ (l : List PageWrite). IsDistinct nat_eq (pages_of l)) (sym writes) tt;
      move_once = subst (λ (l : List PageWrite). IsDistinct nat_eq (pages_of l)) (sym later) tt;
      within = λ i named. elim named [
        | inl is ↦ absurd (subst (λ (l : List PageWrite). NamesPage l i) writes is)
        | inr is ↦ absurd (subst (λ (l : List PageWrite). NamesPage l i) later is)
      ];
    }

none_right : (bytes given : List ℕ) (w : WriteList) → w.runs ≡ [] → w.moves ≡ [] → IsRight bytes w given
none_right bytes given w runs moves = record {
  writes = subst (AreRight bytes) (sym (ap (λ (rs : List Run). writes_of w.own given rs) runs)) tt;
  moves = subst (AreRight bytes) (sym (ap (λ (rs : List Run). writes_of w.own given rs) moves)) tt;
}

pub all_staged : (tells : Type 0) (s : Stage) (w v : WriteList) → w.runs ≡ [] → w.moves ≡ [] → HasBytes w s.given → Stages tells s 0 (blocks s.size) w v → IsStaged tells s v
all_staged tells s w v runs moves has is = record {
  right = λ told bytes copy held. is.right told bytes copy held (none_right (changed bytes s.at s.given s.size) s.given w runs moves);
  bytes = is.bytes has;
  known = λ i below. is.known i (omega arith) below;
  planned = is.planned (none_planned s w runs moves);
}

-- ---- three ranges, and what lies beside them

-- the bounds of a walk
pub record IsWalk (begins ends first last from mid next to end : ℕ) : Type 0 where
  pub from_is : from ≡ min begins first
  pub mid_is : mid ≡ max (min ends first) from
  pub next_is : next ≡ min (max begins last) end
  pub to_is : to ≡ max (min ends end) next
  pub order : first ≤ last
  pub within : last ≤ end

-- what the store has of a page, and of a content the block that it has
pub record IsCalm (s : Stage) (i : ℕ) : Type 0 where
  pub stored : IsStored s.work i
  pub plain : s.whole ≡ true → is_plain (swap_page s.agent s.row i s.swap) ≡ true

-- a page that the call spares, where nothing was changed
beside : (s : Stage) (i : ℕ) → length s.work.pages ≡ blocks s.work.length → IsCalm s i
    → IsUnwritten s.at (length s.given) i × IsWhole s.work.length s.size i × (i < blocks s.work.length) → IsAtRest s i
beside s i pages calm is = record {
  stored = inl (omega (arith, pages, is.2), calm.stored);
  spared = record { unwritten = is.0; whole = is.1 };
  block = calm.plain;
}

pub walked : (tells : Type 0) (s : Stage) (begins ends first last from mid next to end : ℕ) (w v u x : WriteList) → length s.work.pages ≡ blocks s.work.length → IsWalk begins ends first last from mid next to end
    → ((i : ℕ) → i < end → (begins ≤ i → i < ends → ⊥) → IsCalm s i)
    → ((i : ℕ) → i < first → IsUnwritten s.at (length s.given) i × IsWhole s.work.length s.size i × (i < blocks s.work.length))
    → ((i : ℕ) → last ≤ i → i < end → IsUnwritten s.at (length s.given) i × IsWhole s.work.length s.size i × (i < blocks s.work.length))
    → Stages tells s from mid w v → Stages tells s first last v u → Stages tells s next to u x → Stages tells s 0 end w x
walked tells s begins ends first last from mid next to end w v u x pages is calm before behind one two three =
    let gap0 = stages_rest tells s 0 from w (omega arith) (λ i above below. beside s i pages (calm i (omega (arith, below, is.from_is, is.order, is.within)) (λ lo hi. omega (arith, below, lo, is.from_is))) (before i (omega (arith, below, is.from_is)))) in
    let gap1 = stages_rest tells s mid first v (omega (arith, is.mid_is, is.from_is)) (λ i above below. beside s i pages (calm i (omega (arith, below, is.order, is.within)) (λ lo hi. omega (arith, above, below, hi, is.mid_is))) (before i below)) in
    let gap2 = stages_rest tells s last next u (omega (arith, is.next_is, is.within)) (λ i above below. beside s i pages (calm i (omega (arith, below, is.next_is)) (λ lo hi. omega (arith, above, below, lo, is.next_is))) (behind i above (omega (arith, below, is.next_is)))) in
    let gap3 = stages_rest tells s to end x (omega (arith, is.to_is, is.next_is)) (λ i above below. beside s i pages (calm i below (λ lo hi. omega (arith, above, below, hi, is.to_is))) (behind i (omega (arith, above, is.to_is, is.next_is, is.within)) below)) in
    stages_more tells s 0 from end w w x gap0
    (stages_more tells s from mid end w v x one
    (stages_more tells s mid first end v v x gap1
    (stages_more tells s first last end v u x two
    (stages_more tells s last next end u u x gap2
    (stages_more tells s next to end u x x three gap3)))))
