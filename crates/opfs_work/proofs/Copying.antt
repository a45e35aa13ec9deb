-- Bytes that are written over others, page by page.
use Rattle.std.proofs.Common.{◌≡◌, ℕ, zero, suc, ◌+◌, ◌-◌, ◌*◌, ◌/◌, ◌%◌, ◌≤◌, ◌<◌, ◌==◌, Bool, true, false, cond, List, length, slice_index, drop, refl, sym, ap, ◌∙◌, inl, inr, arith, min, max}
use Rattle.std.specs.List.{range_with_len, slice_range}
use Rattle.std.proofs.lemmas.Bool.{cases_lt, cases_eq, eqb-true, eq-eqb}
use Rattle.std.proofs.lemmas.List.{get_or-take, get_or-drop, length-take, length-drop}
use Rattle.std.proofs.lemmas.List.Sums.{sum_by-cons}
use Rattle.opfs_base.specs.Blocks.{blocks}
use Rattle.opfs_work.specs.declared.pages.Page.{Page}
use Rattle.opfs_work.specs.Pages.{Table, page_at, byte_at, near_count, one_near, is_changed, is_far, absent, added, pages_in, CoversFar}
use Rattle.opfs_work.proofs.Counts.{one_near-le}

-- The pages below one were written, the others are as before.
pub record IsCopied (old now : Table) (at : ℕ) (bytes : List ℕ) (page : ℕ) : Type 0 where
  pub lengths : length now.pages ≡ length old.pages
  pub room : now.room ≡ old.room
  pub inside : (far : ℕ → ℕ) (i : ℕ) → at ≤ i → i < at + length bytes → i < 4096 * page → byte_at far now.pages i ≡ slice_index bytes (i - at)
  pub before : (far : ℕ → ℕ) (i : ℕ) → i < at → byte_at far now.pages i ≡ byte_at far old.pages i
  pub behind : (far : ℕ → ℕ) (i : ℕ) → at + length bytes ≤ i → byte_at far now.pages i ≡ byte_at far old.pages i
  pub changed : (k : ℕ) → at / 4096 ≤ k → k < page → is_changed (page_at now.pages k) ≡ true
  pub early : (k : ℕ) → k < at / 4096 → page_at now.pages k ≡ page_at old.pages k
  pub late : (k : ℕ) → page ≤ k → page_at now.pages k ≡ page_at old.pages k
  pub count : near_count now.pages + absent old.pages page (blocks (at + length bytes) - page) ≡ near_count old.pages + absent old.pages (at / 4096) (blocks (at + length bytes) - at / 4096)

pub copied_none : (old : Table) (at : ℕ) (bytes : List ℕ) → IsCopied old old at bytes (at / 4096)
copied_none old at bytes = record {
  lengths = refl;
  room = refl;
  inside = λ far i from below early. absurd (omega arith);
  before = λ far i below. refl;
  behind = λ far i past. refl;
  changed = λ k from below. absurd (omega arith);
  early = λ k below. refl;
  late = λ k past. refl;
  count = refl;
}

less : (n : ℕ) → n ≡ suc n - 1
less n = omega arith

pub true_false : true ≡ false → ⊥
true_false e = cc

pub not_true : (t : Bool) → (t ≡ true → ⊥) → t ≡ false
not_true true no_true = absurd (no_true refl)
not_true false no_true = refl

pub absent-none : (pages : List Page) (first : ℕ) → absent pages first 0 ≡ 0
unfolding absent
absent-none pages first = refl

pub absent-cons : (pages : List Page) (first n : ℕ) → absent pages first (suc n) ≡ (1 - one_near (page_at pages first)) + absent pages (first + 1) n
unfolding absent
absent-cons pages first n = sum_by-cons (λ k. 1 - one_near (page_at pages k)) first (range_with_len (first + 1) n)

pub absent-more : (pages : List Page) (first count : ℕ) → 0 < count → absent pages first count ≡ (1 - one_near (page_at pages first)) + absent pages (first + 1) (count - 1)
absent-more pages first zero some = absurd (omega arith)
absent-more pages first (suc n) some = absent-cons pages first n ∙ ap (λ m. (1 - one_near (page_at pages first)) + absent pages (first + 1) m) (less n)

one_less : (last page : ℕ) → last - page - 1 ≡ last - (page + 1)
one_less last page = omega arith

no_more : (last page : ℕ) → last ≤ page → last - page ≡ 0
no_more last page past = omega arith

-- what is counted of a run, up to a page and from it on
pub counted_more : (pages : List Page) (page last count whole : ℕ) → page < last → count + absent pages page (last - page) ≡ whole
    → (count + (1 - one_near (page_at pages page))) + absent pages (page + 1) (last - (page + 1)) ≡ whole
counted_more pages page last count whole below is =
    let rest : absent pages (page + 1) (last - page - 1) ≡ absent pages (page + 1) (last - (page + 1)) = ap (absent pages (page + 1)) (one_less last page) in
    omega (arith, absent-more pages page (last - page) (omega arith))

pub counted_all : (pages : List Page) (page last count whole : ℕ) → last ≤ page → count + absent pages page (last - page) ≡ whole → count ≡ whole
counted_all pages page last count whole past is =
    let none : absent pages page (last - page) ≡ 0 = ap (absent pages page) (no_more last page past) ∙ absent-none pages page in
    omega arith

-- ---- a write of one more page

-- What the write of a part of the bytes leaves.
pub record WritesPart (now new : Table) (place : ℕ) (chunk : List ℕ) : Type 0 where
  pub lengths : length new.pages ≡ length now.pages
  pub room : new.room ≡ now.room
  pub inside : (far : ℕ → ℕ) (i : ℕ) → place ≤ i → i < place + length chunk → byte_at far new.pages i ≡ slice_index chunk (i - place)
  pub before : (far : ℕ → ℕ) (i : ℕ) → i < place → byte_at far new.pages i ≡ byte_at far now.pages i
  pub behind : (far : ℕ → ℕ) (i : ℕ) → place + length chunk ≤ i → byte_at far new.pages i ≡ byte_at far now.pages i
  pub changed : is_changed (page_at new.pages (place / 4096)) ≡ true
  pub others : (k : ℕ) → (k ≡ place / 4096 → ⊥) → page_at new.pages k ≡ page_at now.pages k
  pub count : near_count new.pages + one_near (page_at now.pages (place / 4096)) ≡ near_count now.pages + 1

-- A chunk is the bytes from the page's first to its last.
pub record IsPart (at : ℕ) (bytes : List ℕ) (page from to : ℕ) (chunk : List ℕ) : Type 0 where
  pub some : 0 < length bytes
  pub touched : at < 4096 * page + 4096
  pub reached : 4096 * page < at + length bytes
  pub begins : from ≡ max at (4096 * page)
  pub ends : to ≡ min (at + length bytes) (4096 * page + 4096)
  pub size : length chunk ≡ to - from
  pub bytes_are : (j : ℕ) → j < to - from → slice_index chunk j ≡ slice_index bytes (from - at + j)

pub copied_more : (old now new : Table) (at page from to : ℕ) (bytes chunk : List ℕ) → IsCopied old now at bytes page → IsPart at bytes page from to chunk → WritesPart now new from chunk
    → IsCopied old new at bytes (page + 1)
copied_more old now new at page from to bytes chunk is part wrote =
    let here : from / 4096 ≡ page = omega (arith, part.begins, part.touched) in
    record {
      lengths = wrote.lengths ∙ is.lengths;
      room = wrote.room ∙ is.room;
      inside = λ far i above below early.
          elim (cases_lt i from) [
            | inl less ↦ wrote.before far i less ∙ is.inside far i above below (omega (arith, part.begins))
            | inr more ↦
                wrote.inside far i more (omega (arith, part.begins, part.ends, part.size)) ∙ part.bytes_are (i - from) (omega (arith, part.begins, part.ends))
                ∙ ap (slice_index bytes) (omega (arith, part.begins))
          ];
      before = λ far i below. wrote.before far i (omega (arith, part.begins)) ∙ is.before far i below;
      behind = λ far i past. wrote.behind far i (omega (arith, part.begins, part.ends, part.size, part.touched, part.reached)) ∙ is.behind far i past;
      changed = λ k from_first below.
          elim (cases_eq k page) [
            | inl same ↦ ap (λ (n : ℕ). is_changed (page_at new.pages n)) (same ∙ sym here) ∙ wrote.changed
            | inr apart ↦ ap is_changed (wrote.others k (λ e. apart (e ∙ here))) ∙ is.changed k from_first (omega arith)
          ];
      early = λ k below. wrote.others k (omega (arith, part.touched)) ∙ is.early k below;
      late = λ k past. wrote.others k (omega arith) ∙ is.late k (omega arith);
      count =
          let met : one_near (page_at now.pages (from / 4096)) ≡ one_near (page_at old.pages page) = ap (λ (n : ℕ). one_near (page_at now.pages n)) here ∙ ap one_near (is.late page (omega arith)) in
          let more = counted_more old.pages page (blocks (at + length bytes)) (near_count now.pages) _ (omega (arith, part.reached)) is.count in
          omega (arith, wrote.count, more, one_near-le (page_at old.pages page));
    }

-- How many bytes stand between two places.
pub sliced : (bytes : List ℕ) (from to : ℕ) → from ≤ to → to ≤ length bytes → length (slice_range bytes from to) ≡ to - from
sliced bytes from to order end =
    let taken = length-take (to - from) (drop from bytes) in
    let dropped = length-drop from bytes in
    omega arith

pub part_of : (at page from to : ℕ) (bytes : List ℕ) → (length bytes ≡ 0 → ⊥) → at / 4096 ≤ page → page < blocks (at + length bytes) → from ≡ max at (4096 * page)
    → to ≡ min (at + length bytes) (4096 * page + 4096) → IsPart at bytes page from to (slice_range bytes (from - at) (to - at))
part_of at page from to bytes some first last begins ends =
    let length_is = length-take ((to - at) - (from - at)) (drop (from - at) bytes) in
    let rest_is = length-drop (from - at) bytes in
    record {
      some = omega arith;
      touched = omega arith;
      reached = omega arith;
      begins = begins;
      ends = ends;
      size = omega (arith, length_is, rest_is);
      bytes_are = λ j below. get_or-take ((to - at) - (from - at)) (drop (from - at) bytes) j 0 (omega arith) ∙ get_or-drop (from - at) bytes j 0;
    }

pub not_empty : (n : ℕ) (t : Bool) → t ≡ (n == 0) → t ≡ false → n ≡ 0 → ⊥
not_empty n t is no_zero zero_is = true_false (sym (eq-eqb n 0 zero_is) ∙ sym is ∙ no_zero)

-- ---- how many pages a write makes Near

pub added-none : (pages : List Page) (at len : ℕ) → len ≡ 0 → added pages at len ≡ 0
added-none pages at len is = ap (added pages at) is ∙ absent-none pages (at / 4096)

pub pages_in-some : (at len : ℕ) → (len ≡ 0 → ⊥) → pages_in at len ≡ blocks (at + len) - at / 4096
pages_in-some at len some =
    let count = blocks (at + len) - at / 4096 in
    elim (len == 0) as (λ t. t ≡ (len == 0) → cond t 0 count ≡ count) [ true ↦ λ told. absurd (some (eqb-true len 0 (sym told))) | false ↦ λ told. refl ] refl

pub added-some : (pages : List Page) (at len : ℕ) → (len ≡ 0 → ⊥) → added pages at len ≡ absent pages (at / 4096) (blocks (at + len) - at / 4096)
added-some pages at len some = ap (absent pages (at / 4096)) (pages_in-some at len some)

-- ---- what a write of one page asks for

pub part_whole : (old now : Table) (at page from to : ℕ) (bytes chunk : List ℕ) → IsCopied old now at bytes page → IsPart at bytes page from to chunk → CoversFar old.pages at (at + length bytes)
    → is_far (page_at now.pages (from / 4096)) ≡ true → length chunk ≡ 4096
unfolding CoversFar
part_whole old now at page from to bytes chunk is part covers far =
    let here : from / 4096 ≡ page = omega (arith, part.begins, part.touched) in
    let was : is_far (page_at old.pages page) ≡ true = ap is_far (sym (is.late page (omega arith))) ∙ ap (λ (n : ℕ). is_far (page_at now.pages n)) (sym here) ∙ far in
    let both = covers page (omega (arith, part.some)) part.touched part.reached was in
    omega (arith, both.0, both.1, part.begins, part.ends, part.size)

pub part_few : (old now : Table) (at page from to : ℕ) (bytes chunk : List ℕ) → IsCopied old now at bytes page → IsPart at bytes page from to chunk
    → near_count old.pages + absent old.pages (at / 4096) (blocks (at + length bytes) - at / 4096) ≤ 256
    → near_count now.pages < 256 + one_near (page_at now.pages (from / 4096))
part_few old now at page from to bytes chunk is part few =
    let here : from / 4096 ≡ page = omega (arith, part.begins, part.touched) in
    let met : one_near (page_at now.pages (from / 4096)) ≡ one_near (page_at old.pages page) = ap (λ (n : ℕ). one_near (page_at now.pages n)) here ∙ ap one_near (is.late page (omega arith)) in
    let more = absent-more old.pages page (blocks (at + length bytes) - page) (omega (arith, part.reached)) in
    omega (arith, is.count, more, one_near-le (page_at old.pages page))

-- ---- whether Far pages are covered

pub covers_none : (pages : List Page) (from to : ℕ) → to ≤ from → CoversFar pages from to
unfolding CoversFar
covers_none pages from to none = λ k some touched reached far. absurd (omega arith)

pub covers_first : (pages : List Page) (from to : ℕ) → from < to → CoversFar pages from to → is_far (page_at pages (from / 4096)) ≡ true → (from ≤ 4096 * (from / 4096)) × (4096 * (from / 4096) + 4096 ≤ to)
unfolding CoversFar
covers_first pages from to some covers = covers (from / 4096) some (omega arith) (omega arith)

pub covers_last : (pages : List Page) (from to : ℕ) → from < to → (to % 4096 ≡ 0 → ⊥) → CoversFar pages from to → is_far (page_at pages (to / 4096)) ≡ true → (from ≤ 4096 * (to / 4096)) × (4096 * (to / 4096) + 4096 ≤ to)
unfolding CoversFar
covers_last pages from to some part covers = covers (to / 4096) some (omega arith) (omega arith)

pub covers_ends : (pages : List Page) (from to : ℕ)
    → (is_far (page_at pages (from / 4096)) ≡ true → (from ≤ 4096 * (from / 4096)) × (4096 * (from / 4096) + 4096 ≤ to))
    → ((to % 4096 ≡ 0 → ⊥) → is_far (page_at pages (to / 4096)) ≡ true → (from ≤ 4096 * (to / 4096)) × (4096 * (to / 4096) + 4096 ≤ to))
    → CoversFar pages from to
unfolding CoversFar
covers_ends pages from to first last = λ k some touched reached far.
    elim (cases_eq k (from / 4096)) [
      | inl at_first ↦
          let met = first (ap (λ (n : ℕ). is_far (page_at pages n)) (sym at_first) ∙ far) in
          (omega (arith, met.0), omega (arith, met.1))
      | inr inside ↦
          elim (cases_lt to (4096 * k + 4096)) [
            | inl past ↦
                let here : k ≡ to / 4096 = omega arith in
                let met = last (λ whole. omega arith) (ap (λ (n : ℕ). is_far (page_at pages n)) (sym here) ∙ far) in
                (omega (arith, met.0), omega (arith, met.1))
            | inr whole ↦ (omega arith, omega arith)
          ]
    ]
