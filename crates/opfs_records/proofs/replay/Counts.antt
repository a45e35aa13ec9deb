-- How often a list names a block, and the used blocks that it names once each.
use Rattle.std.proofs.Common.{◌≡◌, ℕ, ◌+◌, ◌<◌, ◌≤◌, Bool, true, false, cond, not, ◌||◌, List, [], ◌∷◌, ◌++◌, length, get_or, set, replicate, refl, sym, ap, subst, ◌∙◌, inl, inr, arith}
use Rattle.std.specs.Prelude.{nat_eq}
use Rattle.std.specs.List.{AllByRecursion, IsDistinct}
use Rattle.std.proofs.lemmas.Bool.{cases_eq, cases_lt, cases_Bool, eq-eqb, ne_eqb, eqb-true, false≢true, true≢false, and_parts, and_from}
use Rattle.std.proofs.lemmas.List.{ext_get_or, get_or-set_same, get_or-set_other, get_or_past, get_or_default, get_or-replicate, length-replicate, length-set}
use Rattle.std.proofs.lemmas.List.Sums.{sum_by-cons, sum_by-append}
use Rattle.opfs_blocks.specs.Sets.{Used, is_used, marked, AreBelow, CanAdopt}
use Rattle.opfs_blocks.proofs.SetLemmas.{length-marked}
use Rattle.opfs_records.specs.Replay.Built.{has_block, is_once}
use Rattle.opfs_records.specs.Replay.Kept.{times, flag, AreMarked}

-- ---- counts

pub times_cons : (k b : ℕ) (more : List ℕ) → times k (b ∷ more) ≡ cond (nat_eq k b) 1 0 + times k more
times_cons k b more = sum_by-cons (λ x. cond (nat_eq k x) 1 0) b more

pub times_append : (k : ℕ) (a b : List ℕ) → times k (a ++ b) ≡ times k a + times k b
times_append k a b = sum_by-append (λ x. cond (nat_eq k x) 1 0) a b

counted : (t : Bool) (n : ℕ) → t ≡ true → 0 < cond t 1 0 + n
counted true n h = omega arith
counted false n h = absurd (false≢true h)

uncounted : (t : Bool) (n : ℕ) → t ≡ false → cond t 1 0 + n ≡ n
uncounted true n h = absurd (true≢false h)
uncounted false n h = omega arith

is_counted : (t : Bool) (n : ℕ) → t ≡ true → cond t 1 0 + n ≡ 1 + n
is_counted true n h = refl
is_counted false n h = absurd (false≢true h)

none_parts : (a b : Bool) → (a || b) ≡ false → (a ≡ false) × (b ≡ false)
none_parts true b h = absurd (true≢false h)
none_parts false b h = (refl, h)

none_from : (a b : Bool) → a ≡ false → b ≡ false → (a || b) ≡ false
none_from true b h g = absurd (true≢false h)
none_from false b h g = g

-- A block that a list has not is named never, and one that it has is named.
pub times_none : (k : ℕ) (xs : List ℕ) → has_block xs k ≡ false → times k xs ≡ 0
times_none k [] h = refl
times_none k (b ∷ more) h =
    let parts = none_parts (nat_eq k b) (has_block more k) h in
    times_cons k b more ∙ uncounted (nat_eq k b) (times k more) parts.0 ∙ times_none k more parts.1

pub none_times : (k : ℕ) (xs : List ℕ) → times k xs ≡ 0 → has_block xs k ≡ false
none_times k [] h = refl
none_times k (b ∷ more) h =
    elim (cases_Bool (nat_eq k b)) [
      | inl has ↦ absurd (omega (arith, times_cons k b more, counted (nat_eq k b) (times k more) has))
      | inr hasn ↦ none_from (nat_eq k b) (has_block more k) hasn (none_times k more (omega (arith, times_cons k b more, uncounted (nat_eq k b) (times k more) hasn)))
    ]

pub times_some : (k : ℕ) (xs : List ℕ) → has_block xs k ≡ true → 0 < times k xs
times_some k xs h = elim (cases_lt 0 (times k xs)) [ inl lt ↦ lt | inr le ↦ absurd (true≢false (sym h ∙ none_times k xs (omega arith))) ]

-- A list that names no block twice.
pub once_from_times : (xs : List ℕ) → ((k : ℕ) → times k xs ≤ 1) → is_once xs ≡ true
once_from_times [] few = refl
once_from_times (b ∷ more) few =
    let same : nat_eq b b ≡ true = eq-eqb b b refl in
    let here : has_block more b ≡ false = none_times b more (omega (arith, few b, times_cons b b more, is_counted (nat_eq b b) (times b more) same)) in
    and_from _ _ (ap not here) (once_from_times more (λ k. omega (arith, few k, times_cons k b more)))

apart_none : (b : ℕ) (xs : List ℕ) → AllByRecursion (λ other. nat_eq b other ≡ false) xs → has_block xs b ≡ false
apart_none b [] apart = refl
apart_none b (x ∷ xs) apart = none_from _ _ apart.0 (apart_none b xs apart.1)

none_apart : (b : ℕ) (xs : List ℕ) → has_block xs b ≡ false → AllByRecursion (λ other. nat_eq b other ≡ false) xs
none_apart b [] h = tt
none_apart b (x ∷ xs) h = let parts = none_parts _ _ h in (parts.0, none_apart b xs parts.1)

pub once_distinct : (xs : List ℕ) → IsDistinct nat_eq xs → is_once xs ≡ true
unfolding IsDistinct
once_distinct [] d = refl
once_distinct (b ∷ more) d = and_from _ _ (ap not (apart_none b more d.0)) (once_distinct more d.1)

not_true : (b : Bool) → not b ≡ true → b ≡ false
not_true true h = absurd (false≢true h)
not_true false h = refl

pub distinct_once : (xs : List ℕ) → is_once xs ≡ true → IsDistinct nat_eq xs
unfolding IsDistinct
distinct_once [] h = tt
distinct_once (b ∷ more) h =
    let parts = and_parts (not (has_block more b)) (is_once more) h in
    (none_apart b more (not_true _ parts.0), distinct_once more parts.1)

pub once_times : (xs : List ℕ) → is_once xs ≡ true → (k : ℕ) → times k xs ≤ 1
once_times [] h k = omega arith
once_times (b ∷ more) h k =
    let parts = and_parts (not (has_block more b)) (is_once more) h in
    elim (cases_Bool (nat_eq k b)) [
      | inl has ↦ omega (arith, times_cons k b more, is_counted (nat_eq k b) (times k more) has, times_none k more (ap (has_block more) (eqb-true k b has) ∙ not_true _ parts.0))
      | inr hasn ↦ omega (arith, times_cons k b more, uncounted (nat_eq k b) (times k more) hasn, once_times more parts.1 k)
    ]

-- What holds of each block of a list.
pub each_of : (P : ℕ → Type 0) (xs : List ℕ) → ((k : ℕ) → has_block xs k ≡ true → P k) → AllByRecursion P xs
each_of P [] all = tt
each_of P (b ∷ more) all = (all b (ap (λ t. t || has_block more b) (eq-eqb b b refl)), each_of P more (λ k h. all k (either (nat_eq k b) (has_block more k) h)))
  where
    either : (a c : Bool) → c ≡ true → (a || c) ≡ true
    either true c h = refl
    either false c h = h

pub at_each : (P : ℕ → Type 0) (xs : List ℕ) → AllByRecursion P xs → (k : ℕ) → has_block xs k ≡ true → P k
at_each P [] all k h = absurd (false≢true h)
at_each P (b ∷ more) all k h =
    elim (cases_Bool (nat_eq k b)) [
      | inl has ↦ subst P (sym (eqb-true k b has)) all.0
      | inr hasn ↦ at_each P more all.1 k (sym (ap (λ t. t || has_block more k) hasn) ∙ h)
    ]

-- ---- marks

same_either : (b x : Bool) → cond b x x ≡ x
same_either true x = refl
same_either false x = refl

pub marked_at : (mark : Bool) (blocks : List ℕ) (used : Used) (k : ℕ) → k < length used → get_or (marked mark blocks used) k false ≡ cond (has_block blocks k) mark (get_or used k false)
marked_at mark [] used k lt = refl
marked_at mark (b ∷ more) used k lt =
    let lt' : k < length (set used b mark) = omega (arith, length-set used b mark) in
    let rest = marked_at mark more (set used b mark) k lt' in
    elim (cases_eq k b) [
      | inl e ↦ rest ∙ ap (λ (x : Bool). cond (has_block more k) mark x) (ap (λ (j : ℕ). get_or (set used b mark) j false) e ∙ get_or-set_same used b mark false (omega arith)) ∙ same_either (has_block more k) mark ∙ rw (eq-eqb k b e) refl
      | inr ne ↦ rest ∙ ap (λ (x : Bool). cond (has_block more k) mark x) (get_or-set_other used b k mark false ne) ∙ rw (ne_eqb k b ne) refl
    ]

past_flag : (used : Used) (k : ℕ) → length used ≤ k → flag (get_or used k false) ≡ 0
past_flag used k le = ap flag (get_or_past used k false le)

flag-le : (b : Bool) → flag b ≤ 1
flag-le true = omega arith
flag-le false = omega arith

flag_one : (b : Bool) → 0 < flag b → b ≡ true
flag_one true h = refl
flag_one false h = absurd (omega arith)

pub flag_zero : (b : Bool) → flag b ≡ 0 → b ≡ false
flag_zero true h = absurd (omega arith)
flag_zero false h = refl

-- A list that is all marked names each block once at most, and only blocks below the size.
pub marked_few : (used : Used) (xs : List ℕ) → AreMarked used xs → (k : ℕ) → times k xs ≤ 1
marked_few used xs m k = omega (arith, m k, flag-le (get_or used k false))

pub marked_below : (used : Used) (xs part : List ℕ) → AreMarked used xs → ((k : ℕ) → times k part ≤ times k xs) → AreBelow (length used) part
marked_below used xs part m less = each_of (λ b. b < length used) part (λ k h.
    elim (cases_lt k (length used)) [
      | inl lt ↦ lt
      | inr le ↦ absurd (omega (arith, times_some k part h, less k, m k, past_flag used k le))
    ])

-- The marks after some of the blocks are given back.
pub marked_back : (used : Used) (xs part rest : List ℕ) → AreMarked used xs → ((k : ℕ) → times k xs ≡ times k part + times k rest) → AreMarked (marked false part used) rest
marked_back used xs part rest m split k =
    elim (cases_lt k (length used)) [
      | inl lt ↦ elim (cases_Bool (has_block part k)) [
        | inl has ↦
            let none : times k rest ≡ 0 = omega (arith, times_some k part has, split k, m k, flag-le (get_or used k false)) in
            none ∙ sym (ap flag (marked_at false part used k lt ∙ ap (λ t. cond t false (get_or used k false)) has))
        | inr hasn ↦
            let same : times k rest ≡ times k xs = omega (arith, times_none k part hasn, split k) in
            same ∙ m k ∙ sym (ap flag (marked_at false part used k lt ∙ ap (λ t. cond t false (get_or used k false)) hasn))
      ]
      | inr le ↦ omega (arith, split k, m k, past_flag used k le, past_flag (marked false part used) k (omega (arith, length-marked false part used)))
    ]

pub free_at : (used : Used) (k : ℕ) → is_used used k ≡ false → (k < length used) × (get_or used k false ≡ false)
free_at used k free =
    elim (cases_lt k (length used)) [
      | inl lt ↦ (lt, get_or_default used k false true lt ∙ free)
      | inr le ↦ absurd (true≢false (sym (get_or_past used k true le) ∙ free))
    ]

-- The marks after free blocks are adopted.
pub marked_more : (used : Used) (more rest whole : List ℕ) → AreMarked used rest → CanAdopt used more → ((k : ℕ) → times k whole ≡ times k more + times k rest) → AreMarked (marked true more used) whole
marked_more used more rest whole m can split k =
    elim (cases_Bool (has_block more k)) [
      | inl has ↦
          let free = free_at used k (at_each (λ b. is_used used b ≡ false) more can.0 k has) in
          let none : times k rest ≡ 0 = m k ∙ ap flag free.1 in
          let now : flag (get_or (marked true more used) k false) ≡ 1 = ap flag (marked_at true more used k free.0 ∙ ap (λ t. cond t true (get_or used k false)) has) in
          omega (arith, split k, times_some k more has, once_times more (once_distinct more can.1) k, none, now)
      | inr hasn ↦ elim (cases_lt k (length used)) [
        | inl lt ↦
            let now : flag (get_or (marked true more used) k false) ≡ flag (get_or used k false) = ap flag (marked_at true more used k lt ∙ ap (λ t. cond t true (get_or used k false)) hasn) in
            omega (arith, split k, times_none k more hasn, m k, now)
        | inr le ↦ omega (arith, split k, times_none k more hasn, m k, past_flag used k le, past_flag (marked true more used) k (omega (arith, length-marked true more used)))
      ]
    ]

-- The marks are those of the blocks alone.
pub marks_are : (used : Used) (xs : List ℕ) → AreMarked used xs → used ≡ marked true xs (replicate (length used) false)
marks_are used xs m =
    let none = replicate (length used) false in
    let long : length (marked true xs none) ≡ length used = length-marked true xs none ∙ length-replicate (length used) false in
    ext_get_or false used (marked true xs none) (sym long) (λ k lt.
    let there : get_or (marked true xs none) k false ≡ cond (has_block xs k) true false =
    marked_at true xs none k (omega (arith, length-replicate (length used) false)) ∙ ap (λ t. cond (has_block xs k) true t) (get_or-replicate (length used) k false false lt) in
    elim (cases_Bool (has_block xs k)) [
      | inl has ↦ flag_one _ (omega (arith, m k, times_some k xs has)) ∙ sym (there ∙ ap (λ t. cond t true false) has)
      | inr hasn ↦ flag_zero _ (sym (m k) ∙ times_none k xs hasn) ∙ sym (there ∙ ap (λ t. cond t true false) hasn)
    ])
