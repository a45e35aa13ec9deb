-- What a file can have, as its extents are tested and adopted.
use Rattle.std.proofs.Common.{◌≡◌, ℕ, zero, suc, ◌+◌, ◌-◌, ◌<◌, ◌≤◌, ◌==◌, Bool, true, false, not, ◌&&◌, List, [], ◌∷◌, ◌++◌, length, refl, sym, ap, ◌∙◌, inl, inr, arith}
use Rattle.std.specs.Prelude.{nat_lt, nat_le}
use Rattle.std.specs.List.{list_all, range_with_len, AllByRecursion}
use Rattle.std.proofs.lemmas.Bool.{cases_Bool, eq-eqb, eqb-true, false≢true, and_parts, and_from, lt-ltb, le-leb, ltb-true, leb-true}
use Rattle.std.proofs.lemmas.List.{get_or_default}
use Rattle.std.proofs.lemmas.List.Sums.{sum_by-cons}
use Rattle.opfs_base.specs.Blocks.{blocks}
use Rattle.opfs_base.specs.declared.extents.Extent.{Extent}
use Rattle.opfs_blocks.specs.Sets.{Used, is_used, blocks_in, blocks_of, AreBelow, CanAdopt}
use Rattle.opfs_blocks.proofs.SetLemmas.{below_at, all_front, all_back}
use Rattle.opfs_records.specs.Replay.Applying.{can_hold}
use Rattle.opfs_records.specs.Replay.Built.{block_count, has_block, is_once}
use Rattle.opfs_records.specs.Replay.Kept.{flag, AreMarked, has_blocks}
use Rattle.opfs_records.proofs.replay.Counts.{times_none, none_times, once_distinct, distinct_once, free_at, flag_zero}

-- ---- what holds of all

pub all_of : {X : Type 0} (p : X → Bool) (xs : List X) → list_all p xs ≡ true → AllByRecursion (λ x. p x ≡ true) xs
all_of p [] h = tt
all_of p (x ∷ xs) h = let parts = and_parts (p x) (list_all p xs) h in (parts.0, all_of p xs parts.1)

pub of_all : {X : Type 0} (p : X → Bool) (xs : List X) → AllByRecursion (λ x. p x ≡ true) xs → list_all p xs ≡ true
of_all p [] all = refl
of_all p (x ∷ xs) all = and_from (p x) (list_all p xs) all.0 (of_all p xs all.1)

pub all_both : {X : Type 0} (P Q R : X → Type 0) → ((x : X) → P x → Q x → R x) → (xs : List X) → AllByRecursion P xs → AllByRecursion Q xs → AllByRecursion R xs
all_both P Q R make [] p q = tt
all_both P Q R make (x ∷ xs) p q = (make x p.0 q.0, all_both P Q R make xs p.1 q.1)

pub all_more : {X : Type 0} (P Q : X → Type 0) → ((x : X) → P x → Q x) → (xs : List X) → AllByRecursion P xs → AllByRecursion Q xs
all_more P Q make [] p = tt
all_more P Q make (x ∷ xs) p = (make x p.0, all_more P Q make xs p.1)

all_append : (P : ℕ → Type 0) (a b : List ℕ) → AllByRecursion P a → AllByRecursion P b → AllByRecursion P (a ++ b)
all_append P [] b p q = q
all_append P (x ∷ a) b p q = (p.0, all_append P a b p.1 q)

-- ---- extents with blocks

abbrev HasBlock : Extent → Type 0
HasBlock e = 0 < e.count

count_cons : (e : Extent) (es : List Extent) → block_count (e ∷ es) ≡ e.count + block_count es
count_cons e es = sum_by-cons (λ (x : Extent). x.count) e es

pub blocks_are : (es : List Extent) (n : ℕ) → has_blocks es n ≡ true → AllByRecursion HasBlock es × (block_count es ≡ n)
blocks_are [] n h = (tt, sym (eqb-true n 0 h))
blocks_are (e ∷ es) n h =
    let parts = and_parts (nat_lt 0 e.count && nat_le e.count n) (has_blocks es (n - e.count)) h in
    let tests = and_parts (nat_lt 0 e.count) (nat_le e.count n) parts.0 in
    let rest = blocks_are es (n - e.count) parts.1 in
    ((ltb-true 0 e.count tests.0, rest.0), omega (arith, count_cons e es, rest.1, leb-true e.count n tests.1))

pub are_blocks : (es : List Extent) (n : ℕ) → AllByRecursion HasBlock es → block_count es ≡ n → has_blocks es n ≡ true
are_blocks [] n all sum = eq-eqb n 0 (sym sum)
are_blocks (e ∷ es) n all sum =
    and_from _ _ (and_from _ _ (lt-ltb 0 e.count all.0) (le-leb e.count n (omega (arith, count_cons e es, sum)))) (are_blocks es (n - e.count) all.1 (omega (arith, count_cons e es, sum)))

-- ---- extents below the size

abbrev pub is_within_size : ℕ → Extent → Bool
is_within_size size e = nat_lt 0 e.count && nat_le (e.start + e.count) size

run_below : (size start count : ℕ) → start + count ≤ size → AreBelow size (range_with_len start count)
run_below size start zero le = tt
run_below size start (suc count) le = (omega arith, run_below size (start + 1) count (omega arith))

pub are_below : (size : ℕ) (es : List Extent) → AllByRecursion (λ e. is_within_size size e ≡ true) es → AreBelow size (blocks_of es)
are_below size [] all = tt
are_below size (e ∷ es) all =
    all_append (λ b. b < size) (blocks_in e) (blocks_of es) (run_below size e.start e.count (leb-true _ _ (and_parts _ _ all.0).1)) (are_below size es all.1)

pub below_are : (size : ℕ) (es : List Extent) → AllByRecursion HasBlock es → AreBelow size (blocks_of es) → AllByRecursion (λ e. is_within_size size e ≡ true) es
below_are size [] some below = tt
below_are size (e ∷ es) some below =
    let last : e.start + (e.count - 1) < size = below_at size e.start e.count (e.count - 1) (all_front (λ b. b < size) (blocks_in e) (blocks_of es) below) (omega (arith, some.0)) in
    (and_from _ _ (lt-ltb 0 e.count some.0) (le-leb _ _ (omega (arith, last, some.0))), below_are size es some.1 (all_back (λ b. b < size) (blocks_in e) (blocks_of es) below))

-- ---- what a file can have

abbrev is_apart : List ℕ → ℕ → Bool
is_apart others block = not (has_block others block)

-- The four tests.
pub record Holds (size : ℕ) (others : List ℕ) (len : ℕ) (es : List Extent) : Type 0 where
  pub within : list_all (is_within_size size) es ≡ true
  pub sum : block_count es ≡ blocks len
  pub once : is_once (blocks_of es) ≡ true
  pub apart : list_all (is_apart others) (blocks_of es) ≡ true

pub four : (a b c d : Bool) → (a && b && c && d) ≡ true → (a ≡ true) × (b ≡ true) × (c ≡ true) × (d ≡ true)
four true true true d h = (refl, refl, refl, h)
four true true false d h = absurd (false≢true h)
four true false c d h = absurd (false≢true h)
four false b c d h = absurd (false≢true h)

four_from : (a b c d : Bool) → a ≡ true → b ≡ true → c ≡ true → d ≡ true → (a && b && c && d) ≡ true
four_from true true true d e f g h = h
four_from true true false d e f g h = absurd (false≢true g)
four_from true false c d e f g h = absurd (false≢true f)
four_from false b c d e f g h = absurd (false≢true e)

pub holds : (size : ℕ) (others : List ℕ) (len : ℕ) (es : List Extent) → can_hold size others len es ≡ true → Holds size others len es
holds size others len es h =
    let parts = four (list_all (is_within_size size) es) (block_count es == blocks len) (is_once (blocks_of es)) (list_all (is_apart others) (blocks_of es)) h in
    record { within = parts.0; sum = eqb-true _ _ parts.1; once = parts.2; apart = parts.3 }

pub hold_blocks : (size : ℕ) (others : List ℕ) (len : ℕ) (es : List Extent) → can_hold size others len es ≡ true → has_blocks es (blocks len) ≡ true
hold_blocks size others len es h =
    let all = holds size others len es h in
    are_blocks es (blocks len) (all_more (λ e. is_within_size size e ≡ true) HasBlock (λ e t. ltb-true 0 e.count (and_parts _ _ t).0) es (all_of (is_within_size size) es all.within)) all.sum

not_has : (b : Bool) → not b ≡ true → b ≡ false
not_has true h = absurd (false≢true h)
not_has false h = refl

pub hold_adopt : (used : Used) (others : List ℕ) (len : ℕ) (es : List Extent) → AreMarked used others → can_hold (length used) others len es ≡ true → CanAdopt used (blocks_of es)
hold_adopt used others len es m h =
    let all = holds (length used) others len es h in
    let below = are_below (length used) es (all_of (is_within_size (length used)) es all.within) in
    let apart = all_of (is_apart others) (blocks_of es) all.apart in (
      all_both (λ b. b < length used) (λ b. is_apart others b ≡ true) (λ b. is_used used b ≡ false)
          (λ b lt free. sym (get_or_default used b false true lt) ∙ flag_zero _ (sym (m b) ∙ times_none b others (not_has _ free))) (blocks_of es) below apart,
      distinct_once (blocks_of es) all.once,
    )

pub hold_from : (used : Used) (others : List ℕ) (len : ℕ) (es : List Extent) → AreMarked used others → has_blocks es (blocks len) ≡ true → CanAdopt used (blocks_of es) → can_hold (length used) others len es ≡ true
hold_from used others len es m has can =
    let sums = blocks_are es (blocks len) has in
    let below = all_more (λ b. is_used used b ≡ false) (λ b. b < length used) (λ b free. (free_at used b free).0) (blocks_of es) can.0 in
    let apart = all_more (λ b. is_used used b ≡ false) (λ b. is_apart others b ≡ true) (λ b free. ap not (none_times b others (m b ∙ ap flag (free_at used b free).1))) (blocks_of es) can.0 in
    four_from _ _ _ _ (of_all (is_within_size (length used)) es (below_are (length used) es sums.0 below)) (eq-eqb _ _ sums.1) (once_distinct (blocks_of es) can.1) (of_all (is_apart others) (blocks_of es) apart)

-- A file that can't have its extents.
pub hold_false : (size : ℕ) (others : List ℕ) (len : ℕ) (es : List Extent) → (can_hold size others len es ≡ true → ⊥) → can_hold size others len es ≡ false
hold_false size others len es no_hold = elim (cases_Bool (can_hold size others len es)) [ inl h ↦ absurd (no_hold h) | inr h ↦ h ]
