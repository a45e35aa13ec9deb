-- Sets of used blocks under marks, and their free blocks.
use Rattle.std.proofs.Common.{◌≡◌, ℕ, zero, suc, ◌+◌, ◌-◌, ◌<◌, ◌≤◌, Bool, true, false, cond, not, ◌&&◌, ◌||◌, eqb, List, [], ◌∷◌, ◌++◌, length, get_or, set, take, drop, refl, sym, ap, subst, ◌∙◌, inl, inr, append_assoc, arith, IsTrue, ◌↔◌}
use Rattle.std.specs.Prelude.{nat_eq}
use Rattle.std.specs.Bool.{OnTrue, OnFalse}
use Rattle.std.specs.List.{range_with_len, AllByRecursion, IsDistinct}
use Rattle.std.proofs.lemmas.Bool.{cases_eq, cases_lt, eq-eqb, ne_eqb, eqb-false, false≢true, true≢false}
use Rattle.std.proofs.lemmas.List.{ext_get_or, get_or-set_same, get_or-set_other, get_or_past, length-set, length_push, append-nil, drop_more, drop_all, drop-set-lt, take_more, take-append-drop}
use Rattle.opfs_base.specs.declared.extents.Extent.{Extent}
use Rattle.opfs_blocks.specs.Sets.{Used, free_from, free_blocks, marked, blocks_in, blocks_of, AreBelow, AreFree, CanAdopt, StartsPast, AreJoined}
use Rattle.opfs_blocks.specs.Steps.{IsFull, next_start, AreApart, can_adopt}

-- ---- marks

pub length-marked : (mark : Bool) (blocks : List ℕ) (used : Used) → length (marked mark blocks used) ≡ length used
length-marked mark [] used = refl
length-marked mark (b ∷ more) used = length-marked mark more (set used b mark) ∙ length-set used b mark

pub marked-append : (mark : Bool) (a b : List ℕ) (used : Used) → marked mark (a ++ b) used ≡ marked mark b (marked mark a used)
marked-append mark [] b used = refl
marked-append mark (x ∷ a) b used = marked-append mark a b (set used x mark)

-- whether a list names a block
named : ℕ → List ℕ → Bool
named k [] = false
named k (b ∷ more) = eqb k b || named k more

same_either : (b : Bool) (x : Bool) → cond b x x ≡ x
same_either true x = refl
same_either false x = refl

marked_at : (mark : Bool) (blocks : List ℕ) (used : Used) (k : ℕ) → k < length used → get_or (marked mark blocks used) k true ≡ cond (named k blocks) mark (get_or used k true)
unfolding named
marked_at mark [] used k lt = refl
marked_at mark (b ∷ more) used k lt =
    let lt' : k < length (set used b mark) = omega (arith, length-set used b mark) in
    let rest = marked_at mark more (set used b mark) k lt' in
    elim (cases_eq k b) [
      | inl e ↦ rest ∙ ap (λ (x : Bool). cond (named k more) mark x) (ap (λ (j : ℕ). get_or (set used b mark) j true) e ∙ get_or-set_same used b mark true (omega arith)) ∙ same_either (named k more) mark ∙ rw (eq-eqb k b e) refl
      | inr ne ↦ rest ∙ ap (λ (x : Bool). cond (named k more) mark x) (get_or-set_other used b k mark true ne) ∙ rw (ne_eqb k b ne) refl
    ]

or_true : (x y : Bool) → (x || y) ≡ true → x ≡ false → y ≡ true
or_true true y e f = absurd (true≢false f)
or_true false y e f = e

free_named : (used : Used) (blocks : List ℕ) (k : ℕ) → AreFree used blocks → named k blocks ≡ true → get_or used k true ≡ false
unfolding named
free_named used [] k free e = absurd (false≢true e)
free_named used (b ∷ more) k free e =
    elim (cases_eq k b) [
      | inl same ↦ ap (λ (j : ℕ). get_or used j true) same ∙ free.0
      | inr ne ↦ free_named used more k free.1 (or_true (eqb k b) (named k more) e (ne_eqb k b ne))
    ]

chosen_again : (b : Bool) (x : Bool) → (b ≡ true → x ≡ false) → cond b false (cond b true x) ≡ x
chosen_again true x h = sym (h refl)
chosen_again false x h = refl

-- free blocks that were made used, and then free again
pub restored : (used : Used) (blocks : List ℕ) → AreFree used blocks → marked false blocks (marked true blocks used) ≡ used
restored used blocks free =
    let long = length-marked true blocks used in
    ext_get_or true (marked false blocks (marked true blocks used)) used (length-marked false blocks (marked true blocks used) ∙ long)
    (λ k in'. let lt : k < length used = omega (arith, length-marked false blocks (marked true blocks used), long) in
    marked_at false blocks (marked true blocks used) k (omega (arith, long))
    ∙ ap (λ (x : Bool). cond (named k blocks) false x) (marked_at true blocks used k lt)
    ∙ chosen_again (named k blocks) (get_or used k true) (free_named used blocks k free))

-- what a run does not name stays
pub marked_below : (mark : Bool) (start count : ℕ) (used : Used) (k : ℕ) → k < start → get_or (marked mark (range_with_len start count) used) k true ≡ get_or used k true
marked_below mark start zero used k lt = refl
marked_below mark start (suc count) used k lt =
    marked_below mark (start + 1) count (set used start mark) k (omega arith) ∙ get_or-set_other used start k mark true (λ e. omega arith)

-- ---- runs

pub range-append : (start a b : ℕ) → range_with_len start (a + b) ≡ range_with_len start a ++ range_with_len (start + a) b
range-append start zero b = let e : 0 + b ≡ b = omega arith in let f : start + 0 ≡ start = omega arith in rw (e, f) refl
range-append start (suc a) b =
    let e : suc a + b ≡ suc (a + b) = omega arith in
    let f : start + suc a ≡ (start + 1) + a = omega arith in
    rw (e, f) (ap (λ (xs : List ℕ). start ∷ xs) (range-append (start + 1) a b))

pub range_more : (start count : ℕ) → range_with_len start (count + 1) ≡ range_with_len start count ++ (start + count) ∷ []
range_more start count = range-append start count 1

pub run_more : (mark : Bool) (start count : ℕ) (used : Used) → marked mark (range_with_len start (count + 1)) used ≡ set (marked mark (range_with_len start count) used) (start + count) mark
run_more mark start count used =
    ap (λ (xs : List ℕ). marked mark xs used) (range_more start count) ∙ marked-append mark (range_with_len start count) ((start + count) ∷ []) used

pub below_at : (size start count k : ℕ) → AreBelow size (range_with_len start count) → k < count → start + k < size
below_at size start zero k below lt = absurd (omega arith)
below_at size start (suc count) zero below lt = omega (arith, below.0)
below_at size start (suc count) (suc k) below lt = omega (arith, below_at size (start + 1) count k below.1 (omega arith))

pub all_front : (P : ℕ → Type 0) (a b : List ℕ) → AllByRecursion P (a ++ b) → AllByRecursion P a
all_front P [] b all = tt
all_front P (x ∷ a) b all = (all.0, all_front P a b all.1)

pub all_back : (P : ℕ → Type 0) (a b : List ℕ) → AllByRecursion P (a ++ b) → AllByRecursion P b
all_back P [] b all = all
all_back P (x ∷ a) b all = all_back P a b all.1

-- ---- adopting

and_regroup : (x y z : Bool) → (x && (y && z)) ≡ ((x && y) && z)
and_regroup true y z = refl
and_regroup false y z = refl

pub can_adopt-append : (used : Used) (a b : List ℕ) → can_adopt used (a ++ b) ≡ (can_adopt used a && can_adopt (marked true a used) b)
can_adopt-append used [] b = refl
can_adopt-append used (x ∷ a) b = rw (can_adopt-append (set used x true) a b) (and_regroup (not (get_or used x true)) (can_adopt (set used x true) a) (can_adopt (marked true a (set used x true)) b))

and_true : (x : Bool) → (x && true) ≡ x
and_true true = refl
and_true false = refl

unused_behind : (start count : ℕ) (used : Used) (k : ℕ) → start + count ≤ k → get_or (marked true (range_with_len start count) used) k true ≡ get_or used k true
unused_behind start zero used k le = refl
unused_behind start (suc count) used k le =
    unused_behind (start + 1) count (set used start true) k (omega arith) ∙ get_or-set_other used start k true true (λ e. omega arith)

pub adopt_more : (used : Used) (start count : ℕ) → can_adopt used (range_with_len start (count + 1)) ≡ (can_adopt used (range_with_len start count) && not (get_or used (start + count) true))
adopt_more used start count =
    ap (can_adopt used) (range_more start count) ∙ can_adopt-append used (range_with_len start count) ((start + count) ∷ [])
    ∙ ap (λ (b : Bool). can_adopt used (range_with_len start count) && b) (and_true (not (get_or (marked true (range_with_len start count) used) (start + count) true)) ∙ ap not (unused_behind start count used (start + count) (omega arith)))

and_false : (x y : Bool) → x ≡ false → (x && y) ≡ false
and_false true y e = absurd (true≢false e)
and_false false y e = refl

last_false : (x : Bool) → (x && false) ≡ false
last_false true = refl
last_false false = refl

pub refused_run : (used : Used) (start count k : ℕ) → k < count → get_or used (start + k) true ≡ true → can_adopt used (range_with_len start count) ≡ false
refused_run used start count k lt taken =
    let split : count ≡ (k + 1) + (count - (k + 1)) = omega arith in
    ap (λ (n : ℕ). can_adopt used (range_with_len start n)) split
    ∙ ap (can_adopt used) (range-append start (k + 1) (count - (k + 1)))
    ∙ can_adopt-append used (range_with_len start (k + 1)) (range_with_len (start + (k + 1)) (count - (k + 1)))
    ∙ and_false _ _ (adopt_more used start k ∙ rw taken (last_false (can_adopt used (range_with_len start k))))

pub both_true : (x y : Bool) → (x && y) ≡ true → (x ≡ true) × (y ≡ true)
both_true true y e = (refl, e)
both_true false y e = absurd (false≢true e)

taken_twice : (used : Used) (block b : ℕ) → block ≡ b → get_or (set used block true) b true ≡ false → ⊥
taken_twice used block b e free =
    elim (cases_lt block (length used)) [
      | inl lt ↦ true≢false (sym (ap (λ (j : ℕ). get_or (set used block true) j true) (sym e) ∙ get_or-set_same used block true true lt) ∙ free)
      | inr past ↦ true≢false (sym (get_or_past (set used block true) b true (omega (arith, length-set used block true))) ∙ free)
    ]

free_before : (used : Used) (block : ℕ) (blocks : List ℕ) → AreFree (set used block true) blocks → AreFree used blocks × AllByRecursion (λ other. nat_eq block other ≡ false) blocks
free_before used block [] free = (tt, tt)
free_before used block (b ∷ more) free =
    let rest = free_before used block more free.1 in
    let apart : block ≡ b → ⊥ = λ e. taken_twice used block b e free.0 in
    ((sym (get_or-set_other used block b true true (λ e. apart (sym e))) ∙ free.0, rest.0), (ne_eqb block b apart, rest.1))

free_after : (used : Used) (block : ℕ) (blocks : List ℕ) → AreFree used blocks → AllByRecursion (λ other. nat_eq block other ≡ false) blocks → AreFree (set used block true) blocks
free_after used block [] free apart = tt
free_after used block (b ∷ more) free apart =
    (get_or-set_other used block b true true (λ e. eqb-false block b apart.0 (sym e)) ∙ free.0, free_after used block more free.1 apart.1)

is_free : (b : Bool) → not b ≡ true → b ≡ false
is_free true e = absurd (false≢true e)
is_free false e = refl

pub adopts : (used : Used) (blocks : List ℕ) → can_adopt used blocks ≡ true → CanAdopt used blocks
unfolding IsDistinct
adopts used [] e = (tt, tt)
adopts used (b ∷ more) e =
    let parts = both_true (not (get_or used b true)) (can_adopt (set used b true) more) e in
    let rest = adopts (set used b true) more parts.1 in
    let before = free_before used b more rest.0 in
    ((is_free _ parts.0, before.0), (before.1, rest.1))

pub adopts_back : (used : Used) (blocks : List ℕ) → CanAdopt used blocks → can_adopt used blocks ≡ true
unfolding IsDistinct
adopts_back used [] can = refl
adopts_back used (b ∷ more) can =
    rw (can.0.0, adopts_back (set used b true) more (free_after used b more can.0.1 can.1.0, can.1.1)) refl

-- ---- free blocks

skip_by : (n place : ℕ) (used : Used) → place + n ≤ length used → ((k : ℕ) → place ≤ k → k < place + n → get_or used k true ≡ true)
    → free_from place (drop place used) ≡ free_from (place + n) (drop (place + n) used)
skip_by zero place used le full = let e : place + 0 ≡ place = omega arith in rw e refl
skip_by (suc n) place used le full =
    let e : place + suc n ≡ (place + 1) + n = omega arith in
    let here : drop place used ≡ true ∷ drop (place + 1) used = drop_more used place true (omega arith) ∙ ap (λ (b : Bool). b ∷ drop (place + 1) used) (full place (omega arith) (omega arith)) in
    ap (free_from place) here ∙ skip_by n (place + 1) used (omega arith) (λ k from lt. full k (omega arith) (omega arith)) ∙ ap (λ (j : ℕ). free_from j (drop j used)) (sym e)

pub skip : (place block : ℕ) (used : Used) → place ≤ block → block ≤ length used → ((k : ℕ) → place ≤ k → k < block → get_or used k true ≡ true)
    → free_from place (drop place used) ≡ free_from block (drop block used)
skip place block used le within full =
    let e : place + (block - place) ≡ block = omega arith in
    skip_by (block - place) place used (omega arith) (λ k from lt. full k from (omega arith)) ∙ ap (λ (j : ℕ). free_from j (drop j used)) e

pub skip_start : (place : ℕ) (used : Used) → IsFull place used → free_blocks used ≡ free_from place (drop place used)
skip_start place used full = skip 0 place used (omega arith) full.0 (λ k from lt. full.1 k lt)

pub first_free : (block : ℕ) (used : Used) → block < length used → get_or used block true ≡ false → free_from block (drop block used) ≡ block ∷ free_from (block + 1) (drop (block + 1) used)
first_free block used lt free =
    ap (free_from block) (drop_more used block true lt ∙ ap (λ (b : Bool). b ∷ drop (block + 1) used) free)

pub none_free : (block : ℕ) (used : Used) → length used ≤ block → free_from block (drop block used) ≡ []
none_free block used le = ap (free_from block) (drop_all block used le)

pub full_more : (place block : ℕ) (used : Used) → IsFull place used → block < length used → ((k : ℕ) → place ≤ k → k < block → get_or used k true ≡ true) → IsFull (block + 1) (set used block true)
full_more place block used full lt passed = (
  omega (arith, length-set used block true),
  λ k below.
      elim (cases_eq k block) [
        | inl e ↦ ap (λ (j : ℕ). get_or (set used block true) j true) e ∙ get_or-set_same used block true true lt
        | inr ne ↦ get_or-set_other used block k true true ne ∙ elim (cases_lt k place) [
          | inl before ↦ full.1 k before
          | inr behind ↦ passed k behind (omega arith)
        ]
      ],
)

-- ---- extents

pub blocks_of-push : (es : List Extent) (e : Extent) → blocks_of (es ++ e ∷ []) ≡ blocks_of es ++ blocks_in e
blocks_of-push [] e = append-nil (blocks_in e)
blocks_of-push (f ∷ es) e = ap (λ (xs : List ℕ). blocks_in f ++ xs) (blocks_of-push es e) ∙ sym (append_assoc (blocks_in f) (blocks_of es) (blocks_in e))

pub blocks_of-append : (a b : List Extent) → blocks_of (a ++ b) ≡ blocks_of a ++ blocks_of b
blocks_of-append [] b = refl
blocks_of-append (f ∷ a) b = ap (λ (xs : List ℕ). blocks_in f ++ xs) (blocks_of-append a b) ∙ sym (append_assoc (blocks_in f) (blocks_of a) (blocks_of b))

next_push : (es : List Extent) (e : Extent) (behind : ℕ) → next_start (es ++ e ∷ []) behind ≡ next_start es e.start
next_push [] e behind = refl
next_push (f ∷ es) e behind = refl

pub apart_push : (es : List Extent) (e : Extent) (behind : ℕ) → AreApart es e.start → 0 < e.count → e.start + e.count < behind → AreApart (es ++ e ∷ []) behind
apart_push [] e behind apart some lt = (some, lt, tt)
apart_push (f ∷ es) e behind apart some lt = (apart.0, rw (next_push es e behind) apart.1, apart_push es e behind apart.2 some lt)

later_start : (es : List Extent) (a b : ℕ) → a ≤ b → next_start es a ≤ next_start es b
later_start [] a b le = le
later_start (f ∷ es) a b le = omega arith

pub apart_later : (es : List Extent) (a b : ℕ) → a ≤ b → AreApart es a → AreApart es b
apart_later [] a b le apart = tt
apart_later (f ∷ es) a b le apart = (apart.0, omega (arith, later_start es a b le, apart.1), apart_later es a b le apart.2)

starts_past : (es : List Extent) (end behind : ℕ) → end < next_start es behind → StartsPast end es
starts_past [] end behind lt = tt
starts_past (f ∷ es) end behind lt = lt

pub joined : (es : List Extent) (behind : ℕ) → AreApart es behind → AreJoined es
joined [] behind apart = tt
joined (e ∷ es) behind apart = (apart.0, starts_past es (e.start + e.count) behind apart.1, joined es behind apart.2)

-- ---- steps of loops over extents

pub drop_next : (es : List Extent) (i : ℕ) (d : Extent) → i < length es → blocks_of (drop i es) ≡ blocks_in (get_or es i d) ++ blocks_of (drop (i + 1) es)
drop_next es i d lt = ap blocks_of (drop_more es i d lt)

pub take_next : (es : List Extent) (i : ℕ) (d : Extent) → i < length es → blocks_of (take (i + 1) es) ≡ blocks_of (take i es) ++ blocks_in (get_or es i d)
take_next es i d lt = ap blocks_of (take_more es i d lt) ∙ blocks_of-push (take i es) (get_or es i d)

free_below : (used : Used) (blocks : List ℕ) → AreFree used blocks → AreBelow (length used) blocks
free_below used [] free = tt
free_below used (b ∷ more) free = (
  elim (cases_lt b (length used)) [
    | inl lt ↦ lt
    | inr past ↦ absurd (true≢false (sym (get_or_past used b true past) ∙ free.0))
  ],
  free_below used more free.1,
)

pub adopted_below : (used : Used) (blocks : List ℕ) → can_adopt used blocks ≡ true → AreBelow (length used) blocks
adopted_below used blocks e = free_below used blocks (adopts used blocks e).0

pub refused_all : (es : List Extent) (used : Used) (i : ℕ) (d : Extent) → i < length es → can_adopt (marked true (blocks_of (take i es)) used) (blocks_in (get_or es i d)) ≡ false
    → can_adopt used (blocks_of es) ≡ false
refused_all es used i d lt refused =
    ap (λ (xs : List Extent). can_adopt used (blocks_of xs)) (sym (take-append-drop (i + 1) es))
    ∙ ap (can_adopt used) (blocks_of-append (take (i + 1) es) (drop (i + 1) es))
    ∙ can_adopt-append used (blocks_of (take (i + 1) es)) (blocks_of (drop (i + 1) es))
    ∙ and_false _ _ (ap (can_adopt used) (take_next es i d lt) ∙ can_adopt-append used (blocks_of (take i es)) (blocks_in (get_or es i d)) ∙ rw refused (last_false (can_adopt used (blocks_of (take i es)))))

pub full_marked : (place : ℕ) (used : Used) (blocks : List ℕ) → IsFull place used → IsFull place (marked true blocks used)
full_marked place used [] full = full
full_marked place used (b ∷ more) full =
    full_marked place (set used b true) more (
      omega (arith, full.0, length-set used b true),
      λ k lt.
          elim (cases_eq k b) [
            | inl e ↦ ap (λ (j : ℕ). get_or (set used b true) j true) e ∙ get_or-set_same used b true true (omega (arith, full.0))
            | inr ne ↦ get_or-set_other used b k true true ne ∙ full.1 k lt
          ],
    )

pub kept_full : (place : ℕ) (result : Bool) (old new : Used) (blocks : List ℕ) → IsFull place old → OnTrue result (new ≡ marked true blocks old) → OnFalse result (new ≡ old) → IsFull place new
kept_full place true old new blocks full taken refused = subst (IsFull place) (sym taken) (full_marked place old blocks full)
kept_full place false old new blocks full taken refused = subst (IsFull place) (sym refused) full

pub full_lower : (place lowest least : ℕ) (old new : Used) → IsFull place old → length new ≡ length old → ((k : ℕ) → k < lowest → get_or new k true ≡ get_or old k true) → least ≤ place → least ≤ lowest → IsFull least new
full_lower place lowest least old new full long same a b = (omega (arith, full.0), λ k lt. same k (omega arith) ∙ full.1 k (omega arith))

pub adopt_iff : (used seen : Used) (blocks : List ℕ) (result : Bool) → used ≡ seen → result ≡ can_adopt used blocks → IsTrue result ↔ CanAdopt seen blocks
adopt_iff used seen blocks result same e =
    let f : result ≡ can_adopt seen blocks = e ∙ ap (λ (m : Used). can_adopt m blocks) same in
    (λ t. adopts seen blocks (sym f ∙ t), λ can. f ∙ adopts_back seen blocks can)

-- ---- the loop that takes free blocks

pub none_taken : (into : List Extent) (place : ℕ) (used : Used) → into ≡ [] → IsFull place used
    → ((blocks_of into ++ []) ++ free_from place (drop place used) ≡ free_blocks used) × (length (blocks_of into ++ []) ≡ 0) × (used ≡ marked true (blocks_of into ++ []) used) × AreApart into place
none_taken [] place used e full = (sym (skip_start place used full), refl, refl, tt)
none_taken (x ∷ into) place used e full = absurd cc

pub one_taken : (place block : ℕ) (used new start : Used) (taken after : List ℕ) (count : ℕ)
    → IsFull place used → taken ++ free_from place (drop place used) ≡ free_blocks start → length taken ≡ count → used ≡ marked true taken start
    → place ≤ block → block < length used → ((k : ℕ) → place ≤ k → k < block → get_or used k true ≡ true) → get_or used block true ≡ false
    → new ≡ set used block true → after ≡ taken ++ block ∷ []
    → IsFull (block + 1) new × (after ++ free_from (block + 1) (drop (block + 1) new) ≡ free_blocks start) × (length after ≡ count + 1) × (new ≡ marked true after start)
one_taken place block used new start taken after count full blocks counted was le lt passed clear is more =
    let rest : free_from place (drop place used) ≡ block ∷ free_from (block + 1) (drop (block + 1) used) = skip place block used le (omega arith) passed ∙ first_free block used lt clear in
    let kept : drop (block + 1) new ≡ drop (block + 1) used = ap (drop (block + 1)) is ∙ drop-set-lt (block + 1) used block true (omega arith) in (
      subst (IsFull (block + 1)) (sym is) (full_more place block used full lt passed),
      ap (λ (xs : List ℕ). xs ++ free_from (block + 1) (drop (block + 1) new)) more ∙ append_assoc taken (block ∷ []) (free_from (block + 1) (drop (block + 1) new))
          ∙ ap (λ (xs : Used). taken ++ block ∷ free_from (block + 1) xs) kept ∙ ap (λ (xs : List ℕ). taken ++ xs) (sym rest) ∙ blocks,
      ap length more ∙ length_push taken block ∙ omega arith,
      is ∙ ap (λ (m : Used). set m block true) was ∙ sym (marked-append true taken (block ∷ []) start) ∙ ap (λ (xs : List ℕ). marked true xs start) (sym more),
    )

-- the number of blocks stays
pub size_kept : (result : Bool) (old new : Used) (blocks : List ℕ) → OnTrue result (new ≡ marked true blocks old) → OnFalse result (new ≡ old) → length new ≡ length old
size_kept true old new blocks taken refused = ap length taken ∙ length-marked true blocks old
size_kept false old new blocks taken refused = ap length refused
