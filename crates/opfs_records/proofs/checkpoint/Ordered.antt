-- Persistent units in order, one after another.
use Rattle.std.proofs.Common.{◌≡◌, ◌&&◌, Bool, true, false, cond, List, [], ◌∷◌, map, filter, Option, Some, None, option_map, find, refl, sym, ap, subst, ◌∙◌}
use Rattle.std.specs.List.{AllByRecursion}
use Rattle.std.specs.List.Sorted.{IsStrictlySortedBy}
use Rattle.std.specs.Ordering.{is_lt, ordering_reverse}
use Rattle.std.specs.declared.cmp.Ordering.{Ordering}
use Rattle.std.specs.declared.cmp.Ordering.TheVariants.{Less, Equal, Greater}
use Rattle.std.specs.Cmp.{IsTotalOrder, tied_itself}
use Rattle.std.specs.Cmp.Lexicographic.{nat_list_cmp_total}
use Rattle.opfs_base.specs.Texts.{Text}
use Rattle.opfs_shed.specs.declared.shed.Bucket.{Bucket}
use Rattle.opfs_shed.specs.Buckets.{Buckets, text_cmp, is_past, persistent_past}
use Rattle.opfs_records.specs.Replay.Sums.{persistent_in}

abbrev passes : Option Text → Text × Bucket → Bool
passes after e = is_past after e.0 && e.1.persistent

-- The persistent units past another, or past nothing.
abbrev pub persistent_behind : Option Text → Buckets → List Text
persistent_behind after es = map (λ e. e.0) (filter (λ e. is_past after e.0 && e.1.persistent) es)

text_total : IsTotalOrder text_cmp
text_total = nat_list_cmp_total

abbrev pub keys : Buckets → List Text
keys es = map (λ e. e.0) es

abbrev pub AllPast : Text → List Text → Type 0
AllPast x ys = AllByRecursion (λ y. text_cmp x y ≡ Less) ys

pub lt_less : (o : Ordering) → is_lt o ≡ true → o ≡ Less
lt_less Less h = refl
lt_less Equal h = absurd cc
lt_less Greater h = absurd cc

-- What is past a unit is past another that it is past.
past_more : (after : Option Text) (x y : Text) → is_past after x ≡ true → text_cmp x y ≡ Less → is_past after y ≡ true
past_more None x y h less = refl
past_more (Some a) x y h less = ap is_lt (text_total.trans a x y (lt_less _ h) less)

and_left : (a b : Bool) → (a && b) ≡ true → a ≡ true
and_left true b h = refl
and_left false b h = h

not_past : (x y : Text) (b : Bool) → text_cmp y x ≡ Less → (is_lt (text_cmp x y) && b) ≡ false
not_past x y b less = ap (λ o. is_lt o && b) (text_total.antisymm x y ∙ ap ordering_reverse less)

not_itself : (x : Text) (b : Bool) → (is_lt (text_cmp x x) && b) ≡ false
not_itself x b = ap (λ o. is_lt o && b) (tied_itself text_total x)

-- Past one of two places below a list, the same of it are.
agree : (after : Option Text) (x : Text) (es : Buckets) → is_past after x ≡ true → AllPast x (keys es) → persistent_behind after es ≡ persistent_behind (Some x) es
agree after x [] h all = refl
agree after x (e ∷ es) h all =
    ap (λ t. keys (cond (t && e.1.persistent) (e ∷ filter (passes after) es) (filter (passes after) es))) (past_more after x e.0 h all.0)
    ∙ (elim e.1.persistent as (λ t. keys (cond t (e ∷ filter (passes after) es) (filter (passes after) es)) ≡ keys (cond t (e ∷ filter (passes (Some x)) es) (filter (passes (Some x)) es))) [
      | true ↦ ap (λ xs. e.0 ∷ xs) (agree after x es h all.1)
      | false ↦ agree after x es h all.1
    ])
    ∙ ap (λ t. keys (cond (t && e.1.persistent) (e ∷ filter (passes (Some x)) es) (filter (passes (Some x)) es))) (sym (ap is_lt all.0))

some_same : (x y : Text) → ◌≡◌ {A = Option Text} (Some x) (Some y) → x ≡ y
some_same x y e = cc

abbrev first_by : Bool → Option Text → Text × Bucket → Buckets → Option Text
first_by t after e es = option_map (λ x. x.0) (cond t (Some e) (find (passes after) es))

-- The unit that is found is past all that are before the list.
found_past : (after : Option Text) (x u : Text) (es : Buckets) → persistent_past after es ≡ Some u → AllPast x (keys es) → text_cmp x u ≡ Less
found_past after x u [] found all = absurd cc
found_past after x u (e ∷ es) found all =
    elim (passes after e) as (λ t. first_by t after e es ≡ Some u → text_cmp x u ≡ Less) [
      | true ↦ λ f. subst (λ (y : Text). text_cmp x y ≡ Less) (some_same e.0 u f) all.0
      | false ↦ λ f. found_past after x u es f all.1
    ] found

abbrev behind_by : Bool → Option Text → Text × Bucket → Buckets → List Text
behind_by t after e es = keys (cond t (e ∷ filter (passes after) es) (filter (passes after) es))

-- The first unit past another begins those that are past it.
pub behind_next : (after : Option Text) (u : Text) (es : Buckets) → IsStrictlySortedBy text_cmp (keys es) → persistent_past after es ≡ Some u → persistent_behind after es ≡ u ∷ persistent_behind (Some u) es
unfolding IsStrictlySortedBy
behind_next after u [] sorted found = absurd cc
behind_next after u (e ∷ es) sorted found =
    elim (passes after e) as (λ t. passes after e ≡ t → first_by t after e es ≡ Some u → behind_by t after e es ≡ u ∷ persistent_behind (Some u) (e ∷ es)) [
      | true ↦ λ is f.
          let same = some_same e.0 u f in
          let rest = agree after e.0 es (and_left _ _ is) sorted.0 in
          let last : persistent_behind (Some e.0) (e ∷ es) ≡ persistent_behind (Some e.0) es = ap (λ t. behind_by t (Some e.0) e es) (not_itself e.0 e.1.persistent) in
          ap (λ xs. e.0 ∷ xs) (rest ∙ sym last) ∙ ap (λ (x : Text). x ∷ persistent_behind (Some x) (e ∷ es)) same
      | false ↦ λ is f.
          let past = found_past after e.0 u es f sorted.0 in
          let last : persistent_behind (Some u) (e ∷ es) ≡ persistent_behind (Some u) es = ap (λ t. behind_by t (Some u) e es) (not_past u e.0 e.1.persistent past) in
          behind_next after u es sorted.1 f ∙ ap (λ xs. u ∷ xs) (sym last)
    ] refl found

pub behind_none : (after : Option Text) (es : Buckets) → persistent_past after es ≡ None → persistent_behind after es ≡ []
behind_none after [] none = refl
behind_none after (e ∷ es) none =
    elim (passes after e) as (λ t. first_by t after e es ≡ None → behind_by t after e es ≡ []) [
      | true ↦ λ f. absurd cc
      | false ↦ λ f. behind_none after es f
    ] none

pub past_persistent : (x : Text) (es : Buckets) → AllPast x (keys es) → AllPast x (persistent_in es)
past_persistent x [] all = tt
past_persistent x (e ∷ es) all =
    elim e.1.persistent as (λ t. AllPast x (keys (cond t (e ∷ filter (λ y. y.1.persistent) es) (filter (λ y. y.1.persistent) es)))) [
      | true ↦ (all.0, past_persistent x es all.1)
      | false ↦ past_persistent x es all.1
    ]

-- The persistent units are in order as all are.
pub persistent_sorted : (es : Buckets) → IsStrictlySortedBy text_cmp (keys es) → IsStrictlySortedBy text_cmp (persistent_in es)
unfolding IsStrictlySortedBy
persistent_sorted [] sorted = tt
persistent_sorted (e ∷ es) sorted =
    elim e.1.persistent as (λ t. IsStrictlySortedBy text_cmp (keys (cond t (e ∷ filter (λ y. y.1.persistent) es) (filter (λ y. y.1.persistent) es)))) [
      | true ↦ (past_persistent e.0 es sorted.0, persistent_sorted es sorted.1)
      | false ↦ persistent_sorted es sorted.1
    ]
