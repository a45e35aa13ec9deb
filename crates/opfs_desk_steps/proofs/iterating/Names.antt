-- Names in order, and which of them were given.
use Rattle.std.proofs.Common.{◌≡◌, ℕ, suc, ◌<◌, ◌||◌, ◌++◌, Bool, true, false, not, cond, List, [], ◌∷◌, length, get_or, drop, Option, Some, None, refl, sym, ap, ◌∙◌, subst, inl, inr}
use Rattle.std.proofs.Math.Seq.{drop-cons}
use Rattle.std.proofs.lemmas.Bool.{cases_Bool, false≢true, and_parts}
use Rattle.std.specs.Cmp.Lexicographic.{slice_cmp, nat_list_cmp_total, texts_ties}
use Rattle.std.specs.FinMap.Entries.{is_sorted, below_all}
use Rattle.std.specs.List.{AllByRecursion, cons_option, filter_map, list_any}
use Rattle.std.specs.List.Sorted.{IsStrictlySortedBy}
use Rattle.std.specs.Ordering.{is_eq, is_lt, nat_cmp, ordering_then, ordering_reverse}
use Rattle.std.specs.declared.cmp.Ordering.{Ordering}
use Rattle.std.specs.declared.cmp.Ordering.TheVariants.{Less, Equal, Greater}
use Rattle.opfs_base.specs.Places.{Place, child, child_name, only_name, place_cmp, rest_below}
use Rattle.opfs_base.specs.Texts.{Text, same_text}
use Rattle.opfs_machine.specs.Contents.{next_of}
use Rattle.opfs_state_rows.proofs.standing.Units.{same_unit, unit_itself}
use Rattle.opfs_desk_steps.specs.Iterating.Below.{AreUpTo}
use Rattle.opfs_desk_steps.specs.Iterating.Reached.{AreGivenUpTo, AreNotGivenAbove}

abbrev pub text_cmp : Text → Text → Ordering
text_cmp = slice_cmp nat_cmp

abbrev pub path_cmp : List Text → List Text → Ordering
path_cmp = slice_cmp (slice_cmp nat_cmp)

-- ---- a child's name and place

rest-child : (path : List Text) (name : Text) → rest_below path (path ++ name ∷ []) ≡ Some (name ∷ [])
rest-child [] name = refl
rest-child (a ∷ path) name = ap (λ b. elim b as (λ y. Option (List Text)) [ true ↦ rest_below path (path ++ name ∷ []) | false ↦ None ]) (unit_itself a a refl) ∙ rest-child path name

pub child-named : (dir : Place) (name : Text) → child_name dir (child dir name) ≡ Some name
child-named dir name =
    ap (λ b. elim b as (λ y. Option Text) [ true ↦ only_name (rest_below dir.1 (dir.1 ++ name ∷ [])) | false ↦ None ]) (unit_itself dir.0 dir.0 refl)
    ∙ ap only_name (rest-child dir.1 name)

only-path : (names : List Text) (name : Text) → only_name (Some names) ≡ Some name → names ≡ name ∷ []
only-path [] name is = cc
only-path (a ∷ []) name is = cc
only-path (a ∷ b ∷ names) name is = cc

rest-is : (path names : List Text) (name : Text) → only_name (rest_below path names) ≡ Some name → names ≡ path ++ name ∷ []
rest-is [] names name is = only-path names name is
rest-is (a ∷ path) [] name is = cc
rest-is (a ∷ path) (b ∷ names) name is = elim (cases_Bool (same_text a b)) [
  | inl same ↦
      let rest = rest-is path names name (sym (ap (λ t. only_name (elim t as (λ y. Option (List Text)) [ true ↦ rest_below path names | false ↦ None ])) same) ∙ is) in
      ap (λ (x : Text). x ∷ names) (sym (same_unit a b same)) ∙ ap (λ (xs : List Text). a ∷ xs) rest
  | inr other ↦ absurd (none-some (sym (ap (λ t. only_name (elim t as (λ y. Option (List Text)) [ true ↦ rest_below path names | false ↦ None ])) other) ∙ is))
]
  where
    none-some : ◌≡◌ {A = Option Text} None (Some name) → ⊥
    none-some h = cc

pair-is : (a b : Place) → a.0 ≡ b.0 → a.1 ≡ b.1 → a ≡ b
pair-is (x, xs) (y, ys) first second = ap (λ (z : Text). (z, xs)) first ∙ ap (λ (zs : List Text). (y, zs)) second

pub child-is : (dir place : Place) (name : Text) → child_name dir place ≡ Some name → place ≡ child dir name
child-is dir place name is = elim (cases_Bool (same_text dir.0 place.0)) [
  | inl same ↦
      pair-is place (child dir name) (sym (same_unit dir.0 place.0 same))
      (rest-is dir.1 place.1 name (sym (ap (λ t. elim t as (λ y. Option Text) [ true ↦ only_name (rest_below dir.1 place.1) | false ↦ None ]) same) ∙ is))
  | inr other ↦ absurd (none-some (sym (ap (λ t. elim t as (λ y. Option Text) [ true ↦ only_name (rest_below dir.1 place.1) | false ↦ None ]) other) ∙ is))
]
  where
    none-some : ◌≡◌ {A = Option Text} None (Some name) → ⊥
    none-some h = cc

-- ---- the order of a directory's names

text-itself : (x : Text) → is_eq (text_cmp x x) ≡ true
text-itself x = sym (texts_ties x x) ∙ unit_itself x x refl

equal-by : (o : Ordering) → is_eq o ≡ true → o ≡ Equal
equal-by Less h = absurd cc
equal-by Equal h = refl
equal-by Greater h = absurd cc

then-equal : (o : Ordering) → ordering_then o Equal ≡ o
then-equal Less = refl
then-equal Equal = refl
then-equal Greater = refl

paths-by : (path : List Text) (a b : Text) → path_cmp (path ++ a ∷ []) (path ++ b ∷ []) ≡ text_cmp a b
paths-by [] a b = then-equal (text_cmp a b)
paths-by (x ∷ path) a b = ap (λ o. ordering_then o (path_cmp (path ++ a ∷ []) (path ++ b ∷ []))) (equal-by (text_cmp x x) (text-itself x)) ∙ paths-by path a b

children-by : (dir : Place) (a b : Text) → place_cmp (child dir a) (child dir b) ≡ text_cmp a b
children-by dir a b = ap (λ o. ordering_then o (path_cmp (dir.1 ++ a ∷ []) (dir.1 ++ b ∷ []))) (equal-by (text_cmp dir.0 dir.0) (text-itself dir.0)) ∙ paths-by dir.1 a b

less-by : (o : Ordering) → is_lt o ≡ true → o ≡ Less
less-by Less h = refl
less-by Equal h = absurd cc
less-by Greater h = absurd cc

module _ {X : Type 0} (dir : Place) where
  abbrev pub names : List (Place × X) → List Text
  names rows = filter_map (λ e. child_name dir e.0) rows

  all-behind : (place : Place) (name : Text) (rows : List (Place × X)) → place ≡ child dir name → below_all place_cmp place rows ≡ true → AllByRecursion (λ y. text_cmp name y ≡ Less) (names rows)
  all-behind place name [] at h = tt
  all-behind place name (e ∷ rows) at h =
      let both = and_parts (is_lt (place_cmp place e.0)) (below_all place_cmp place rows) h in
      let rest = all-behind place name rows at both.1 in
      elim (child_name dir e.0) as (λ o. child_name dir e.0 ≡ o → AllByRecursion (λ y. text_cmp name y ≡ Less) (cons_option o (names rows))) [
        | None ↦ λ is. rest
        | Some other ↦ λ is.
            (sym (children-by dir name other) ∙ (ap (λ (p : Place). place_cmp p (child dir other)) (sym at) ∙ (ap (λ (p : Place). place_cmp place p) (sym (child-is dir e.0 other is)) ∙ less-by (place_cmp place e.0) both.0)), rest)
      ] refl

  pub names-rise : (rows : List (Place × X)) → is_sorted place_cmp rows ≡ true → IsStrictlySortedBy text_cmp (names rows)
  unfolding IsStrictlySortedBy
  names-rise [] h = tt
  names-rise (e ∷ rows) h =
      let both = and_parts (below_all place_cmp e.0 rows) (is_sorted place_cmp rows) h in
      let rest = names-rise rows both.1 in
      elim (child_name dir e.0) as (λ o. child_name dir e.0 ≡ o → IsStrictlySortedBy text_cmp (cons_option o (names rows))) [
        | None ↦ λ is. rest
        | Some name ↦ λ is. (all-behind e.0 name rows (child-is dir e.0 name is) both.0, rest)
      ] refl

-- ---- one name more is given

abbrev is_given : List Text → Text → Bool
is_given past name = list_any (same_text name) past

or-false : (b : Bool) → (b || false) ≡ b
or-false true = refl
or-false false = refl

or-true : (b : Bool) → (b || true) ≡ true
or-true true = refl
or-true false = refl

-- What was given, or is the name.
pub given-more : (past : List Text) (name other : Text) → is_given (past ++ name ∷ []) other ≡ (is_given past other || same_text other name)
given-more [] name other = or-false (same_text other name)
given-more (x ∷ past) name other = ap (λ b. same_text other x || b) (given-more past name other) ∙ grouped (same_text other x) (is_given past other) (same_text other name)
  where
    grouped : (a b c : Bool) → (a || (b || c)) ≡ ((a || b) || c)
    grouped true b c = refl
    grouped false b c = refl

not-both : (x y : Text) → text_cmp x y ≡ Less → is_lt (text_cmp y x) ≡ false
not-both x y less = ap is_lt (nat_list_cmp_total.antisymm y x ∙ ap ordering_reverse less)

not-same : (x y : Text) → text_cmp x y ≡ Less → same_text y x ≡ false
not-same x y less = texts_ties y x ∙ ap is_eq (nat_list_cmp_total.antisymm y x ∙ ap ordering_reverse less)

-- A later name is above.
later-above : (past : List Text) (x name : Text) (xs : List Text) → AllByRecursion (λ y. text_cmp x y ≡ Less) xs → next_of past xs ≡ Some name → text_cmp x name ≡ Less
later-above past x name [] all is = absurd cc
later-above past x name (y ∷ xs) all is = elim (cases_Bool (is_given past y)) [
  | inl given ↦ later-above past x name xs all.1 (sym (ap (λ b. cond (not b) (Some y) (next_of past xs)) given) ∙ is)
  | inr new ↦ let same : y ≡ name = some-text (sym (ap (λ b. cond (not b) (Some y) (next_of past xs)) new) ∙ is) in subst (λ (z : Text). text_cmp x z ≡ Less) same all.0
]
  where
    some-text : ◌≡◌ {A = Option Text} (Some y) (Some name) → y ≡ name
    some-text e = cc

-- All that stands behind the name is not given.
behind-new : (past : List Text) (name : Text) (xs : List Text) → AllByRecursion (λ y. text_cmp name y ≡ Less) xs → AreNotGivenAbove past name xs → AreGivenUpTo (past ++ name ∷ []) name xs
behind-new past name [] all above = tt
behind-new past name (y ∷ xs) all above =
    let lt : is_lt (text_cmp name y) ≡ true = ap is_lt all.0 in
    let no : is_given (past ++ name ∷ []) y ≡ false =
    given-more past name y ∙ (ap (λ b. b || same_text y name) (above.0 lt) ∙ not-same name y all.0)
    in
    (no ∙ sym (ap not lt), behind-new past name xs all.1 above.1)

-- Once the next name is given, all up to it are.
pub advanced : (past : List Text) (name : Text) (xs : List Text) → IsStrictlySortedBy text_cmp xs → next_of past xs ≡ Some name → AreNotGivenAbove past name xs → AreGivenUpTo (past ++ name ∷ []) name xs
unfolding IsStrictlySortedBy
advanced past name [] rise is above = tt
advanced past name (x ∷ xs) rise is above = elim (cases_Bool (is_given past x)) [
  | inl given ↦
      let rest = sym (ap (λ b. cond (not b) (Some x) (next_of past xs)) given) ∙ is in
      let yes : is_given (past ++ name ∷ []) x ≡ true = given-more past name x ∙ ap (λ b. b || same_text x name) given in
      (yes ∙ sym (ap not (not-both x name (later-above past x name xs rise.0 rest))), advanced past name xs rise.1 rest above.1)
  | inr new ↦
      let same : x ≡ name = some-text (sym (ap (λ b. cond (not b) (Some x) (next_of past xs)) new) ∙ is) in
      let yes : is_given (past ++ name ∷ []) x ≡ true = given-more past name x ∙ (ap (λ b. is_given past x || b) (unit_itself x name same) ∙ or-true (is_given past x)) in
      let level : is_lt (text_cmp name x) ≡ false = ap (λ (z : Text). is_lt (text_cmp name z)) same ∙ ap is_lt (equal-by (text_cmp name name) (text-itself name)) in
      (yes ∙ sym (ap not level), behind-new past name xs (subst (λ (z : Text). AllByRecursion (λ y. text_cmp z y ≡ Less) xs) same rise.0) above.1)
]
  where
    some-text : ◌≡◌ {A = Option Text} (Some x) (Some name) → x ≡ name
    some-text e = cc

-- ---- where nothing above it was given

not-above : (past : List Text) (last name : Text) (xs : List Text) → AreGivenUpTo past last xs → text_cmp last name ≡ Less → AreNotGivenAbove past name xs
not-above past last name [] up less = tt
not-above past last name (x ∷ xs) up less =
    (λ lt. up.0 ∙ ap (λ o. not (is_lt o)) (nat_list_cmp_total.trans last name x less (less-by (text_cmp name x) lt)), not-above past last name xs up.1 less)

pub known-above : (past : List Text) (last name : Text) (xs : List Text) → AreGivenUpTo past last xs → is_given past name ≡ false → list_any (same_text name) xs ≡ true → AreNotGivenAbove past name xs
known-above past last name xs up new there = not-above past last name xs up (less-by (text_cmp last name) (among xs up there))
  where
    flip : (b : Bool) → false ≡ not b → b ≡ true
    flip true h = refl
    flip false h = absurd cc

    among : (ys : List Text) → AreGivenUpTo past last ys → list_any (same_text name) ys ≡ true → is_lt (text_cmp last name) ≡ true
    among [] all is = absurd (false≢true is)
    among (y ∷ ys) all is = elim (cases_Bool (same_text name y)) [
      | inl same ↦
          let it : y ≡ name = sym (same_unit name y same) in
          flip (is_lt (text_cmp last name)) (sym new ∙ subst (λ (z : Text). is_given past z ≡ not (is_lt (text_cmp last z))) it all.0)
      | inr other ↦ among ys all.1 (sym (ap (λ b. b || list_any (same_text name) ys) other) ∙ is)
    ]

pub below-above : (past : List Text) (name : Text) (xs : List Text) → AllByRecursion (λ other. is_lt (text_cmp other name) ≡ true) past → AreNotGivenAbove past name xs
below-above past name [] all = tt
below-above past name (x ∷ xs) all = (λ lt. none past all (less-by (text_cmp name x) lt), below-above past name xs all)
  where
    none : (ys : List Text) → AllByRecursion (λ other. is_lt (text_cmp other name) ≡ true) ys → text_cmp name x ≡ Less → is_given ys x ≡ false
    none [] h less = refl
    none (y ∷ ys) h less =
        ap (λ b. b || is_given ys x) (not-same y x (nat_list_cmp_total.trans y name x (less-by (text_cmp y name) h.0) less)) ∙ none ys h.1 less

-- ---- where no name is left

none-left : (past names : List Text) → next_of past names ≡ None → AllByRecursion (λ x. is_given past x ≡ true) names
none-left past [] is = tt
none-left past (x ∷ names) is = elim (cases_Bool (is_given past x)) [
  | inl given ↦ (given, none-left past names (sym (ap (λ b. cond (not b) (Some x) (next_of past names)) given) ∙ is))
  | inr new ↦ absurd (some-none (sym (ap (λ b. cond (not b) (Some x) (next_of past names)) new) ∙ is))
]
  where
    some-none : ◌≡◌ {A = Option Text} (Some x) None → ⊥
    some-none h = cc

-- What was given is not above it.
at-most : (past : List Text) (name x : Text) → AreUpTo name past → is_given past x ≡ true → is_lt (text_cmp name x) ≡ false
at-most [] name x all is = absurd (false≢true is)
at-most (y ∷ past) name x all is = elim (cases_Bool (same_text x y)) [
  | inl same ↦ subst (λ (z : Text). is_lt (text_cmp name z) ≡ false) (sym (same_unit x y same)) all.0
  | inr other ↦ at-most past name x all.1 (sym (ap (λ b. b || is_given past x) other) ∙ is)
]

-- Where no name is left, all are given up to any that none of those given is above.
pub all-given : (past : List Text) (name : Text) (xs : List Text) → next_of past xs ≡ None → AreUpTo name past → AreGivenUpTo past name xs
all-given past name xs none up = each xs (none-left past xs none)
  where
    each : (ys : List Text) → AllByRecursion (λ x. is_given past x ≡ true) ys → AreGivenUpTo past name ys
    each [] all = tt
    each (y ∷ ys) all = (all.0 ∙ sym (ap not (at-most past name y up all.0)), each ys all.1)

-- ---- the greatest of names

-- A name that is not below one is not below a lesser one.
pub not-below : (x a b : Text) → is_lt (text_cmp x b) ≡ false → is_lt (text_cmp a b) ≡ true → is_lt (text_cmp x a) ≡ false
not-below x a b level less = elim (cases_Bool (is_lt (text_cmp x a))) [
  | inl lt ↦ absurd (false≢true (sym level ∙ ap is_lt (nat_list_cmp_total.trans x a b (less-by (text_cmp x a) lt) (less-by (text_cmp a b) less))))
  | inr no_less ↦ no_less
]

-- What is not below the greater of two names is not below the other.
pub not-below-less : (x most name : Text) → is_lt (text_cmp most name) ≡ false → is_lt (text_cmp x most) ≡ false → is_lt (text_cmp x name) ≡ false
not-below-less x most name least level = by-order (text_cmp most name) refl
  where
    by-order : (o : Ordering) → text_cmp most name ≡ o → is_lt (text_cmp x name) ≡ false
    by-order Less is = absurd (false≢true (sym least ∙ ap is_lt is))
    by-order Equal is = subst (λ (z : Text). is_lt (text_cmp x z) ≡ false) (same_unit most name (texts_ties most name ∙ ap is_eq is)) level
    by-order Greater is = not-below x name most level (ap is_lt (nat_list_cmp_total.antisymm name most ∙ ap ordering_reverse is))

-- One name more.
pub up-to-next : (past : List Text) (i : ℕ) (name x : Text) → i < length past → name ≡ get_or past i name → (AreUpTo x (drop i past) → AreUpTo x past) → is_lt (text_cmp x name) ≡ false
    → AreUpTo x (drop (suc i) past) → AreUpTo x past
up-to-next past i name x lt is so_far level rest = so_far (subst (AreUpTo x) (sym (drop-cons past i name lt ∙ ap (λ (y : Text). y ∷ drop (suc i) past) (sym is))) (level, rest))

pub level-itself : (x : Text) → is_lt (text_cmp x x) ≡ false
level-itself x = ap is_lt (equal-by (text_cmp x x) (text-itself x))
