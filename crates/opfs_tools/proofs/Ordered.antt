-- That units are listed in the order of texts.
use Rattle.std.proofs.Common.{◌≡◌, ℕ, zero, suc, ◌+◌, true, false, cond, List, [], ◌∷◌, ◌++◌, take, drop, refl, sym, ap, subst, ◌∙◌, arith}
use Rattle.std.specs.Prelude.{map}
use Rattle.std.specs.List.{AllByRecursion}
use Rattle.std.specs.List.Sorted.{IsStrictlySortedBy}
use Rattle.std.specs.Ordering.{is_eq, is_le, is_lt, nat_cmp, ordering_then, ordering_reverse}
use Rattle.std.specs.declared.cmp.Ordering.TheVariants.{Less, Equal, Greater}
use Rattle.std.specs.Cmp.Lexicographic.{slice_cmp, nat_list_cmp_total, texts_ties}
use Rattle.std.proofs.lemmas.Map.Keys.{sorted_head, sorted_tail}
use Rattle.opfs_base.specs.Texts.{Text, same_text}
use Rattle.opfs_base.specs.Places.{Place, place_cmp}
use Rattle.opfs_shed.specs.Buckets.{text_cmp}
use Rattle.opfs_tools.specs.Sights.{Sights}
use Rattle.opfs_tools.specs.Units.{UnitSeen, with_row, by_unit, merged, units_of, alone, unit_with, is_before, count_before, from_unit, count_first}
use Rattle.opfs_tools.specs.declared.sights.Sight.{Sight}
use Rattle.opfs_tools.proofs.Merging.{tied}

abbrev pub Rises : List Text → Type 0
Rises keys = IsStrictlySortedBy text_cmp keys

abbrev Above : Text → List Text → Type 0
Above key keys = AllByRecursion (λ y. text_cmp key y ≡ Less) keys

abbrev NotBelow : Text → List Text → Type 0
NotBelow key keys = AllByRecursion (λ y. is_le (text_cmp key y) ≡ true) keys

rises_from : (key : Text) (keys : List Text) → Above key keys → Rises keys → Rises (key ∷ keys)
unfolding IsStrictlySortedBy
rises_from key keys above rises = (above, rises)

rises_none : Rises []
unfolding IsStrictlySortedBy
rises_none = tt

-- ---- two texts

lt_from : (a b : Text) → is_before b a ≡ true → text_cmp a b ≡ Less
lt_from a b h = elim (text_cmp a b) as (λ o. is_lt o ≡ true → o ≡ Less) [ Less ↦ λ g. refl | Equal ↦ λ g. cc | Greater ↦ λ g. cc ] h

over : (key unit : Text) → is_before key unit ≡ false → same_text unit key ≡ false → text_cmp key unit ≡ Less
over key unit before same =
    nat_list_cmp_total.antisymm key unit
    ∙ (elim (text_cmp unit key) as (λ o. is_lt o ≡ false → is_eq o ≡ false → ordering_reverse o ≡ Less) [ Less ↦ λ g h. cc | Equal ↦ λ g h. cc | Greater ↦ λ g h. refl ] before (sym (texts_ties unit key) ∙ same))

less_from : (a b : Text) → is_le (text_cmp a b) ≡ true → same_text a b ≡ false → text_cmp a b ≡ Less
less_from a b le same = elim (text_cmp a b) as (λ o. is_le o ≡ true → is_eq o ≡ false → o ≡ Less) [ Less ↦ λ g h. refl | Equal ↦ λ g h. cc | Greater ↦ λ g h. cc ] le (sym (texts_ties a b) ∙ same)

above_on : (a b : Text) (keys : List Text) → text_cmp a b ≡ Less → Above b keys → Above a keys
above_on a b [] h above = tt
above_on a b (k ∷ keys) h above = (nat_list_cmp_total.trans a b k h above.0, above_on a b keys h above.1)

-- ---- the units of rows

keys_of_row : (e : Place × Sight) (us : List (Text × Sights)) → NotBelow e.0.0 (map (λ u. u.0) us) → Rises (map (λ u. u.0) us) → Rises (map (λ u. u.0) (with_row e us))
keys_of_row e [] le rises = rises_from e.0.0 [] tt rises_none
keys_of_row e (u ∷ us) le rises =
    elim (same_text e.0.0 u.0) as (λ t. same_text e.0.0 u.0 ≡ t → Rises (map (λ (x : Text × Sights). x.0) (cond t ((u.0, e ∷ u.1) ∷ us) ((e.0.0, e ∷ []) ∷ u ∷ us)))) [
      | true ↦ λ is. rises
      | false ↦ λ is.
          let less = less_from e.0.0 u.0 le.0 is in
          rises_from e.0.0 (u.0 ∷ map (λ x. x.0) us) (less, above_on e.0.0 u.0 (map (λ x. x.0) us) less (sorted_head text_cmp u.0 (map (λ x. x.0) us) rises)) rises
    ] refl

not_below_row : (key : Text) (e : Place × Sight) (us : List (Text × Sights)) → is_le (text_cmp key e.0.0) ≡ true → NotBelow key (map (λ u. u.0) us) → NotBelow key (map (λ u. u.0) (with_row e us))
not_below_row key e [] le more = (le, tt)
not_below_row key e (u ∷ us) le more =
    elim (same_text e.0.0 u.0) as (λ t. NotBelow key (map (λ (x : Text × Sights). x.0) (cond t ((u.0, e ∷ u.1) ∷ us) ((e.0.0, e ∷ []) ∷ u ∷ us)))) [ true ↦ more | false ↦ (le, more) ]

not_below_units : (key : Text) (rows : Sights) → AllByRecursion (λ e. is_le (text_cmp key e.0.0) ≡ true) rows → NotBelow key (map (λ u. u.0) (by_unit rows))
unfolding by_unit
not_below_units key [] all = tt
not_below_units key (e ∷ es) all = not_below_row key e (by_unit es) all.0 (not_below_units key es all.1)

unit_le : (a b : Place) → place_cmp a b ≡ Less → is_le (text_cmp a.0 b.0) ≡ true
unit_le a b h = elim (text_cmp a.0 b.0) as (λ o. ordering_then o (slice_cmp (slice_cmp nat_cmp) a.1 b.1) ≡ Less → is_le o ≡ true) [ Less ↦ λ g. refl | Equal ↦ λ g. refl | Greater ↦ λ g. cc ] h

units_le : (a : Place) (rows : Sights) → AllByRecursion (λ y. place_cmp a y ≡ Less) (map (λ e. e.0) rows) → AllByRecursion (λ e. is_le (text_cmp a.0 e.0.0) ≡ true) rows
units_le a [] all = tt
units_le a (e ∷ es) all = (unit_le a e.0 all.0, units_le a es all.1)

units_rise : (rows : Sights) → IsStrictlySortedBy place_cmp (map (λ e. e.0) rows) → Rises (map (λ u. u.0) (by_unit rows))
unfolding by_unit
units_rise [] sorted = rises_none
units_rise (e ∷ es) sorted =
    let head = sorted_head place_cmp e.0 (map (λ (x : Place × Sight). x.0) es) sorted in
    let tail = sorted_tail place_cmp e.0 (map (λ (x : Place × Sight). x.0) es) sorted in
    keys_of_row e (by_unit es) (not_below_units e.0.0 es (units_le e.0 es head)) (units_rise es tail)

-- ---- with the persistent units

above_take : (a : Text) (n : ℕ) (keys : List Text) → Above a keys → Above a (take n keys)
above_take a zero keys all = tt
above_take a (suc n) [] all = tt
above_take a (suc n) (k ∷ keys) all = (all.0, above_take a n keys all.1)

above_drop : (a : Text) (n : ℕ) (keys : List Text) → Above a keys → Above a (drop n keys)
above_drop a zero keys all = all
above_drop a (suc n) [] all = tt
above_drop a (suc n) (k ∷ keys) all = above_drop a n keys all.1

above_both : (a : Text) (xs ys : List Text) → Above a xs → Above a ys → Above a (xs ++ ys)
above_both a [] ys first second = second
above_both a (x ∷ xs) ys first second = (first.0, above_both a xs ys first.1 second)

front_rises : (key : Text) (keys units : List Text) → Rises units → Above key keys → Rises keys → Rises (take (count_before key units) units ++ key ∷ keys)
front_rises key keys [] sorted above rises = rises_from key keys above rises
front_rises key keys (x ∷ xs) sorted above rises =
    let m : ℕ = count_before key xs in
    let s : 1 + m ≡ suc m = omega arith in
    let head = sorted_head text_cmp x xs sorted in
    let tail = sorted_tail text_cmp x xs sorted in
    elim (is_before key x) as (λ t. is_before key x ≡ t → Rises (take (cond t (1 + m) 0) (x ∷ xs) ++ key ∷ keys)) [
      | true ↦ λ is.
          let less = lt_from x key is in
          subst (λ (n : ℕ). Rises (take n (x ∷ xs) ++ key ∷ keys)) (sym s)
          (rises_from x (take m xs ++ key ∷ keys) (above_both x (take m xs) (key ∷ keys) (above_take x m xs head) (less, above_on x key keys less above)) (front_rises key keys xs tail above rises))
      | false ↦ λ is. rises_from key keys above rises
    ] refl

abbrev past : Text → List Text → List Text
past key units = drop (count_first key (from_unit key units)) (from_unit key units)

past_above : (key : Text) (units : List Text) → Rises units → Above key (past key units) × Rises (past key units)
past_above key [] sorted = (tt, rises_none)
past_above key (x ∷ xs) sorted =
    let m : ℕ = count_before key xs in
    let s : 1 + m ≡ suc m = omega arith in
    let head = sorted_head text_cmp x xs sorted in
    let tail = sorted_tail text_cmp x xs sorted in
    let P : List Text → Type 0 = λ (from : List Text). Above key (drop (count_first key from) from) × Rises (drop (count_first key from) from) in
    elim (is_before key x) as (λ t. is_before key x ≡ t → P (drop (cond t (1 + m) 0) (x ∷ xs))) [
      | true ↦ λ is. subst (λ (n : ℕ). P (drop n (x ∷ xs))) (sym s) (past_above key xs tail)
      | false ↦ λ is.
          elim (same_text x key) as (λ t. same_text x key ≡ t → Above key (drop (cond t 1 0) (x ∷ xs)) × Rises (drop (cond t 1 0) (x ∷ xs))) [
            | true ↦ λ same. (subst (λ (k : Text). Above k xs) (tied x key same) head, tail)
            | false ↦ λ same. let less = over key x is same in ((less, above_on key x xs less head), sorted)
          ] refl
    ] refl

keys_alone : (units : List Text) → map (λ u. u.key) (map alone units) ≡ units
keys_alone [] = refl
keys_alone (u ∷ us) = ap (λ xs. u ∷ xs) (keys_alone us)

keys_more : (units : List Text) (more : List UnitSeen) → map (λ u. u.key) (map alone units ++ more) ≡ units ++ map (λ u. u.key) more
keys_more [] more = refl
keys_more (u ∷ us) more = ap (λ xs. u ∷ xs) (keys_more us more)

above_merged : (a : Text) (us : List (Text × Sights)) (units : List Text) → Above a (map (λ u. u.0) us) → Above a units → Above a (map (λ u. u.key) (merged us units))
unfolding merged
above_merged a [] units first second = subst (λ (ks : List Text). Above a ks) (sym (keys_alone units)) second
above_merged a (u ∷ us) units first second =
    let n : ℕ = count_before u.0 units in
    subst (λ (ks : List Text). Above a ks) (sym (keys_more (take n units) (unit_with u (from_unit u.0 units) ∷ merged us (past u.0 units))))
    (above_both a (take n units) (u.0 ∷ map (λ x. x.key) (merged us (past u.0 units))) (above_take a n units second)
    (first.0, above_merged a us (past u.0 units) first.1 (above_drop a (count_first u.0 (from_unit u.0 units)) (from_unit u.0 units) (above_drop a n units second))))

merged_rises : (us : List (Text × Sights)) (units : List Text) → Rises (map (λ u. u.0) us) → Rises units → Rises (map (λ u. u.key) (merged us units))
unfolding merged
merged_rises [] units first second = subst Rises (sym (keys_alone units)) second
merged_rises (u ∷ us) units first second =
    let n : ℕ = count_before u.0 units in
    let head = sorted_head text_cmp u.0 (map (λ (x : Text × Sights). x.0) us) first in
    let tail = sorted_tail text_cmp u.0 (map (λ (x : Text × Sights). x.0) us) first in
    let rest = past_above u.0 units second in
    subst Rises (sym (keys_more (take n units) (unit_with u (from_unit u.0 units) ∷ merged us (past u.0 units))))
    (front_rises u.0 (map (λ x. x.key) (merged us (past u.0 units))) units second (above_merged u.0 us (past u.0 units) head rest.0) (merged_rises us (past u.0 units) tail rest.1))

pub listed_in_order : (rows : Sights) (persistent : List Text) → IsStrictlySortedBy place_cmp (map (λ e. e.0) rows) → IsStrictlySortedBy text_cmp persistent → IsStrictlySortedBy text_cmp (map (λ u. u.key) (units_of rows persistent))
listed_in_order rows persistent first second = merged_rises (by_unit rows) persistent (units_rise rows first) second
