-- What a sound file holds besides those before it.
use Rattle.std.proofs.Common.{◌≡◌, ℕ, ◌+◌, ◌<◌, ◌≤◌, Bool, true, false, not, ◌&&◌, ◌||◌, List, [], ◌∷◌, ◌++◌, length, refl, sym, ap, ◌∙◌, append_assoc, inl, inr, arith}
use Rattle.std.specs.Prelude.{nat_lt, nat_le, nat_eq}
use Rattle.std.specs.List.{list_all, AllByRecursion}
use Rattle.std.proofs.lemmas.Bool.{cases_Bool, eq-eqb, eqb-true, true≢false, not-true, and_parts, and_from, lt-ltb, le-leb}
use Rattle.std.proofs.lemmas.Grind.{flat_map-append}
use Rattle.std.proofs.lemmas.List.Sums.{sum_by-cons}
use Rattle.opfs_base.specs.Blocks.{blocks}
use Rattle.opfs_base.specs.Places.{Place}
use Rattle.opfs_base.specs.declared.extents.Extent.{Extent}
use Rattle.opfs_blocks.specs.Sets.{blocks_in, blocks_of}
use Rattle.opfs_tree.specs.Rows.{Rows, extents_of}
use Rattle.opfs_tree.specs.declared.row.FileRow.{FileRow}
use Rattle.opfs_tree.specs.declared.row.Row.{Row}
use Rattle.opfs_records.specs.Replay.Applying.{can_hold}
use Rattle.opfs_records.specs.Replay.Built.{block_count, has_block, is_once, all_extents, named, IsSoundFile}

-- ---- a list that names no block twice

none_parts : (a b : Bool) → (a || b) ≡ false → (a ≡ false) × (b ≡ false)
none_parts true b h = absurd (true≢false h)
none_parts false b h = (refl, h)

none_from : (a b : Bool) → a ≡ false → b ≡ false → (a || b) ≡ false
none_from true b h g = absurd (true≢false h)
none_from false b h g = g

turned : (a b : ℕ) → nat_eq a b ≡ false → nat_eq b a ≡ false
turned a b h =
    elim (cases_Bool (nat_eq b a)) [
      | inl is ↦ absurd (true≢false (sym (eq-eqb a b (sym (eqb-true b a is))) ∙ h))
      | inr isn ↦ isn
    ]

has_front : (k : ℕ) (xs ys : List ℕ) → has_block (xs ++ ys) k ≡ false → has_block xs k ≡ false
has_front k [] ys h = refl
has_front k (x ∷ xs) ys h = let parts = none_parts (nat_eq k x) (has_block (xs ++ ys) k) h in none_from _ _ parts.0 (has_front k xs ys parts.1)

has_back : (k : ℕ) (xs ys : List ℕ) → has_block (xs ++ ys) k ≡ false → has_block ys k ≡ false
has_back k [] ys h = h
has_back k (x ∷ xs) ys h = has_back k xs ys (none_parts (nat_eq k x) (has_block (xs ++ ys) k) h).1

once_front : (xs ys : List ℕ) → is_once (xs ++ ys) ≡ true → is_once xs ≡ true
once_front [] ys h = refl
once_front (x ∷ xs) ys h =
    let parts = and_parts (not (has_block (xs ++ ys) x)) (is_once (xs ++ ys)) h in
    and_from _ _ (ap not (has_front x xs ys (not-true _ parts.0))) (once_front xs ys parts.1)

once_back : (xs ys : List ℕ) → is_once (xs ++ ys) ≡ true → is_once ys ≡ true
once_back [] ys h = h
once_back (x ∷ xs) ys h = once_back xs ys (and_parts (not (has_block (xs ++ ys) x)) (is_once (xs ++ ys)) h).1

beside_none : (ys : List ℕ) → list_all (λ k. not (has_block [] k)) ys ≡ true
beside_none [] = refl
beside_none (y ∷ ys) = beside_none ys

beside_more : (x : ℕ) (xs ys : List ℕ) → has_block ys x ≡ false → list_all (λ k. not (has_block xs k)) ys ≡ true → list_all (λ k. not (has_block (x ∷ xs) k)) ys ≡ true
beside_more x xs [] none all = refl
beside_more x xs (y ∷ ys) none all =
    let here = none_parts (nat_eq x y) (has_block ys x) none in
    let parts = and_parts (not (has_block xs y)) (list_all (λ k. not (has_block xs k)) ys) all in
    and_from _ _ (ap not (none_from (nat_eq y x) (has_block xs y) (turned x y here.0) (not-true _ parts.0))) (beside_more x xs ys here.1 parts.1)

-- Its back names no block of its front.
apart : (xs ys : List ℕ) → is_once (xs ++ ys) ≡ true → list_all (λ k. not (has_block xs k)) ys ≡ true
apart [] ys h = beside_none ys
apart (x ∷ xs) ys h =
    let parts = and_parts (not (has_block (xs ++ ys) x)) (is_once (xs ++ ys)) h in
    beside_more x xs ys (has_back x xs ys (not-true _ parts.0)) (apart xs ys parts.1)

-- ---- the blocks of rows

pub named_split : (done : Rows) (e : Place × Row) (es : Rows) → named (done ++ e ∷ es) ≡ (named done ++ blocks_of (extents_of e.1)) ++ named es
named_split done e es =
    ap blocks_of (flat_map-append (λ (x : Place × Row). extents_of x.1) done (e ∷ es))
    ∙ flat_map-append blocks_in (all_extents done) (extents_of e.1 ++ all_extents es)
    ∙ ap (λ xs. named done ++ xs) (flat_map-append blocks_in (extents_of e.1) (all_extents es))
    ∙ sym (append_assoc (named done) (blocks_of (extents_of e.1)) (named es))

-- ---- extents

each_holds : (size : ℕ) (es : List Extent) → AllByRecursion (λ e. 0 < e.count) es → AllByRecursion (λ e. e.start + e.count ≤ size) es → list_all (λ e. nat_lt 0 e.count && nat_le (e.start + e.count) size) es ≡ true
each_holds size [] some below = refl
each_holds size (e ∷ es) some below =
    and_from (nat_lt 0 e.count && nat_le (e.start + e.count) size) (list_all (λ x. nat_lt 0 x.count && nat_le (x.start + x.count) size) es)
    (and_from (nat_lt 0 e.count) (nat_le (e.start + e.count) size) (lt-ltb 0 e.count some.0) (le-leb (e.start + e.count) size below.0)) (each_holds size es some.1 below.1)

-- Extents that have a block each are no more than their blocks.
pub few_extents : (es : List Extent) → AllByRecursion (λ e. 0 < e.count) es → length es ≤ block_count es
few_extents [] some = omega arith
few_extents (e ∷ es) some = omega (arith, some.0, few_extents es some.1, sum_by-cons (λ (x : Extent). x.count) e es)

pub no_extents : (es : List Extent) → AllByRecursion (λ e. 0 < e.count) es → block_count es ≡ 0 → es ≡ []
no_extents [] some none = refl
no_extents (e ∷ es) some none = absurd (omega (arith, few_extents (e ∷ es) some, none))

pub four : (a b c d : Bool) → a ≡ true → b ≡ true → c ≡ true → d ≡ true → (a && b && c && d) ≡ true
four a b c d ha hb hc hd = rw (ha, hb, hc, hd) refl

-- A sound file can be held beside those before it.
pub holds : (size : ℕ) (f : FileRow) (front back : List ℕ) → IsSoundFile size f → is_once ((front ++ blocks_of f.extents) ++ back) ≡ true → can_hold size front f.length f.extents ≡ true
holds size f front back sound once =
    let here = once_front (front ++ blocks_of f.extents) back once in
    four _ _ _ _ (each_holds size f.extents sound.some sound.below) (eq-eqb (block_count f.extents) (blocks f.length) sound.whole)
    (once_back front (blocks_of f.extents) here) (apart front (blocks_of f.extents) here)
