-- Rows unit by unit.
use Rattle.std.proofs.Common.{◌≡◌, ℕ, suc, ◌+◌, ◌-◌, ◌^◌, ◌<◌, ◌≤◌, Bool, true, false, cond, List, [], ◌∷◌, ◌++◌, take, drop, refl, sym, ap, ◌∙◌, append_assoc, drop-drop, length-drop, subst, get_or, length, arith}
use Rattle.std.specs.Prelude.{map}
use Rattle.std.specs.List.{prefix_len}
use Rattle.std.specs.Ordering.{is_eq}
use Rattle.std.specs.Cmp.{tied_itself}
use Rattle.std.specs.Cmp.Lexicographic.{nat_list_cmp_total, texts_ties}
use Rattle.std.specs.Cmp.Lexicographic as lists
use Rattle.std.proofs.lemmas.List.{drop_all, take_all}
use Rattle.std.proofs.lemmas.List.Sums.{sum_by-take-le, sum_by-take-drop}
use Rattle.opfs_base.specs.Texts.{Text, same_text}
use Rattle.opfs_base.specs.Places.{Place}
use Rattle.opfs_tools.specs.Sights.{Sights, sight_blocks, used_blocks}
use Rattle.opfs_tools.specs.Units.{UnitSeen, with_row, by_unit, merged, units_of, alone, unit_with, count_before, from_unit, is_first, count_first}
use Rattle.opfs_tools.specs.declared.sights.Sight.{Sight}

same_itself : (a : Text) → same_text a a ≡ true
same_itself a = texts_ties a a ∙ ap is_eq (tied_itself nat_list_cmp_total a)

pub tied : (a b : Text) → same_text a b ≡ true → a ≡ b
tied a b h = lists.same_text a b (sym h)

abbrev pub of_unit : Text → Place × Sight → Bool
of_unit key e = same_text key e.0.0

-- a row before those of its unit, and before those of another
join_same : (e : Place × Sight) (rest here : Sights) (g : Text) (us : List (Text × Sights)) → same_text e.0.0 g ≡ true → by_unit rest ≡ (g, here) ∷ us
    → with_row e (by_unit rest) ≡ (e.0.0, e ∷ here) ∷ us
join_same e rest here g us is more =
    ap (with_row e) more
    ∙ (ap (λ t. cond t ((g, e ∷ here) ∷ us) ((e.0.0, e ∷ []) ∷ (g, here) ∷ us)) is ∙ ap (λ k. (k, e ∷ here) ∷ us) (sym (tied e.0.0 g is)))

join_other : (e : Place × Sight) (rest here : Sights) (g : Text) (us : List (Text × Sights)) → same_text e.0.0 g ≡ false → by_unit rest ≡ (g, here) ∷ us
    → with_row e (by_unit rest) ≡ (e.0.0, e ∷ []) ∷ by_unit rest
join_other e rest here g us is more =
    ap (with_row e) more
    ∙ (ap (λ t. cond t ((g, e ∷ here) ∷ us) ((e.0.0, e ∷ []) ∷ (g, here) ∷ us)) is ∙ ap (λ xs. (e.0.0, e ∷ []) ∷ xs) (sym more))

-- the first unit has the rows from the first one on that are its own
pub runs : (e : Place × Sight) (es : Sights) → by_unit (e ∷ es) ≡ (e.0.0, e ∷ take (prefix_len (of_unit e.0.0) es) es) ∷ by_unit (drop (prefix_len (of_unit e.0.0) es) es)
unfolding by_unit
runs e [] = refl
runs e (f ∷ es) =
    let n : ℕ = prefix_len (of_unit f.0.0) es in
    let m : ℕ = prefix_len (of_unit e.0.0) es in
    let s : 1 + m ≡ suc m = omega arith in
    let more : by_unit (f ∷ es) ≡ (f.0.0, f ∷ take n es) ∷ by_unit (drop n es) = runs f es in
    elim (same_text e.0.0 f.0.0) as (λ t. same_text e.0.0 f.0.0 ≡ t → with_row e (by_unit (f ∷ es)) ≡ (e.0.0, e ∷ take (cond t (1 + m) 0) (f ∷ es)) ∷ by_unit (drop (cond t (1 + m) 0) (f ∷ es))) [
      | true ↦ λ is.
          let same : n ≡ m = ap (λ k. prefix_len (of_unit k) es) (sym (tied e.0.0 f.0.0 is)) in
          join_same e (f ∷ es) (f ∷ take n es) f.0.0 (by_unit (drop n es)) is more
          ∙ (ap (λ k. (e.0.0, e ∷ f ∷ take k es) ∷ by_unit (drop k es)) same ∙ ap (λ k. (e.0.0, e ∷ take k (f ∷ es)) ∷ by_unit (drop k (f ∷ es))) (sym s))
      | false ↦ λ is. join_other e (f ∷ es) (f ∷ take n es) f.0.0 (by_unit (drop n es)) is more
    ] refl

-- no rows, and the units that have none
pub no_units : (units : List Text) → units_of [] units ≡ map alone units
unfolding by_unit merged
no_units units = refl

-- the first unit and the persistent ones before it, and the others
pub units_more : (e : Place × Sight) (es : Sights) (n : ℕ) (units : List Text) → n ≡ prefix_len (of_unit e.0.0) (e ∷ es)
    → units_of (e ∷ es) units ≡ map alone (take (count_before e.0.0 units) units)
    ++ unit_with (e.0.0, take n (e ∷ es)) (from_unit e.0.0 units) ∷ units_of (drop n (e ∷ es)) (drop (count_first e.0.0 (from_unit e.0.0 units)) (from_unit e.0.0 units))
unfolding merged
units_more e es n units n_is =
    let m : ℕ = prefix_len (of_unit e.0.0) es in
    let same : n ≡ suc m = n_is ∙ ap (λ t. cond t (1 + m) 0) (same_itself e.0.0) ∙ omega arith in
    rw same (ap (λ us. merged us units) (runs e es))

-- one unit more was added
pub added_more : (rows : Sights) (d : Place × Sight) (key : Text) (units : List Text) (n m k : ℕ) (u : UnitSeen) (before from : List Text) (old next : List UnitSeen) → 0 < length rows
    → key ≡ (get_or rows 0 d).0.0 → n ≡ prefix_len (of_unit key) rows → m ≡ count_before key units → before ≡ take m units → from ≡ drop m units → k ≡ count_first key from
    → u ≡ record { key = key; persistent = is_first key from; rows = take n rows }
    → next ≡ (old ++ map alone before) ++ u ∷ []
    → next ++ units_of (drop n rows) (drop (m + k) units) ≡ old ++ units_of rows units
added_more [] d key units n m k u before from old next some key_is n_is m_is before_is from_is k_is u_is next_is = absurd (omega arith)
added_more (e ∷ es) d key units n m k u before from old next some key_is n_is m_is before_is from_is k_is u_is next_is =
    let here : List UnitSeen = map alone before in
    let rest : List UnitSeen = units_of (drop n (e ∷ es)) (drop (m + k) units) in
    let from_same : from ≡ from_unit key units = from_is ∙ ap (λ j. drop j units) m_is in
    let past : drop (m + k) units ≡ drop (count_first key (from_unit key units)) (from_unit key units)
    = sym (drop-drop k m units) ∙ (ap (drop k) (sym from_is) ∙ (ap (λ j. drop j from) k_is ∙ ap (λ xs. drop (count_first key xs) xs) from_same)) in
    let whole : units_of (e ∷ es) units ≡ map alone (take (count_before key units) units)
    ++ unit_with (key, take n (e ∷ es)) (from_unit key units) ∷ units_of (drop n (e ∷ es)) (drop (count_first key (from_unit key units)) (from_unit key units))
    = (let P = λ (x : Text). n ≡ prefix_len (of_unit x) (e ∷ es) → units_of (e ∷ es) units ≡ map alone (take (count_before x units) units)
    ++ unit_with (x, take n (e ∷ es)) (from_unit x units) ∷ units_of (drop n (e ∷ es)) (drop (count_first x (from_unit x units)) (from_unit x units)) in subst P (sym key_is) (units_more e es n units)) n_is in
    let u_same : u ≡ unit_with (key, take n (e ∷ es)) (from_unit key units) = u_is ∙ ap (λ xs. unit_with (key, take n (e ∷ es)) xs) from_same in
    let here_same : here ≡ map alone (take (count_before key units) units) = ap (map alone) (before_is ∙ ap (λ j. take j units) m_is) in
    ap (λ xs. xs ++ rest) next_is
    ∙ (append_assoc (old ++ here) (u ∷ []) rest
    ∙ (append_assoc old here (u ∷ rest)
    ∙ (ap (λ xs. old ++ (xs ++ u ∷ rest)) here_same
    ∙ (ap (λ x. old ++ (map alone (take (count_before key units) units) ++ x ∷ rest)) u_same
    ∙ (ap (λ xs. old ++ (map alone (take (count_before key units) units) ++ unit_with (key, take n (e ∷ es)) (from_unit key units) ∷ units_of (drop n (e ∷ es)) xs)) past
    ∙ ap (λ xs. old ++ xs) (sym whole))))))

pub has_first : (rows : Sights) (d : Place × Sight) (key : Text) → 0 < length rows → key ≡ (get_or rows 0 d).0.0 → 0 < prefix_len (of_unit key) rows
has_first [] d key some key_is = absurd (omega arith)
has_first (e ∷ es) d key some key_is =
    let itself : same_text key e.0.0 ≡ true = ap (λ k. same_text k e.0.0) key_is ∙ same_itself e.0.0 in
    rw itself (omega arith)

-- all rows were passed
pub all_added : (rows : Sights) (at past : ℕ) (units : List Text) (done next whole : List UnitSeen) → length rows ≤ at → next ≡ done ++ map alone (take (length units - past) (drop past units))
    → done ++ units_of (drop at rows) (drop past units) ≡ whole → next ≡ whole
all_added rows at past units done next whole end next_is so_far =
    let all : take (length units - past) (drop past units) ≡ drop past units = take_all (length units - past) (drop past units) (omega (arith, length-drop past units)) in
    next_is ∙ (ap (λ xs. done ++ map alone xs) all ∙ (ap (λ xs. done ++ xs) (sym (no_units (drop past units))) ∙ (ap (λ xs. done ++ units_of xs (drop past units)) (sym (drop_all at rows end)) ∙ so_far)))

-- some of the rows use no more blocks than all
pub used_within : (rows : Sights) (at n : ℕ) → used_blocks rows < 2 ^ 64 → used_blocks (take n (drop at rows)) < 2 ^ 64
used_within rows at n fits =
    omega (arith, sum_by-take-le (λ (e : Place × Sight). sight_blocks e.1) (drop at rows) n, sum_by-take-drop (λ (e : Place × Sight). sight_blocks e.1) rows at)
