-- The units that may be cleared: those of the shares are those of the machine.
use Rattle.std.proofs.Common.{◌≡◌, ◌&&◌, ℕ, Bool, true, false, not, cond, T, List, [], ◌∷◌, map, filter, Option, Some, None, is_some, unwrap_or, refl, sym, ap, ◌∙◌, subst}
use Rattle.std.proofs.lemmas.Cmp.{nat_list_cmp_total}
use Rattle.std.proofs.lemmas.Map.Lookups.{exact_bytes}
use Rattle.std.specs.FinMap.Entries.{find, is_sorted, below_all, where_key, is_sorted-where_key, find-where_key, same_entries}
use Rattle.std.specs.List.{AllByRecursion, filter_map}
use Rattle.std.specs.List.Sorted.{IsStrictlySortedBy}
use Rattle.std.specs.Map.{lookup, keys_of}
use Rattle.std.specs.Ordering.{is_eq, is_lt, ordering_then}
use Rattle.std.specs.declared.cmp.Ordering.{Ordering}
use Rattle.std.specs.declared.cmp.Ordering.TheVariants.{Less, Equal, Greater}
use Rattle.opfs_base.specs.Places.{place_cmp}
use Rattle.opfs_base.specs.Texts.{Text, same_text}
use Rattle.opfs_base.specs.Units.{origin_of, same_origin}
use Rattle.opfs_laws.specs.Whole.{IsInOrder}
use Rattle.opfs_machine.specs.Rows.{Rows, row_at}
use Rattle.opfs_machine.specs.Sums.{is_persistent}
use Rattle.opfs_machine.specs.Victims.{root_unit, root_units, is_callers, none_taken, is_candidate}
use Rattle.opfs_pool.specs.Shares.{Shares, Blocks, text_cmp, is_unit, share_at, first_share}
use Rattle.opfs_pool.specs.Victims.{is_candidate as is_share_candidate}
use Rattle.opfs_pool.specs.declared.pool.Share.{Share}
use Rattle.opfs_state_rows.specs.Standing.Pooled.{IsPooled}
use Rattle.opfs_state_rows.specs.Standing.Seen.{Machine}
use Rattle.opfs_state_rows.specs.Standing.Sums.{clearable}

-- Texts as the keys of a map.
abbrev pub keyed : List Text → List (Text × Unit {0})
keyed xs = map (λ x. (x, tt)) xs

unkeyed : (xs : List Text) → map (λ (e : Text × Unit {0}). e.0) (keyed xs) ≡ xs
unkeyed [] = refl
unkeyed (x ∷ xs) = ap (λ (ys : List Text). x ∷ ys) (unkeyed xs)

told : (b : Bool) → b ≡ true → T b
told true h = tt
told false h = absurd cc

both : (a b : Bool) → T a → T b → T (a && b)
both true b p q = q
both false b p q = p

first_of : (a b : Bool) → T (a && b) → T a
first_of true b h = tt
first_of false b h = absurd h

second_of : (a b : Bool) → T (a && b) → T b
second_of true b h = h
second_of false b h = absurd h

-- Rising lists of the same texts are one.
pub same-texts : (xs ys : List Text) → T (is_sorted text_cmp (keyed xs)) → T (is_sorted text_cmp (keyed ys)) → ((q : Text) → find text_cmp q (keyed xs) ≡ find text_cmp q (keyed ys)) → xs ≡ ys
same-texts xs ys rise rise' same =
    sym (unkeyed xs) ∙ ap (map (λ (e : Text × Unit {0}). e.0)) (same_entries text_cmp nat_list_cmp_total exact_bytes (keyed xs) (keyed ys) rise rise' same) ∙ unkeyed ys

-- The roots.
root-below : (u : Text) (rows : Rows ℕ) → T (below_all place_cmp (u, []) rows) → T (below_all text_cmp u (keyed (filter_map root_unit rows)))
root-below u [] h = tt
root-below u (((v, []), r) ∷ rows) h =
    both (is_lt (text_cmp u v)) (below_all text_cmp u (keyed (filter_map root_unit rows))) (by (text_cmp u v) (first_of (is_lt (place_cmp (u, []) (v, []))) (below_all place_cmp (u, []) rows) h))
    (root-below u rows (second_of (is_lt (place_cmp (u, []) (v, []))) (below_all place_cmp (u, []) rows) h))
  where
    by : (o : Ordering) → T (is_lt (ordering_then o Equal)) → T (is_lt o)
    by Less h = h
    by Equal h = h
    by Greater h = h
root-below u (((v, n ∷ path), r) ∷ rows) h = root-below u rows (second_of (is_lt (place_cmp (u, []) (v, n ∷ path))) (below_all place_cmp (u, []) rows) h)

pub roots-rise : (rows : Rows ℕ) → T (is_sorted place_cmp rows) → T (is_sorted text_cmp (keyed (filter_map root_unit rows)))
roots-rise [] h = tt
roots-rise (((u, []), r) ∷ rows) h =
    both (below_all text_cmp u (keyed (filter_map root_unit rows))) (is_sorted text_cmp (keyed (filter_map root_unit rows)))
    (root-below u rows (first_of (below_all place_cmp (u, []) rows) (is_sorted place_cmp rows) h)) (roots-rise rows (second_of (below_all place_cmp (u, []) rows) (is_sorted place_cmp rows) h))
roots-rise (((u, n ∷ path), r) ∷ rows) h = roots-rise rows (second_of (below_all place_cmp (u, n ∷ path) rows) (is_sorted place_cmp rows) h)

then-equal : (o : Ordering) → is_eq (ordering_then o Equal) ≡ is_eq o
then-equal Less = refl
then-equal Equal = refl
then-equal Greater = refl

then-less : (o : Ordering) → is_eq (ordering_then o Less) ≡ false
then-less Less = refl
then-less Equal = refl
then-less Greater = refl

pub root-found : (q : Text) (rows : Rows ℕ) → find text_cmp q (keyed (filter_map root_unit rows)) ≡ cond (is_some (find place_cmp (q, []) rows)) (Some tt) None
root-found q [] = refl
root-found q (((u, []), r) ∷ rows) =
    ap (λ t. cond t (Some tt) (find text_cmp q (keyed (filter_map root_unit rows)))) (sym (then-equal (text_cmp q u)))
    ∙ elim (is_eq (place_cmp (q, []) (u, []))) as (λ t. cond t (Some tt) (find text_cmp q (keyed (filter_map root_unit rows))) ≡ cond (is_some (cond t (Some r) (find place_cmp (q, []) rows))) (Some tt) None) [
      | true ↦ refl
      | false ↦ root-found q rows
    ]
root-found q (((u, n ∷ path), r) ∷ rows) = root-found q rows ∙ ap (λ t. cond (is_some (cond t (Some r) (find place_cmp (q, []) rows))) (Some tt) None) (sym (then-less (text_cmp q u)))

-- The shares that may be cleared.
module _ (key : Text) where
  abbrev pub units_of : Shares → List Text
  units_of shares = map (λ e. e.0) (filter (is_share_candidate key) shares)

  share-below : (u : Text) (es : Shares) → AllByRecursion (λ y. text_cmp u y ≡ Less) (keys_of es) → T (below_all text_cmp u (keyed (units_of es)))
  share-below u [] all = tt
  share-below u (e ∷ es) all =
      elim (is_share_candidate key e) as (λ t. T (below_all text_cmp u (keyed (map (λ e. e.0) (cond t (e ∷ filter (is_share_candidate key) es) (filter (is_share_candidate key) es)))))) [
        | true ↦ both (is_lt (text_cmp u e.0)) (below_all text_cmp u (keyed (units_of es))) (told (is_lt (text_cmp u e.0)) (ap is_lt all.0)) (share-below u es all.1)
        | false ↦ share-below u es all.1
      ]

  pub shares-rise : (es : Shares) → IsStrictlySortedBy text_cmp (keys_of es) → T (is_sorted text_cmp (keyed (units_of es)))
  unfolding IsStrictlySortedBy
  shares-rise [] sorted = tt
  shares-rise (e ∷ es) sorted =
      elim (is_share_candidate key e) as (λ t. T (is_sorted text_cmp (keyed (map (λ e. e.0) (cond t (e ∷ filter (is_share_candidate key) es) (filter (is_share_candidate key) es)))))) [
        | true ↦ both (below_all text_cmp e.0 (keyed (units_of es))) (is_sorted text_cmp (keyed (units_of es))) (share-below e.0 es sorted.0) (shares-rise es sorted.1)
        | false ↦ shares-rise es sorted.1
      ]

  none-above : (q : Text) (es : Shares) → AllByRecursion (λ y. text_cmp q y ≡ Less) (keys_of es) → find text_cmp q (keyed (units_of es)) ≡ None
  none-above q [] all = refl
  none-above q (e ∷ es) all =
      elim (is_share_candidate key e) as (λ t. find text_cmp q (keyed (map (λ e. e.0) (cond t (e ∷ filter (is_share_candidate key) es) (filter (is_share_candidate key) es)))) ≡ None) [
        | true ↦ ap (λ o. cond (is_eq o) (Some tt) (find text_cmp q (keyed (units_of es)))) all.0 ∙ none-above q es all.1
        | false ↦ none-above q es all.1
      ]

  share-step : (q : Text) (e : Text × Share) (es : Shares) (o : Ordering) (t : Bool) → o ≡ text_cmp q e.0 → t ≡ is_share_candidate key e → AllByRecursion (λ y. text_cmp e.0 y ≡ Less) (keys_of es)
      → find text_cmp q (keyed (units_of es)) ≡ cond ((share_at es q).candidate && not (same_origin key q)) (Some tt) None
      → find text_cmp q (keyed (map (λ e. e.0) (cond t (e ∷ filter (is_share_candidate key) es) (filter (is_share_candidate key) es))))
      ≡ cond ((unwrap_or (cond (is_eq o) (Some e.1) (lookup (is_unit q) es)) first_share).candidate && not (same_origin key q)) (Some tt) None
  share-step q e es Equal true told is all tail =
      let same : q ≡ e.0 = exact_bytes q e.0 (sym told) in
      ap (λ o. cond (is_eq o) (Some tt) (find text_cmp q (keyed (units_of es)))) (sym told)
      ∙ ap (λ t. cond t (Some tt) None) (is ∙ ap (λ u. e.1.candidate && not (same_origin key u)) (sym same))
  share-step q e es Equal false told is all tail =
      let same : q ≡ e.0 = exact_bytes q e.0 (sym told) in
      ap (λ u. find text_cmp u (keyed (units_of es))) same ∙ none-above e.0 es all
      ∙ ap (λ t. cond t (Some tt) None) (is ∙ ap (λ u. e.1.candidate && not (same_origin key u)) (sym same))
  share-step q e es Less true told is all tail = ap (λ o. cond (is_eq o) (Some tt) (find text_cmp q (keyed (units_of es)))) (sym told) ∙ tail
  share-step q e es Less false told is all tail = tail
  share-step q e es Greater true told is all tail = ap (λ o. cond (is_eq o) (Some tt) (find text_cmp q (keyed (units_of es)))) (sym told) ∙ tail
  share-step q e es Greater false told is all tail = tail

  pub share-found : (q : Text) (es : Shares) → IsStrictlySortedBy text_cmp (keys_of es) → find text_cmp q (keyed (units_of es)) ≡ cond ((share_at es q).candidate && not (same_origin key q)) (Some tt) None
  unfolding IsStrictlySortedBy
  share-found q [] sorted = refl
  share-found q (e ∷ es) sorted = share-step q e es (text_cmp q e.0) (is_share_candidate key e) refl refl sorted.0 (share-found q es sorted.1)

-- What the machine asks of a unit that may be cleared, and what a share tells of it.
shuffle : (root persistent callers untaken : Bool) → (not persistent && not callers && untaken && root) ≡ ((root && not persistent && untaken) && not callers)
shuffle true true c u = refl
shuffle false true c u = refl
shuffle true false true true = refl
shuffle true false true false = refl
shuffle true false false true = refl
shuffle true false false false = refl
shuffle false false true u = refl
shuffle false false false true = refl
shuffle false false false false = refl

-- Something where a test holds.
abbrev flag : Bool → Option (Unit {0})
flag t = cond t (Some tt) None

cond-cond : (a b : Bool) → cond a (flag b) None ≡ flag (a && b)
cond-cond true b = refl
cond-cond false b = refl

keyed-filter : (p : Text → Bool) (xs : List Text) → keyed (filter p xs) ≡ where_key text_cmp p (keyed xs)
keyed-filter p [] = refl
keyed-filter p (x ∷ xs) =
    elim (p x) as (λ t. keyed (cond t (x ∷ filter p xs) (filter p xs)) ≡ cond t ((x, tt) ∷ where_key text_cmp p (keyed xs)) (where_key text_cmp p (keyed xs))) [
      | true ↦ ap (λ (ys : List (Text × Unit {0})). (x, tt) ∷ ys) (keyed-filter p xs)
      | false ↦ keyed-filter p xs
    ]

pub units-same : (m : Machine) (pool : Blocks) (key : Text) → IsPooled m pool → IsInOrder m.rows → origin_of key ≡ key → units_of key pool.shares ≡ filter (is_candidate m (Some key)) (root_units m)
units-same m pool key pooled order origin =
    same-texts (units_of key pool.shares) (filter (is_candidate m (Some key)) (root_units m)) (shares-rise key pool.shares pooled.ordered)
    (subst (λ es. T (is_sorted text_cmp es)) (sym (keyed-filter (is_candidate m (Some key)) (root_units m)))
    (is_sorted-where_key text_cmp (is_candidate m (Some key)) (keyed (root_units m)) (roots-rise m.rows (told (is_sorted place_cmp m.rows) order))))
    (λ q. share-found key q pool.shares pooled.ordered ∙ share-is q ∙ sym (machine-is q))
  where
    share-is : (q : Text) → flag ((share_at pool.shares q).candidate && not (same_origin key q)) ≡ flag (clearable m q && not (is_callers (Some key) q))
    share-is q = ap (λ t. flag (t && not (same_origin key q))) (pooled.marks q) ∙ ap (λ k. flag (clearable m q && not (same_text k (origin_of q)))) origin

    machine-is : (q : Text) → find text_cmp q (keyed (filter (is_candidate m (Some key)) (root_units m))) ≡ flag (clearable m q && not (is_callers (Some key) q))
    machine-is q =
        ap (find text_cmp q) (keyed-filter (is_candidate m (Some key)) (root_units m))
        ∙ find-where_key text_cmp (is_candidate m (Some key)) q (λ x tie. ap (is_candidate m (Some key)) (sym (exact_bytes q x tie))) (keyed (root_units m))
        ∙ ap (λ o. cond (is_candidate m (Some key) q) o None) (root-found q m.rows)
        ∙ cond-cond (is_candidate m (Some key) q) (is_some (row_at m (q, [])))
        ∙ ap flag (shuffle (is_some (row_at m (q, []))) (is_persistent m q) (is_callers (Some key) q) (none_taken m q))
