-- Sums over rows, as changes of rows change them.
use Rattle.std.proofs.Common.{◌≡◌, ℕ, ◌+◌, ◌≤◌, Bool, true, false, cond, not, List, [], ◌∷◌, map, filter, length, Option, Some, None, is_some, refl, sym, ap, subst, ◌∙◌, arith}
use Rattle.std.specs.List.{sum_by, flat_map, AllByRecursion}
use Rattle.std.specs.Ordering.{is_eq, is_lt, ordering_then}
use Rattle.std.specs.declared.cmp.Ordering.{Ordering}
use Rattle.std.specs.declared.cmp.Ordering.TheVariants.{Less, Equal, Greater}
use Rattle.std.specs.FinMap.Entries.{put, by_order, is_sorted, below_all}
use Rattle.std.proofs.lemmas.Bool.{false≢true, and_parts}
use Rattle.std.proofs.lemmas.List.{length-append}
use Rattle.std.proofs.lemmas.List.Sums.{sum_by-cons}
use Rattle.std.proofs.lemmas.List.Filters.{sum_by-filter_both}
use Rattle.opfs_base.specs.Places.{Place, place_cmp, is_within}
use Rattle.opfs_base.specs.declared.extents.Extent.{Extent}
use Rattle.opfs_blocks.specs.Sets.{blocks_of}
use Rattle.opfs_blocks.proofs.SetLemmas.{blocks_of-append}
use Rattle.opfs_tree.specs.declared.row.FileRow.{FileRow}
use Rattle.opfs_tree.specs.declared.row.Row.{Row}
use Rattle.opfs_tree.specs.declared.row.Row.TheVariants as row
use Rattle.opfs_tree.specs.Rows.{Rows, row_at, file_in, file_of, file_at, extents_of, extents_within, without, changed_row, change_at, stored}
use Rattle.opfs_tree.proofs.Orders.{exact_texts, exact_paths}
use Rattle.opfs_records.specs.Replay.Built.{all_extents, named, named_beside}
use Rattle.opfs_records.specs.Replay.Kept.{times, extent_count}
use Rattle.opfs_records.proofs.replay.Counts.{times_append}

-- A sum over rows that each row's content alone decides.
abbrev pub total : (Row → ℕ) → Rows → ℕ
total g rows = sum_by (λ e. g e.1) rows

pub total_cons : (g : Row → ℕ) (e : Place × Row) (rows : Rows) → total g (e ∷ rows) ≡ g e.1 + total g rows
total_cons g e rows = sum_by-cons (λ (x : Place × Row). g x.1) e rows

-- ---- blocks and extents as sums

abbrev pub names : ℕ → Row → ℕ
names k r = times k (blocks_of (extents_of r))

abbrev pub runs : Row → ℕ
runs r = length (extents_of r)

pub named_times : (k : ℕ) (rows : Rows) → times k (named rows) ≡ total (names k) rows
named_times k [] = refl
named_times k (e ∷ es) =
    ap (times k) (blocks_of-append (extents_of e.1) (all_extents es)) ∙ times_append k (blocks_of (extents_of e.1)) (named es)
    ∙ ap (λ n. names k e.1 + n) (named_times k es) ∙ sym (total_cons (names k) e es)

within_times : (k : ℕ) (rows : Rows) → times k (blocks_of (flat_map extents_of (map (λ (e : Place × Row). e.1) rows))) ≡ total (names k) rows
within_times k [] = refl
within_times k (e ∷ es) =
    ap (times k) (blocks_of-append (extents_of e.1) (flat_map extents_of (map (λ (e : Place × Row). e.1) es)))
    ∙ times_append k (blocks_of (extents_of e.1)) (blocks_of (flat_map extents_of (map (λ (e : Place × Row). e.1) es)))
    ∙ ap (λ n. names k e.1 + n) (within_times k es) ∙ sym (total_cons (names k) e es)

within_runs : (rows : Rows) → length (flat_map extents_of (map (λ (e : Place × Row). e.1) rows)) ≡ total runs rows
within_runs [] = refl
within_runs (e ∷ es) = omega (arith, length-append (extents_of e.1) (flat_map extents_of (map (λ (e : Place × Row). e.1) es)), within_runs es, total_cons runs e es)

-- ---- rows taken out

pub total_split : (g : Row → ℕ) (place : Place) (rows : Rows) → total g (filter (λ e. is_within place e.0) rows) + total g (without place rows) ≡ total g rows
total_split g place rows = sum_by-filter_both (λ (e : Place × Row). is_within place e.0) (λ e. not (is_within place e.0)) (λ e. refl) (λ e. g e.1) rows

pub without_times : (k : ℕ) (place : Place) (rows : Rows) → times k (named rows) ≡ times k (blocks_of (extents_within place rows)) + times k (named (without place rows))
without_times k place rows =
    omega (arith, named_times k rows, within_times k (filter (λ e. is_within place e.0) rows), named_times k (without place rows), total_split (names k) place rows)

pub within_few : (place : Place) (rows : Rows) → length (extents_within place rows) ≤ extent_count rows
within_few place rows = omega (arith, within_runs (filter (λ e. is_within place e.0) rows), total_split runs place rows)

pub without_few : (place : Place) (rows : Rows) → extent_count (without place rows) ≤ extent_count rows
without_few place rows = omega (arith, total_split runs place rows)

pub all_filter : {X : Type 0} (P : X → Type 0) (test : X → Bool) (xs : List X) → AllByRecursion P xs → AllByRecursion P (filter test xs)
all_filter P test [] all = tt
all_filter P test (x ∷ xs) all =
    elim (test x) as (λ t. AllByRecursion P (cond t (x ∷ filter test xs) (filter test xs))) [ true ↦ (all.0, all_filter P test xs all.1) | false ↦ all_filter P test xs all.1 ]

-- ---- a row put where none is

some_none : {X : Type 0} (x : X) → ◌≡◌ {A = Option X} (Some x) None → ⊥
some_none x e = cc

pub total_put : (g : Row → ℕ) (place : Place) (r : Row) (rows : Rows) → row_at place rows ≡ None → total g (put place_cmp place r rows) ≡ g r + total g rows
total_put g place r [] none = total_cons g (place, r) []
total_put g place r (e ∷ es) none =
    elim (place_cmp place e.0) as (λ o. cond (is_eq o) (Some e.1) (row_at place es) ≡ None → total g (by_order o ((place, r) ∷ e ∷ es) ((e.0, r) ∷ es) (e ∷ put place_cmp place r es)) ≡ g r + total g (e ∷ es)) [
      | Less ↦ λ h. total_cons g (place, r) (e ∷ es)
      | Equal ↦ λ h. absurd (some_none e.1 h)
      | Greater ↦ λ h. omega (arith, total_cons g e (put place_cmp place r es), total_cons g e es, total_put g place r es h)
    ] none

pub all_put : (P : Row → Type 0) (place : Place) (r : Row) (rows : Rows) → P r → AllByRecursion (λ e. P e.1) rows → AllByRecursion (λ e. P e.1) (put place_cmp place r rows)
all_put P place r [] here all = (here, tt)
all_put P place r (e ∷ es) here all =
    elim (place_cmp place e.0) as (λ o. AllByRecursion (λ (x : Place × Row). P x.1) (by_order o ((place, r) ∷ e ∷ es) ((e.0, r) ∷ es) (e ∷ put place_cmp place r es))) [
      | Less ↦ (here, all)
      | Equal ↦ (here, all.1)
      | Greater ↦ (all.0, all_put P place r es here all.1)
    ]

pub put_times : (place : Place) (r : Row) (rows : Rows) → row_at place rows ≡ None → extents_of r ≡ [] → (k : ℕ) → times k (named (put place_cmp place r rows)) ≡ times k (named rows)
put_times place r rows none bare k =
    let nothing : names k r ≡ 0 = ap (λ es. times k (blocks_of es)) bare in
    omega (arith, named_times k (put place_cmp place r rows), named_times k rows, total_put (names k) place r rows none, nothing)

pub put_few : (place : Place) (r : Row) (rows : Rows) → row_at place rows ≡ None → extents_of r ≡ [] → extent_count (put place_cmp place r rows) ≡ extent_count rows
put_few place r rows none bare =
    let nothing : runs r ≡ 0 = ap length bare in
    omega (arith, total_put runs place r rows none, nothing)

-- ---- a file with other blocks

abbrev pub beside : Place → Rows → Rows
beside place rows = filter (λ e. not (is_eq (place_cmp place e.0))) rows

equal : (o : Ordering) → is_eq o ≡ true → o ≡ Equal
equal Less h = absurd (false≢true h)
equal Equal h = refl
equal Greater h = absurd (false≢true h)

not_equal : (o : Ordering) → is_lt o ≡ true → is_eq o ≡ false
not_equal Less h = refl
not_equal Equal h = absurd (false≢true h)
not_equal Greater h = absurd (false≢true h)

-- what is behind the place is beside it
beside_all : (place : Place) (rows : Rows) → below_all place_cmp place rows ≡ true → beside place rows ≡ rows
beside_all place [] below = refl
beside_all place (e ∷ es) below =
    let parts = and_parts (is_lt (place_cmp place e.0)) (below_all place_cmp place es) below in
    ap (λ t. cond (not t) (e ∷ beside place es) (beside place es)) (not_equal _ parts.0) ∙ ap (λ xs. e ∷ xs) (beside_all place es parts.1)

then_parts : (a b : Ordering) → ordering_then a b ≡ Equal → (a ≡ Equal) × (b ≡ Equal)
then_parts Less b h = absurd cc
then_parts Equal b h = (refl, h)
then_parts Greater b h = absurd cc

exact_places : (p q : Place) → place_cmp p q ≡ Equal → p ≡ q
exact_places p q e =
    let parts = then_parts _ _ e in
    let units = exact_texts p.0 q.0 parts.0 in
    let paths = exact_paths p.1 q.1 parts.1 in
    λ i. (units i, paths i)

file_row : (r : Row) (f : FileRow) → file_in r ≡ Some f → r ≡ row.File f
file_row row.Dir f h = absurd cc
file_row (row.File f') f h = cc

pub total_change : (g : Row → ℕ) (place : Place) (change : FileRow → FileRow) (rows : Rows) (f : FileRow) → is_sorted place_cmp rows ≡ true → file_at place rows ≡ Some f
    → (total g rows ≡ g (row.File f) + total g (beside place rows)) × (total g (change_at place change rows) ≡ g (row.File (change f)) + total g (beside place rows))
total_change g place change [] f sorted there = absurd cc
total_change g place change (e ∷ es) f sorted there =
    let order = and_parts (below_all place_cmp e.0 es) (is_sorted place_cmp es) sorted in
    let P = λ (t : Bool). is_eq (place_cmp place e.0) ≡ t → file_of (cond t (Some e.1) (row_at place es)) ≡ Some f
    → (total g (e ∷ es) ≡ g (row.File f) + total g (cond (not t) (e ∷ beside place es) (beside place es)))
    × (total g (elim t [ true ↦ (e.0, changed_row change e.1) ∷ es | false ↦ e ∷ change_at place change es ]) ≡ g (row.File (change f)) + total g (cond (not t) (e ∷ beside place es) (beside place es))) in
    elim (is_eq (place_cmp place e.0)) as P [
      | true ↦ λ told here.
          let same : e.0 ≡ place = sym (exact_places place e.0 (equal _ told)) in
          let behind : beside place es ≡ es = beside_all place es (subst (λ (q : Place). below_all place_cmp q es ≡ true) same order.0) in
          let r : e.1 ≡ row.File f = file_row e.1 f here in
          let old : g e.1 ≡ g (row.File f) = ap g r in
          let new : g (changed_row change e.1) ≡ g (row.File (change f)) = ap (λ x. g (changed_row change x)) r in
          let rest : total g (beside place es) ≡ total g es = ap (total g) behind in
          (omega (arith, total_cons g e es), omega (arith, total_cons g (e.0, changed_row change e.1) es))
      | false ↦ λ told here.
          let below = total_change g place change es f order.1 here in
          (omega (arith, total_cons g e es, total_cons g e (beside place es), below.0), omega (arith, total_cons g e (change_at place change es), total_cons g e (beside place es), below.1))
    ] refl there

pub all_change : (P : Row → Type 0) (place : Place) (change : FileRow → FileRow) (rows : Rows) → ((f : FileRow) → P (row.File f) → P (row.File (change f))) → AllByRecursion (λ e. P e.1) rows
    → AllByRecursion (λ e. P e.1) (change_at place change rows)
all_change P place change [] keeps all = tt
all_change P place change (e ∷ es) keeps all =
    let here : (r : Row) → P r → P (changed_row change r) = λ r. elim r as (λ x. P x → P (changed_row change x)) [ row.Dir ↦ λ h. h | row.File f ↦ λ h. keeps f h ] in
    elim (is_eq (place_cmp place e.0)) as (λ t. AllByRecursion (λ (x : Place × Row). P x.1) (elim t [ true ↦ (e.0, changed_row change e.1) ∷ es | false ↦ e ∷ change_at place change es ])) [
      | true ↦ (here e.1 all.0, all.1)
      | false ↦ (all.0, all_change P place change es keeps all.1)
    ]

-- The blocks before and after a file gets others.
pub old_times : (place : Place) (rows : Rows) (f : FileRow) → is_sorted place_cmp rows ≡ true → file_at place rows ≡ Some f → (k : ℕ) → times k (named rows) ≡ times k (blocks_of f.extents) + times k (named_beside place rows)
old_times place rows f sorted there k =
    omega (arith, named_times k rows, named_times k (beside place rows), (total_change (names k) place (λ x. x) rows f sorted there).0)

pub new_times : (place : Place) (length stamp : ℕ) (extents : List Extent) (rows : Rows) (f : FileRow) → is_sorted place_cmp rows ≡ true → file_at place rows ≡ Some f
    → (k : ℕ) → times k (named (change_at place (stored length stamp extents) rows)) ≡ times k (blocks_of extents) + times k (named_beside place rows)
new_times place length stamp extents rows f sorted there k =
    omega (arith, named_times k (change_at place (stored length stamp extents) rows), named_times k (beside place rows), (total_change (names k) place (stored length stamp extents) rows f sorted there).1)

pub new_few : (place : Place) (len stamp : ℕ) (extents : List Extent) (rows : Rows) (f : FileRow) → is_sorted place_cmp rows ≡ true → file_at place rows ≡ Some f
    → extent_count (change_at place (stored len stamp extents) rows) ≤ extent_count rows + length extents
new_few place len stamp extents rows f sorted there =
    let both = total_change runs place (stored len stamp extents) rows f sorted there in
    omega (arith, both.0, both.1)

-- ---- as the calls need them

pub found_file : (o : Option FileRow) → is_some o ≡ true → (f : FileRow) × (o ≡ Some f)
found_file None h = absurd (false≢true h)
found_file (Some f) h = (f, refl)

pub store_times : (place : Place) (len stamp : ℕ) (extents : List Extent) (rows : Rows) → is_sorted place_cmp rows ≡ true → is_some (file_at place rows) ≡ true
    → (k : ℕ) → times k (named (change_at place (stored len stamp extents) rows)) ≡ times k (blocks_of extents) + times k (named_beside place rows)
store_times place len stamp extents rows sorted there k =
    let file = found_file (file_at place rows) there in
    new_times place len stamp extents rows file.0 sorted file.1 k

pub store_few : (place : Place) (len stamp : ℕ) (extents : List Extent) (rows : Rows) → is_sorted place_cmp rows ≡ true → is_some (file_at place rows) ≡ true
    → extent_count (change_at place (stored len stamp extents) rows) ≤ extent_count rows + length extents
store_few place len stamp extents rows sorted there =
    let file = found_file (file_at place rows) there in
    new_few place len stamp extents rows file.0 sorted file.1
