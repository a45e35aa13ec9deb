-- A call lets go no more extents than there are data blocks.
use Rattle.std.proofs.Common.{◌≡◌, ℕ, zero, suc, ◌<◌, ◌≤◌, ◌||◌, Bool, true, false, cond, if◌then◌else◌, nat_eq, List, [], ◌∷◌, length, Option, Some, None, refl, sym, ap, subst, inl, inr, arith}
use Rattle.std.specs.Prelude.{IsTrue}
use Rattle.std.specs.List.{AllByRecursion, range_with_len}
use Rattle.std.specs.Ordering.{eq_by_cmp}
use Rattle.std.specs.Set.{is_member}
use Rattle.std.proofs.lemmas.Bool.{cases_eq}
use Rattle.std.proofs.lemmas.List.{length-append}
use Rattle.std.proofs.lemmas.List.FromFn.{length-range_with_len}
use Rattle.std.proofs.lemmas.List.Sums.{sum_by-cons}
use Rattle.std.proofs.lemmas.Map.Made.{length-le_from_is_member}
use Rattle.std.proofs.lemmas.Cmp.{nat_eq_equiv}
use Rattle.opfs_base.specs.Places.{Place, place_cmp, place_of, child}
use Rattle.opfs_base.specs.declared.extents.Extent.{Extent}
use Rattle.opfs_blocks.specs.Sets.{blocks_of}
use Rattle.opfs_blocks.proofs.SetLemmas.{blocks_of-append}
use Rattle.opfs_state_rows.specs.Changes.Changed.{extents_in, replaced_at, stream_frees, handle_frees, freed_in}
use Rattle.opfs_pages.specs.HistoryLaws.Spaced.{AreSpaced}
use Rattle.opfs_pages.proofs.history_laws.Holding.{spaced-blocks}
use Rattle.opfs_hist.specs.declared.op.Op.{Op}
use Rattle.opfs_hist.specs.declared.op.Op.TheVariants as op
use Rattle.opfs_machine.specs.declared.own.HandleOutline.{HandleOutline}
use Rattle.opfs_machine.specs.declared.own.StreamOutline.{StreamOutline}
use Rattle.opfs_machine.specs.Agents.{open_stream, open_handle}
use Rattle.opfs_machine.specs.Contents.{in_lengths}
use Rattle.opfs_machine.specs.Rulings.{is_read_write}
use Rattle.opfs_records.specs.Replay.Built.{IsSoundRow, named, all_extents, has_block, is_once}
use Rattle.opfs_records.specs.Replay.Kept.{extent_count}
use Rattle.opfs_records.proofs.replay.Counts.{distinct_once}
use Rattle.opfs_records.proofs.replay.Rows.{within_few}
use Rattle.opfs_pages.specs.RowCalls.Plans.{shelf}
use Rattle.opfs_records.specs.Checkpoint.Written.{stored_row, stored_rows}
use Rattle.opfs_space.specs.Room.{Machine}
use Rattle.opfs_space.specs.Spaces.{SpaceSeen}
use Rattle.opfs_tree.specs.Rows.{Rows as Tree, row_at, file_in, file_of, file_at, extents_of, extents_within}
use Rattle.opfs_tree.specs.declared.row.Row.{Row}
use Rattle.opfs_tree.specs.declared.row.Row.TheVariants as row
use Rattle.opfs_data.specs.Rows.{Rows}

-- ---- numbers below a bound

abbrev below : ℕ → List ℕ
below zero = []
below (suc n) = n ∷ below n

below-length : (n : ℕ) → length (below n) ≡ n
below-length zero = refl
below-length (suc n) = ap (λ m. suc m) (below-length n)

or-right : (a b : Bool) → b ≡ true → (a || b) ≡ true
or-right true b is = refl
or-right false b is = is

below-has : (n q : ℕ) → q < n → is_member nat_eq (below n) q ≡ true
below-has zero q within = absurd (omega (arith, within))
below-has (suc n) q within = elim (cases_eq q n) [
  | inl same ↦ subst (λ (x : ℕ). is_member nat_eq (below (suc n)) x ≡ true) (sym same) (here n (is_member nat_eq (below n) n))
  | inr far ↦ or-right (nat_eq q n) (is_member nat_eq (below n) q) (below-has n q (omega (arith, within, far)))
]
  where
    here : (m : ℕ) (b : Bool) → (nat_eq m m || b) ≡ true
    here m b = ap (λ t. t || b) (nat_eq_equiv.refl m)

pub few-below : (n : ℕ) (xs : List ℕ) → is_once xs ≡ true → ((b : ℕ) → has_block xs b ≡ true → b < n) → length xs ≤ n
few-below n xs once within =
    let most = length-le_from_is_member nat_eq_equiv xs (below n) (distinct_once xs once) (λ q has. below-has n q (within q has)) in
    omega (arith, most, below-length n)

-- ---- extents

runs-few : (es : List Extent) → AllByRecursion (λ e. 0 < e.count) es → length es ≤ length (blocks_of es)
runs-few [] all = omega arith
runs-few (e ∷ es) all =
    let more = runs-few es all.1 in
    omega (arith, more, all.0, length-append (range_with_len e.start e.count) (blocks_of es), length-range_with_len e.start e.count)

row-few : (size : ℕ) (r : Row) → IsSoundRow size (stored_row r) → length (extents_of r) ≤ length (blocks_of (extents_of r))
row-few size row.Dir sound = omega arith
row-few size (row.File f) sound = runs-few f.extents sound.some

rows-few : (size : ℕ) (t : Tree) → AllByRecursion (λ e. IsSoundRow size e.1) (stored_rows t) → extent_count t ≤ length (named t)
rows-few size [] all = omega arith
rows-few size (e ∷ es) all =
    let more = rows-few size es all.1 in
    let first = row-few size e.1 all.0 in
    omega (arith, more, first, sum_by-cons (λ (x : Place × Row). length (extents_of x.1)) e es, ap length (blocks_of-append (extents_of e.1) (all_extents es)), length-append (blocks_of (extents_of e.1)) (named es))

-- What is at a place and below it has no more extents than there are blocks.
pub within-few : (m : Machine) (recorded t : Tree) (swap : Rows) (space : SpaceSeen) (size : ℕ) (place : Place) → AreSpaced m (shelf recorded t swap) space → m.limits.blocks ≡ size
    → AllByRecursion (λ e. IsSoundRow size e.1) (stored_rows t) → IsTrue (is_once (named t)) → length (extents_within place t) ≤ size
within-few m recorded t swap space size place spaced limits files once =
    let blocks = spaced-blocks m (shelf recorded t swap) space spaced in
    let inside : (b : ℕ) → has_block (named t) b ≡ true → b < size = λ b has. let at = (blocks.grounded b (blocks.inside b has)).0 in omega (arith, at, spaced.size, limits) in
    let most = few-below size (named t) once inside in
    omega (arith, most, rows-few size t files, within_few place t)

-- ---- what any call lets go

row-extents : (r : Row) → length (extents_in (file_in r)) ≡ length (extents_of r)
row-extents row.Dir = refl
row-extents (row.File f) = refl

at-few : (place : Place) (t : Tree) → length (extents_in (file_at place t)) ≤ extent_count t
at-few place [] = omega arith
at-few place (e ∷ es) =
    let more = at-few place es in
    let sum = sum_by-cons (λ (x : Place × Row). length (extents_of x.1)) e es in
    elim (eq_by_cmp place_cmp place e.0) as (λ b. length (extents_in (file_of (cond b (Some e.1) (row_at place es)))) ≤ extent_count (e ∷ es)) [
      | true ↦ omega (arith, sum, row-extents e.1)
      | false ↦ omega (arith, sum, more)
    ]

replaced-few : (t : Tree) (place : Place) (extents : Option (List Extent)) → length (replaced_at t place extents) ≤ extent_count t
replaced-few t place None = omega arith
replaced-few t place (Some extents) = at-few place t

stream-few : (t : Tree) (extents : Option (List Extent)) (w : Option StreamOutline) → length (stream_frees t extents w) ≤ extent_count t
stream-few t extents None = omega arith
stream-few t extents (Some w) = replaced-few t w.file extents

if-few : (b : Bool) (xs : List Extent) (n : ℕ) → length xs ≤ n → length (if b then xs else []) ≤ n
if-few true xs n few = few
if-few false xs n few = omega arith

handle-few : (t : Tree) (extents : Option (List Extent)) (h : Option HandleOutline) → length (handle_frees t extents h) ≤ extent_count t
handle-few t extents None = omega arith
handle-few t extents (Some h) = if-few (is_read_write h.mode) (replaced_at t h.file extents) (extent_count t) (replaced-few t h.file extents)

freed-count : (m : Machine) (t : Tree) (k : ℕ) (o : Op) (extents : Option (List Extent)) → length (freed_in m t k o extents) ≤ extent_count t
unfolding freed_in
freed-count m t k (op.RemoveEntry dir name recursive) extents = within_few (child (place_of dir) name) t
freed-count m t k (op.Close n) extents = stream-few t extents (open_stream in_lengths m k n)
freed-count m t k (op.SyncFlush n) extents = handle-few t extents (open_handle in_lengths m k n)
freed-count m t k (op.SyncClose n) extents = handle-few t extents (open_handle in_lengths m k n)
freed-count m t k o extents = omega arith

pub freed-few : (m : Machine) (recorded t : Tree) (swap : Rows) (space : SpaceSeen) (size k : ℕ) (o : Op) (extents : Option (List Extent)) → AreSpaced m (shelf recorded t swap) space → m.limits.blocks ≡ size
    → AllByRecursion (λ e. IsSoundRow size e.1) (stored_rows t) → IsTrue (is_once (named t)) → length (freed_in m t k o extents) ≤ size
freed-few m recorded t swap space size k o extents spaced limits files once =
    let blocks = spaced-blocks m (shelf recorded t swap) space spaced in
    let inside : (b : ℕ) → has_block (named t) b ≡ true → b < size = λ b has. let at = (blocks.grounded b (blocks.inside b has)).0 in omega (arith, at, spaced.size, limits) in
    let most = few-below size (named t) once inside in
    omega (arith, most, rows-few size t files, freed-count m t k o extents)
