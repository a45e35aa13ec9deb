-- Rows whose files' blocks stand one behind another.
use Rattle.std.proofs.Common.{◌≡◌, ℕ, zero, suc, ◌+◌, ◌*◌, ◌<◌, ◌≤◌, ◌⊎◌, inl, inr, Bool, true, false, not, ◌&&◌, ◌||◌, List, [], ◌∷◌, ◌++◌, length, refl, sym, ap, subst, ◌∙◌, arith}
use Rattle.std.specs.Prelude.{sum_by, nat_eq}
use Rattle.std.specs.List.{AllByRecursion, range_with_len}
use Rattle.std.specs.FinMap.Entries.{put, is_sorted}
use Rattle.std.proofs.lemmas.List.{append-nil}
use Rattle.std.proofs.lemmas.List.Concat.{flat_map-append}
use Rattle.std.proofs.lemmas.List.Sums.{sum_by-cons}
use Rattle.opfs_base.specs.Blocks.{blocks}
use Rattle.opfs_base.specs.Measures.{unit_bytes}
use Rattle.opfs_base.specs.Places.{Place, place_cmp}
use Rattle.opfs_base.specs.declared.extents.Extent.{Extent}
use Rattle.opfs_blocks.specs.Sets.{blocks_in, blocks_of}
use Rattle.opfs_codec.specs.declared.change.Format.TheVariants.{New}
use Rattle.opfs_image.specs.Filling.{filled_row, AreIn}
use Rattle.opfs_image.proofs.Beside.{in_data}
use Rattle.opfs_image.proofs.Named.{same_filled}
use Rattle.opfs_machine.specs.Openings.{Map, Stored, folder, document}
use Rattle.opfs_outside.specs.Bytes.{Same}
use Rattle.opfs_records.specs.Replay.Built.{Built, IsSound, IsSoundRow, all_extents, named, block_count, has_block, is_once}
use Rattle.opfs_records.specs.Replay.Sums.{charge_of, row_charge}
use Rattle.opfs_records.specs.Checkpoint.Written.{stored_row, stored_rows}
use Rattle.opfs_records.proofs.checkpoint.Last.{put_last}
use Rattle.opfs_tree.specs.Rows.{Rows, extents_of}
use Rattle.opfs_tree.specs.declared.row.Row.{Row}
use Rattle.opfs_dump.specs.Text.Limits.{places_of, last_of, is_behind, bare_row, bare_rows, blocks_needed, stored_blocks, charge_of_map}
use Rattle.opfs_dump.specs.Loading.Laid.{laid, laid_row, laid_run, laid_map, filled_rows}
use Rattle.opfs_dump.proofs.loading.Orders.{before_by_last}

pub needed_first : (e : Place × Stored) (es : List (Place × Stored)) → blocks_needed (e ∷ es) ≡ stored_blocks e.1 + blocks_needed es
needed_first e es = sum_by-cons (λ (x : Place × Stored). stored_blocks x.1) e es

pub needed_more : (done : List (Place × Stored)) (e : Place × Stored) → blocks_needed (done ++ e ∷ []) ≡ blocks_needed done + stored_blocks e.1
needed_more [] e = omega (arith, needed_first e [])
needed_more (d ∷ ds) e = omega (arith, needed_first d ds, needed_first d (ds ++ e ∷ []), needed_more ds e)

pub laid_none : (at : ℕ) → laid at [] ≡ []
unfolding laid
laid_none at = refl

pub laid_more : (at : ℕ) (done : List (Place × Stored)) (e : Place × Stored) → laid at (done ++ e ∷ []) ≡ laid at done ++ (e.0, laid_row (at + blocks_needed done) e.1) ∷ []
unfolding laid
laid_more at [] e = let same : at ≡ at + 0 = omega arith in ap (λ (n : ℕ). (e.0, laid_row n e.1) ∷ []) same
laid_more at (d ∷ ds) e =
    let same : (at + stored_blocks d.1) + blocks_needed ds ≡ at + blocks_needed (d ∷ ds) = omega (arith, needed_first d ds) in
    ap (λ (xs : Rows). (d.0, laid_row at d.1) ∷ xs) (laid_more (at + stored_blocks d.1) ds e)
    ∙ ap (λ (n : ℕ). (d.0, laid_row at d.1) ∷ (laid (at + stored_blocks d.1) ds ++ (e.0, laid_row n e.1) ∷ [])) same

laid_places : (at : ℕ) (rows : List (Place × Stored)) → places_of (laid at rows) ≡ places_of rows
unfolding laid
laid_places at [] = refl
laid_places at (e ∷ es) = ap (λ (xs : List Place). e.0 ∷ xs) (laid_places (at + stored_blocks e.1) es)

-- one row more with its blocks
pub laid_put : (done : List (Place × Stored)) (e : Place × Stored) (n : ℕ) (rows new : Rows) → rows ≡ laid 0 done → n ≡ blocks_needed done → is_sorted place_cmp rows ≡ true
    → is_behind (last_of (places_of done)) e.0 ≡ true → new ≡ put place_cmp e.0 (laid_row n e.1) rows → new ≡ laid 0 (done ++ e ∷ [])
laid_put done e n rows new is at sorted behind made =
    let all = before_by_last e.0 rows sorted (ap (λ (x : Rows). is_behind (last_of (places_of x)) e.0) is ∙ (ap (λ (x : List Place). is_behind (last_of x) e.0) (laid_places 0 done) ∙ behind)) in
    made ∙ (put_last e.0 (laid_row n e.1) rows all ∙ (ap (λ (x : Rows). x ++ (e.0, laid_row n e.1) ∷ []) is
    ∙ (ap (λ (k : ℕ). laid 0 done ++ (e.0, laid_row k e.1) ∷ []) (let same : n ≡ 0 + blocks_needed done = omega (arith, at) in same) ∙ sym (laid_more 0 done e))))

-- ---- sound

run_some : (at n : ℕ) → AllByRecursion (λ e. 0 < e.count) (laid_run at n)
run_some at zero = tt
run_some at (suc n) = (omega arith, tt)

run_count : (at n : ℕ) → block_count (laid_run at n) ≡ n
run_count at zero = refl
run_count at (suc n) = omega (arith, sum_by-cons (λ (e : Extent). e.count) (record { start = at; count = suc n }) [])

run_below : (size at n : ℕ) → at + n ≤ size → AllByRecursion (λ e. e.start + e.count ≤ size) (laid_run at n)
run_below size at zero fits = tt
run_below size at (suc n) fits = (fits, tt)

row_sound : (size at : ℕ) (s : Stored) → at + stored_blocks s ≤ size → IsSoundRow size (laid_row at s)
row_sound size at folder fits = tt
row_sound size at (document bytes stamp) fits = record {
  some = run_some at (blocks (length bytes));
  whole = run_count at (blocks (length bytes));
  below = run_below size at (blocks (length bytes)) fits;
  present = refl;
  present_stamp = refl;
  unlocked = refl;
}

rows_sound : (size at : ℕ) (rows : List (Place × Stored)) → at + blocks_needed rows ≤ size → AllByRecursion (λ e. IsSoundRow size e.1) (laid at rows)
unfolding laid
rows_sound size at [] fits = tt
rows_sound size at (e ∷ es) fits = (row_sound size at e.1 (omega (arith, fits, needed_first e es)), rows_sound size (at + stored_blocks e.1) es (omega (arith, fits, needed_first e es)))

run_blocks : (at n : ℕ) → blocks_of (laid_run at n) ≡ range_with_len at n
run_blocks at zero = refl
run_blocks at (suc n) = append-nil (range_with_len at (suc n))

row_blocks : (at : ℕ) (s : Stored) → blocks_of (extents_of (laid_row at s)) ≡ range_with_len at (stored_blocks s)
row_blocks at folder = refl
row_blocks at (document bytes stamp) = run_blocks at (blocks (length bytes))

ranges : (a n m : ℕ) → range_with_len a n ++ range_with_len (a + n) m ≡ range_with_len a (n + m)
ranges a zero m = let left : a + 0 ≡ a = omega arith in let right : m ≡ 0 + m = omega arith in ap (λ (x : ℕ). range_with_len x m) left ∙ ap (range_with_len a) right
ranges a (suc n) m =
    let next : a + suc n ≡ (a + 1) + n = omega arith in
    let whole : suc (n + m) ≡ suc n + m = omega arith in
    ap (λ (x : ℕ). a ∷ (range_with_len (a + 1) n ++ range_with_len x m)) next ∙ (ap (λ (xs : List ℕ). a ∷ xs) (ranges (a + 1) n m) ∙ ap (range_with_len a) whole)

named_first : (e : Place × Row) (es : Rows) → named (e ∷ es) ≡ blocks_of (extents_of e.1) ++ named es
named_first e es = flat_map-append blocks_in (extents_of e.1) (all_extents es)

named_laid : (at : ℕ) (rows : List (Place × Stored)) → named (laid at rows) ≡ range_with_len at (blocks_needed rows)
unfolding laid
named_laid at [] = refl
named_laid at (e ∷ es) =
    named_first (e.0, laid_row at e.1) (laid (at + stored_blocks e.1) es)
    ∙ (ap (λ (xs : List ℕ). xs ++ named (laid (at + stored_blocks e.1) es)) (row_blocks at e.1)
    ∙ (ap (λ (xs : List ℕ). range_with_len at (stored_blocks e.1) ++ xs) (named_laid (at + stored_blocks e.1) es)
    ∙ (ranges at (stored_blocks e.1) (blocks_needed es) ∙ ap (range_with_len at) (sym (needed_first e es)))))

not_there : (x a n : ℕ) → x < a → has_block (range_with_len a n) x ≡ false
not_there x a zero less = refl
not_there x a (suc n) less =
    let other : nat_eq x a ≡ false = search (arith, less) in
    ap (λ (t : Bool). t || has_block (range_with_len (a + 1) n) x) other ∙ not_there x (a + 1) n (omega arith)

once : (a n : ℕ) → is_once (range_with_len a n) ≡ true
once a zero = refl
once a (suc n) = ap (λ (t : Bool). not t && is_once (range_with_len (a + 1) n)) (not_there a (a + 1) n (omega arith)) ∙ once (a + 1) n

one_stored : (at : ℕ) (s : Stored) → stored_row (laid_row at s) ≡ laid_row at s
one_stored at folder = refl
one_stored at (document bytes stamp) = refl

stored_same : (at : ℕ) (rows : List (Place × Stored)) → stored_rows (laid at rows) ≡ laid at rows
unfolding laid
stored_same at [] = refl
stored_same at (e ∷ es) =
    ap (λ (xs : Rows). (e.0, stored_row (laid_row at e.1)) ∷ xs) (stored_same (at + stored_blocks e.1) es)
    ∙ ap (λ (r : Row). (e.0, r) ∷ laid (at + stored_blocks e.1) es) (one_stored at e.1)

pub laid_sound : (size : ℕ) (rows : List (Place × Stored)) → blocks_needed rows ≤ size → IsSound size (stored_rows (laid 0 rows))
laid_sound size rows fits = subst (λ (x : Rows). IsSound size x) (sym (stored_same 0 rows)) (record {
  files = rows_sound size 0 rows (omega (arith, fits));
  once = ap is_once (named_laid 0 rows) ∙ once 0 (blocks_needed rows);
})

pub stored_laid : (rows : List (Place × Stored)) (persistent : List (List ℕ)) → ◌≡◌ {A = Built} (record { rows = stored_rows (laid 0 rows); persistent = persistent }) (record { rows = laid 0 rows; persistent = persistent })
stored_laid rows persistent = let same = stored_same 0 rows in λ i. record { rows = same i; persistent = persistent }

-- the charge is that of the rows without their blocks
charge_same : (place : Place) (at : ℕ) (s : Stored) → row_charge New place (laid_row at s) ≡ row_charge New place (bare_row s)
charge_same (unit, []) at folder = refl
charge_same (unit, name ∷ names) at folder = refl
charge_same (unit, []) at (document bytes stamp) = refl
charge_same (unit, name ∷ names) at (document bytes stamp) = refl

charges_same : (at : ℕ) (rows : List (Place × Stored)) → sum_by (λ e. row_charge New e.0 e.1) (laid at rows) ≡ sum_by (λ e. row_charge New e.0 e.1) (bare_rows rows)
unfolding laid
charges_same at [] = refl
charges_same at (e ∷ es) =
    omega (
      arith,
      charge_same e.0 at e.1,
      charges_same (at + stored_blocks e.1) es,
      sum_by-cons (λ (x : Place × Row). row_charge New x.0 x.1) (e.0, laid_row at e.1) (laid (at + stored_blocks e.1) es),
      sum_by-cons (λ (x : Place × Row). row_charge New x.0 x.1) (e.0, bare_row e.1) (bare_rows es),
    )

pub laid_charge : (m : Map) → charge_of New (laid_map m) ≡ charge_of_map m
unfolding charge_of
laid_charge m = ap (λ (n : ℕ). n + sum_by (λ (unit : List ℕ). 3 + unit_bytes unit) m.persistent) (charges_same 0 m.rows)

-- ---- the bytes

in_run : (base at n i : ℕ) → AreIn base (laid_run at n) i → i < base + 4096 * (at + n)
in_run base at zero i h = elim h [ ]
in_run base at (suc n) i (inl h) = omega (arith, h.1)
in_run base at (suc n) i (inr h) = elim h [ ]

in_row : (base at : ℕ) (s : Stored) (i : ℕ) → AreIn base (extents_of (laid_row at s)) i → i < base + 4096 * (at + stored_blocks s)
in_row base at folder i h = elim h [ ]
in_row base at (document bytes stamp) i h = in_run base at (blocks (length bytes)) i h

in_parts : (base : ℕ) (xs ys : List Extent) (i : ℕ) → AreIn base (xs ++ ys) i → AreIn base xs i ⊎ AreIn base ys i
in_parts base [] ys i h = inr h
in_parts base (x ∷ xs) ys i (inl h) = inl (inl h)
in_parts base (x ∷ xs) ys i (inr h) = elim (in_parts base xs ys i h) [ inl a ↦ inl (inr a) | inr b ↦ inr b ]

in_rows : (base at : ℕ) (rows : List (Place × Stored)) (i : ℕ) → AreIn base (all_extents (laid at rows)) i → i < base + 4096 * (at + blocks_needed rows)
unfolding laid
in_rows base at [] i h = elim h [ ]
in_rows base at (e ∷ es) i h =
    elim (in_parts base (extents_of (laid_row at e.1)) (all_extents (laid (at + stored_blocks e.1) es)) i h) [
      | inl a ↦ omega (arith, in_row base at e.1 i a, needed_first e es)
      | inr b ↦ omega (arith, in_rows base (at + stored_blocks e.1) es i b, needed_first e es)
    ]

-- rows stay where nothing is written before the end of their blocks
pub rows_stay : (base : ℕ) (c d : List ℕ) (rows : List (Place × Stored)) → Same (λ i. i < base + 4096 * blocks_needed rows) c d → filled_rows base c (laid 0 rows) ≡ filled_rows base d (laid 0 rows)
rows_stay base c d rows same = ap (λ (m : Map). m.rows) (same_filled base c d (record { rows = laid 0 rows; persistent = [] }) (λ i h. same i (omega (arith, in_rows base 0 rows i h))))

filled_append : (base : ℕ) (c : List ℕ) (xs ys : Rows) → filled_rows base c (xs ++ ys) ≡ filled_rows base c xs ++ filled_rows base c ys
filled_append base c [] ys = refl
filled_append base c (x ∷ xs) ys = ap (λ (zs : List (Place × Stored)). (x.0, filled_row base c x.1) ∷ zs) (filled_append base c xs ys)

-- rows stay where nothing is written behind the base
pub rows_same : (base : ℕ) (c d : List ℕ) (rows : List (Place × Stored)) → Same (λ i. base ≤ i) c d → filled_rows base c (laid 0 rows) ≡ filled_rows base d (laid 0 rows)
rows_same base c d rows same =
    ap (λ (m : Map). m.rows) (same_filled base c d (record { rows = laid 0 rows; persistent = [] }) (λ i h. same i (in_data base (all_extents (laid 0 rows)) i h)))

-- one row more is written
pub rows_more : (base : ℕ) (c d : List ℕ) (done : List (Place × Stored)) (e : Place × Stored) (n : ℕ) → n ≡ blocks_needed done → Same (λ i. i < base + 4096 * n) d c → filled_rows base c (laid 0 done) ≡ done
    → filled_row base d (laid_row n e.1) ≡ e.1 → filled_rows base d (laid 0 (done ++ e ∷ [])) ≡ done ++ e ∷ []
rows_more base c d done e n is same so_far now =
    let at : n ≡ 0 + blocks_needed done = omega (arith, is) in
    ap (filled_rows base d) (laid_more 0 done e)
    ∙ (filled_append base d (laid 0 done) ((e.0, laid_row (0 + blocks_needed done) e.1) ∷ [])
    ∙ (ap (λ (xs : List (Place × Stored)). xs ++ (e.0, filled_row base d (laid_row (0 + blocks_needed done) e.1)) ∷ [])
    (rows_stay base d c done (λ i h. same i (omega (arith, h, is))) ∙ so_far)
    ∙ ap (λ (s : Stored). done ++ (e.0, s) ∷ []) (ap (λ (k : ℕ). filled_row base d (laid_row k e.1)) (sym at) ∙ now)))
