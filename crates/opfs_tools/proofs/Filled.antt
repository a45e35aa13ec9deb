-- What is seen of the rows of a tree, and of the map that they stand for.
use Rattle.std.proofs.Common.{◌≡◌, ℕ, ◌+◌, ◌*◌, ◌^◌, ◌<◌, ◌≤◌, Bool, true, false, List, [], ◌∷◌, ◌++◌, length, length-append, refl, sym, ap, ◌∙◌, arith}
use Rattle.std.specs.Prelude.{◌&&◌, nat_le, map, sum_by, Result, Ok, Err, OnOk, if◌then◌else◌}
use Rattle.std.specs.Result.{is_ok}
use Rattle.std.specs.List.{AllByRecursion, flat_map}
use Rattle.std.proofs.lemmas.List.{length-take-le}
use Rattle.std.proofs.lemmas.List.Sums.{sum_by-cons}
use Rattle.opfs_base.specs.Texts.{Text}
use Rattle.opfs_base.specs.Places.{Place}
use Rattle.opfs_base.specs.declared.extents.Extent.{Extent}
use Rattle.opfs_outside.specs.Windows.{length-window}
use Rattle.opfs_data.specs.Places.{run_bytes, run_place, run_room, room_of, bytes_of, AllLie}
use Rattle.opfs_image.specs.Filling.{filled, filled_row}
use Rattle.opfs_image.specs.Superblock.{area_bytes, is_between, is_in_range}
use Rattle.opfs_image.specs.declared.geometry.Geometry.{Geometry}
use Rattle.opfs_records.specs.Replay.Built.{IsSoundRow, IsSoundFile, block_count}
use Rattle.opfs_codec.specs.Charges.{unit_bytes}
use Rattle.opfs_codec.specs.declared.change.Format.TheVariants.{New}
use Rattle.opfs_image.specs.Agreeing.{built_in}
use Rattle.opfs_records.specs.Replay.Sums.{charge_of, persistent_in}
use Rattle.opfs_records.specs.Replay.Sums.{row_charge as built_charge}
use Rattle.opfs_shed.specs.Buckets.{Storage}
use Rattle.opfs_tree.specs.Rows.{Rows}
use Rattle.opfs_tree.specs.declared.row.FileRow.{FileRow}
use Rattle.opfs_tree.specs.declared.row.Row.{Row}
use Rattle.opfs_tree.specs.declared.row.Row.TheVariants as row
use Rattle.opfs_tools.specs.Checking.{row_charge, whole_charge, ok_line, counts_line, check_text, count_of, is_directory, is_file}
use Rattle.opfs_tools.specs.Reading.{Lies, RowsLie, stored_lines}
use Rattle.opfs_tools.specs.Sights.{Sights, sights_of, sight_of, sights_in, sight_in, used_blocks, sight_blocks}
use Rattle.opfs_tools.specs.Units.{UnitSeen, units_of}
use Rattle.opfs_tools.specs.declared.sights.Sight.{Sight}
use Rattle.opfs_tools.specs.declared.sights.Sight.TheVariants as sight

pub room_is : (es : List Extent) → room_of es ≡ 4096 * block_count es
room_is [] = refl
room_is (e ∷ es) = omega (arith, room_is es, sum_by-cons (λ (x : Extent). x.count) e es)

length_runs : (c : List ℕ) (base : ℕ) (es : List Extent) → length (flat_map (run_bytes c base) es) ≡ room_of es
length_runs c base [] = refl
length_runs c base (e ∷ es) =
    length-append (run_bytes c base e) (flat_map (run_bytes c base) es) ∙ omega (arith, length_runs c base es, length-window c (run_place base e) (run_room e))

-- a file's blocks hold its bytes
pub holds_bytes : (size : ℕ) (f : FileRow) → IsSoundFile size f → f.length ≤ room_of f.extents
holds_bytes size f sound = omega (arith, room_is f.extents, sound.whole)

length_bytes : (size : ℕ) (c : List ℕ) (base : ℕ) (f : FileRow) → IsSoundFile size f → length (bytes_of c base f.extents f.length) ≡ f.length
length_bytes size c base f sound = length-take-le f.length (flat_map (run_bytes c base) f.extents) (omega (arith, length_runs c base f.extents, holds_bytes size f sound))

same_sight : (size : ℕ) (c : List ℕ) (base : ℕ) (r : Row) → IsSoundRow size r → sight_of (filled_row base c r) ≡ sight_in r
same_sight size c base row.Dir sound = refl
same_sight size c base (row.File f) sound = ap (λ n. sight.File n f.stamp) (length_bytes size c base f sound)

-- what is seen of the rows is what is seen of the map
pub same_sights : (size : ℕ) (c : List ℕ) (base : ℕ) (rows : Rows) → AllByRecursion (λ e. IsSoundRow size e.1) rows
    → sights_of (map (λ e. (e.0, filled_row base c e.1)) rows) ≡ sights_in rows
same_sights size c base [] sound = refl
same_sights size c base (e ∷ es) sound =
    ap (λ s. (e.0, s) ∷ sights_of (map (λ (x : Place × Row). (x.0, filled_row base c x.1)) es)) (same_sight size c base e.1 sound.0)
    ∙ ap (λ xs. (e.0, sight_in e.1) ∷ xs) (same_sights size c base es sound.1)

-- what was appended where all went well
pub appended : {A E : Type 0} (tells : Type 0) (r : Result A E) (old new part whole : List ℕ) → new ≡ (if is_ok r then old ++ part else old) → (tells → part ≡ whole) → OnOk r (tells → new ≡ old ++ whole)
appended tells (Ok a) old new part whole items same = λ told. items ∙ ap (λ xs. old ++ xs) (same told)
appended tells (Err e) old new part whole items same = tt

-- where the bytes of sound files lie
extents_lie : (base size end : ℕ) (es : List Extent) → base + 4096 * size ≤ end → AllByRecursion (λ e. e.start + e.count ≤ size) es → AllLie base end es
extents_lie base size end [] fits below = tt
extents_lie base size end (e ∷ es) fits below = (omega (arith, fits, below.0), extents_lie base size end es fits below.1)

row_lies : (base size end : ℕ) (r : Row) → base + 4096 * size ≤ end → IsSoundRow size r → Lies base end r
row_lies base size end row.Dir fits sound = tt
row_lies base size end (row.File f) fits sound = (holds_bytes size f sound, extents_lie base size end f.extents fits sound.below)

pub rows_lie : (base size end : ℕ) (rows : Rows) → base + 4096 * size ≤ end → AllByRecursion (λ e. IsSoundRow size e.1) rows → RowsLie base end rows
rows_lie base size end [] fits sound = tt
rows_lie base size end (e ∷ es) fits sound = (row_lies base size end e.1 fits sound.0, rows_lie base size end es fits sound.1)

-- the charge
charge_same : (place : Place) (r : Row) → built_charge New place r ≡ row_charge (place, sight_in r)
charge_same (unit, []) row.Dir = refl
charge_same (unit, name ∷ names) row.Dir = refl
charge_same (unit, []) (row.File f) = refl
charge_same (unit, name ∷ names) (row.File f) = refl

charges_same : (rows : Rows) → sum_by (λ e. built_charge New e.0 e.1) rows ≡ sum_by row_charge (sights_in rows)
charges_same [] = refl
charges_same (e ∷ es) =
    sum_by-cons (λ (x : Place × Row). built_charge New x.0 x.1) e es
    ∙ (ap (λ (n : ℕ). n + sum_by (λ (x : Place × Row). built_charge New x.0 x.1) es) (charge_same e.0 e.1)
    ∙ (ap (λ (n : ℕ). row_charge (e.0, sight_in e.1) + n) (charges_same es) ∙ sym (sum_by-cons row_charge (e.0, sight_in e.1) (sights_in es))))

pub same_charge : (rows : Rows) (shed : Storage) → charge_of New (built_in rows shed) ≡ whole_charge (sights_in rows) (persistent_in shed.buckets)
unfolding charge_of whole_charge
same_charge rows shed = ap (λ (n : ℕ). n + sum_by (λ unit. 3 + unit_bytes unit) (persistent_in shed.buckets)) (charges_same rows)

-- the last line
pub same_counts : (tree : Rows) (shed : Storage) (line : Text) (rows : Sights) (persistent : List Text) (units : List UnitSeen) (charge : ℕ)
    → rows ≡ sights_in tree → persistent ≡ persistent_in shed.buckets → units ≡ units_of rows persistent → charge ≡ charge_of New (built_in tree shed)
    → line ≡ ok_line (length units) (count_of is_directory rows) (count_of is_file rows) (used_blocks rows) charge
    → line ≡ counts_line (sights_in tree) (persistent_in shed.buckets)
unfolding counts_line
same_counts tree shed line rows persistent units charge rows_are persistent_are units_are charge_is line_is =
    let units_same : length units ≡ length (units_of (sights_in tree) (persistent_in shed.buckets))
    = ap (length {A = UnitSeen}) (units_are ∙ (ap (λ (xs : Sights). units_of xs persistent) rows_are ∙ ap (units_of (sights_in tree)) persistent_are)) in
    line_is
    ∙ (ap (λ (n : ℕ). ok_line n (count_of is_directory rows) (count_of is_file rows) (used_blocks rows) charge) units_same
    ∙ (ap (λ (xs : Sights). ok_line (length (units_of (sights_in tree) (persistent_in shed.buckets))) (count_of is_directory xs) (count_of is_file xs) (used_blocks xs) charge) rows_are
    ∙ ap (λ (n : ℕ). ok_line (length (units_of (sights_in tree) (persistent_in shed.buckets))) (count_of is_directory (sights_in tree)) (count_of is_file (sights_in tree)) (used_blocks (sights_in tree)) n) (charge_is ∙ same_charge tree shed)))

-- the whole text
pub whole_text : (size : ℕ) (c : List ℕ) (base' base : ℕ) (rows : Rows) (shed : Storage) → base' ≡ base → AllByRecursion (λ e. IsSoundRow size e.1) rows
    → stored_lines base' c rows ++ counts_line (sights_in rows) (persistent_in shed.buckets) ≡ check_text (filled base c (built_in rows shed))
unfolding stored_lines
whole_text size c base' base rows shed same sound =
    ap (λ (n : ℕ). stored_lines n c rows ++ counts_line (sights_in rows) (persistent_in shed.buckets)) same
    ∙ ap (λ (xs : Sights). stored_lines base c rows ++ counts_line xs (persistent_in shed.buckets)) (sym (same_sights size c base rows sound))

-- the blocks that are used are fewer than the charge
blocks_le : (place : Place) (r : Row) → sight_blocks (sight_in r) ≤ row_charge (place, sight_in r)
blocks_le (unit, []) row.Dir = omega arith
blocks_le (unit, name ∷ names) row.Dir = omega arith
blocks_le (unit, []) (row.File f) = omega arith
blocks_le (unit, name ∷ names) (row.File f) = omega arith

used_le : (rows : Rows) → used_blocks (sights_in rows) ≤ sum_by row_charge (sights_in rows)
used_le [] = omega arith
used_le (e ∷ es) =
    omega (arith, used_le es, blocks_le e.0 e.1, sum_by-cons (λ (x : Place × Sight). sight_blocks x.1) (e.0, sight_in e.1) (sights_in es), sum_by-cons row_charge (e.0, sight_in e.1) (sights_in es))

pub used_fits : (rows : Rows) (shed : Storage) (charge : ℕ) → charge ≡ charge_of New (built_in rows shed) → charge < 2 ^ 64 → used_blocks (sights_in rows) < 2 ^ 64
unfolding whole_charge
used_fits rows shed charge is fits = omega (arith, used_le rows, is ∙ same_charge rows shed)

-- and the charge that fits an area is small
and_first : (a b : Bool) → (a && b) ≡ true → a ≡ true
and_first true b h = refl
and_first false b h = h

and_second : (a b : Bool) → (a && b) ≡ true → b ≡ true
and_second true b h = h
and_second false b h = cc

areas_small : (g : Geometry) → is_in_range g ≡ true → g.areas ≤ 4096
areas_small g range =
    let areas : is_between 1 4096 g.areas ≡ true = and_first _ _ (and_first _ _ range) in
    let most : nat_le g.areas 4096 ≡ true = and_second (nat_le 1 g.areas) _ areas in
    search (arith, most)

pub charge_small : (g : Geometry) (charge : ℕ) → is_in_range g ≡ true → charge + 7 ≤ area_bytes g → charge < 2 ^ 64
charge_small g charge range fits = omega (arith, areas_small g range)
