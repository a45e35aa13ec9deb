-- A file can hold its own blocks again.
use Rattle.std.proofs.Common.{◌≡◌, ℕ, ◌+◌, ◌<◌, ◌≤◌, nat_lt, nat_le, not, cond, Bool, true, false, [], ◌∷◌, Option, Some, None, option_map, filter, refl, sym, ap, subst, ◌∙◌, arith}
use Rattle.std.specs.List.{AllByRecursion}
use Rattle.std.specs.Ordering.{eq_by_cmp, is_eq}
use Rattle.std.proofs.lemmas.Bool.{and_from, eq-eqb, le-leb, lt-ltb}
use Rattle.opfs_base.specs.Blocks.{blocks}
use Rattle.opfs_base.specs.Places.{Place, place_cmp}
use Rattle.opfs_base.specs.declared.extents.Extent.{Extent}
use Rattle.opfs_blocks.specs.Sets.{blocks_of}
use Rattle.opfs_blocks.proofs.SetLemmas.{blocks_of-append}
use Rattle.opfs_codec.specs.Spelling.{AreExtents}
use Rattle.opfs_machine.specs.declared.state.FileRow.{FileRow as File}
use Rattle.opfs_machine.specs.Rows.{file_at}
use Rattle.opfs_records.specs.Replay.Applying.{can_hold}
use Rattle.opfs_records.specs.Replay.Built.{all_extents, has_block, is_once, named, named_beside, IsSoundFile}
use Rattle.opfs_records.proofs.replay.Counts.{each_of, once_from_times, once_times, times_append, times_some}
use Rattle.opfs_records.proofs.replay.Holding.{all_both, is_within_size, of_all}
use Rattle.opfs_records.specs.Replay.Kept.{times}
use Rattle.opfs_records.specs.Checkpoint.Written.{IsWritableRow, stored_file, stored_row, stored_rows}
use Rattle.opfs_state_rows.proofs.standing.Lines.{file-at, file_line}
use Rattle.opfs_state_rows.specs.Standing.Seen.{Machine, lines_of}
use Rattle.opfs_tree.specs.Rows.{Rows as Tree, extents_of, file_at as file_in_tree, file_of, row_at}
use Rattle.opfs_tree.specs.declared.row.FileRow.{FileRow}
use Rattle.opfs_tree.specs.declared.row.Row.{Row}
use Rattle.opfs_tree.specs.declared.row.Row.TheVariants as row

-- ---- a row in the tree

pub row-of : (o : Option Row) (r : FileRow) → file_of o ≡ Some r → o ≡ Some (row.File r)
row-of None r is = absurd (none_some is)
  where
    none_some : ◌≡◌ {A = Option FileRow} None (Some r) → ⊥
    none_some e = cc
row-of (Some row.Dir) r is = absurd (none_some is)
  where
    none_some : ◌≡◌ {A = Option FileRow} None (Some r) → ⊥
    none_some e = cc
row-of (Some (row.File x)) r is = ap (λ (y : FileRow). Some (row.File y)) (one is)
  where
    one : {a b : FileRow} → ◌≡◌ {A = Option FileRow} (Some a) (Some b) → a ≡ b
    one e = cc

one-row : {a b : Row} → ◌≡◌ {A = Option Row} (Some a) (Some b) → a ≡ b
one-row e = cc

none-row : (r : Row) → ◌≡◌ {A = Option Row} None (Some r) → ⊥
none-row r e = cc

pub stored-at : (place : Place) (t : Tree) (r : FileRow) → row_at place t ≡ Some (row.File r) → row_at place (stored_rows t) ≡ Some (row.File (stored_file r))
stored-at place [] r is = absurd (none-row (row.File r) is)
stored-at place (e ∷ es) r is =
    elim (eq_by_cmp place_cmp place e.0) as (λ b. cond b (Some e.1) (row_at place es) ≡ Some (row.File r) → cond b (Some (stored_row e.1)) (row_at place (stored_rows es)) ≡ Some (row.File (stored_file r))) [
      | true ↦ λ here. ap (λ (x : Row). Some (stored_row x)) (one-row here)
      | false ↦ λ later. stored-at place es r later
    ] is

-- Where the machine has a file, so has the tree.
pub tree-there : (m : Machine) (t : Tree) (place : Place) (x : File ℕ) → m.rows ≡ lines_of t → file_at m place ≡ Some x → (r : FileRow) × (file_in_tree place t ≡ Some r)
tree-there m t place x lines is = found (file_in_tree place t) (sym (file-at place t) ∙ (λ i. file_at (record m { rows = sym lines i }) place) ∙ is)
  where
    found : (o : Option FileRow) → option_map file_line o ≡ Some x → (r : FileRow) × (o ≡ Some r)
    found None h = absurd (none_some h)
      where
        none_some : ◌≡◌ {A = Option (File ℕ)} None (Some x) → ⊥
        none_some e = cc
    found (Some r) h = (r, refl)

-- Its extents can be written.
row-extents : (place : Place) (r : FileRow) (x : Row) → x ≡ row.File r → IsWritableRow place (stored_row x) → AreExtents r.extents
row-extents place r x is written = (subst (λ (y : Row). IsWritableRow place (stored_row y)) is written).1.3

pub extents-there : (place : Place) (t : Tree) (r : FileRow) → AllByRecursion (λ e. IsWritableRow e.0 e.1) (stored_rows t) → row_at place t ≡ Some (row.File r) → AreExtents r.extents
extents-there place [] r all is = absurd (none-row (row.File r) is)
extents-there place (e ∷ es) r all is =
    elim (eq_by_cmp place_cmp place e.0) as (λ b. cond b (Some e.1) (row_at place es) ≡ Some (row.File r) → AreExtents r.extents) [
      | true ↦ λ here. row-extents e.0 r e.1 (one-row here) all.0
      | false ↦ λ later. extents-there place es r all.1 later
    ] is

-- ---- how often a block is named

times-row : (k : ℕ) (e : Place × Row) (es : Tree) → times k (named (e ∷ es)) ≡ times k (blocks_of (extents_of e.1)) + times k (named es)
times-row k e es = ap (times k) (blocks_of-append (extents_of e.1) (all_extents es)) ∙ times_append k (blocks_of (extents_of e.1)) (named es)

times-less : (k : ℕ) (keep : Place × Row → Bool) (es : Tree) → times k (named (filter keep es)) ≤ times k (named es)
times-less k keep [] = omega arith
times-less k keep (e ∷ es) =
    let rest = times-less k keep es in
    let whole = times-row k e es in
    elim (keep e) as (λ b. times k (named (cond b (e ∷ filter keep es) (filter keep es))) ≤ times k (named (e ∷ es))) [
      | true ↦ omega (arith, rest, whole, times-row k e (filter keep es))
      | false ↦ omega (arith, rest, whole)
    ]

-- The other rows and the file name a block no oftener than all rows do.
times-apart : (k : ℕ) (place : Place) (t : Tree) (r : FileRow) → row_at place t ≡ Some (row.File r) → times k (named_beside place t) + times k (blocks_of r.extents) ≤ times k (named t)
times-apart k place [] r is = absurd (none-row (row.File r) is)
times-apart k place (e ∷ es) r is =
    let keep : Place × Row → Bool = λ x. not (is_eq (place_cmp place x.0)) in
    let whole = times-row k e es in
    elim (is_eq (place_cmp place e.0)) as (λ b. cond b (Some e.1) (row_at place es) ≡ Some (row.File r) → times k (named (cond (not b) (e ∷ filter keep es) (filter keep es))) + times k (blocks_of r.extents) ≤ times k (named (e ∷ es))) [
      | true ↦ λ here.
          let same : times k (blocks_of (extents_of e.1)) ≡ times k (blocks_of r.extents) = ap (λ (x : Row). times k (blocks_of (extents_of x))) (one-row here) in
          let less = times-less k keep es in
          omega (arith, whole, same, less)
      | false ↦ λ later.
          let rest = times-apart k place es r later in
          let first = times-row k e (filter keep es) in
          omega (arith, whole, rest, first)
    ] is

-- ---- what it can hold

not-both : (a : Bool) → (a ≡ true → ⊥) → not a ≡ true
not-both true never = absurd (never refl)
not-both false never = refl

pub can-hold-own : (size : ℕ) (place : Place) (t : Tree) (r : FileRow) → is_once (named t) ≡ true → row_at place t ≡ Some (row.File r) → IsSoundFile size r → can_hold size (named_beside place t) r.length r.extents ≡ true
can-hold-own size place t r once is sound =
    let most = λ (k : ℕ). once_times (named t) once k in
    let apart = λ (k : ℕ). times-apart k place t r is in
    and_from _ _
    (and_from _ _
    (and_from _ _
    (of_all (is_within_size size) r.extents
    (all_both (λ (e : Extent). 0 < e.count) (λ (e : Extent). e.start + e.count ≤ size) (λ (e : Extent). is_within_size size e ≡ true)
    (λ e here end. and_from (nat_lt 0 e.count) (nat_le (e.start + e.count) size) (lt-ltb 0 e.count here) (le-leb (e.start + e.count) size end)) r.extents sound.some sound.below))
    (eq-eqb _ (blocks r.length) sound.whole))
    (once_from_times (blocks_of r.extents) (λ k. omega (arith, most k, apart k))))
    (of_all (λ b. not (has_block (named_beside place t) b)) (blocks_of r.extents)
    (each_of (λ b. not (has_block (named_beside place t) b) ≡ true) (blocks_of r.extents)
    (λ k has. not-both (has_block (named_beside place t) k) (λ also. omega (arith, most k, apart k, times_some k (blocks_of r.extents) has, times_some k (named_beside place t) also)))))
