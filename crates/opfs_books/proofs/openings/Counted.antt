-- What the machine counts as it begins.
use Rattle.std.proofs.Common.{◌≡◌, ℕ, zero, suc, ◌+◌, ◌*◌, ◌<◌, ◌≤◌, Bool, true, false, cond, not, ◌||◌, nat_eq, List, [], ◌∷◌, ◌++◌, filter, length, sum_by, ◌⊎◌, refl, sym, ap, ◌∙◌, inl, inr, arith}
use Rattle.std.specs.List.{AllByRecursion, IsDistinct, range_with_len}
use Rattle.std.proofs.lemmas.Bool.{and_parts, cases_Bool, cases_eq, eqb-true, eq-eqb, false≢true}
use Rattle.std.proofs.lemmas.Cmp.{nat_eq_equiv}
use Rattle.std.proofs.lemmas.List.{length-append, append_assoc}
use Rattle.std.proofs.lemmas.List.FromFn.{length-range_with_len}
use Rattle.std.proofs.lemmas.List.Sums.{sum_by-cons}
use Rattle.std.proofs.lemmas.Map.Made.{length-le_from_is_member}
use Rattle.opfs_base.specs.Blocks.{blocks}
use Rattle.opfs_base.specs.Places.{Place}
use Rattle.opfs_base.specs.Texts.{Text, same_text}
use Rattle.opfs_base.specs.declared.extents.Extent.{Extent}
use Rattle.opfs_blocks.specs.Sets.{blocks_of, blocks_in}
use Rattle.opfs_codec.specs.declared.change.Format.TheVariants.{New}
use Rattle.opfs_machine.specs.Contents.{in_lengths}
use Rattle.opfs_machine.specs.Sums.{durable_blocks, present_blocks}
use Rattle.opfs_machine.specs.Sums.{row_charge as line_charge}
use Rattle.opfs_records.specs.Replay.Built.{block_count, has_block, is_once, named, all_extents, IsSound, IsSoundRow}
use Rattle.opfs_records.specs.Replay.Sums.{row_charge, row_blocks, usage_in}
use Rattle.opfs_state_rows.specs.Standing.Seen.{line_of, lines_of}
use Rattle.opfs_state_rows.specs.Standing.Sums.{where_unit}
use Rattle.opfs_tree.specs.declared.row.Row.{Row}
use Rattle.opfs_tree.specs.declared.row.Row.TheVariants as row
use Rattle.opfs_tree.specs.Rows.{Rows, extents_of}

-- ---- blocks that are named

pub length-blocks : (extents : List Extent) → length (blocks_of extents) ≡ block_count extents
length-blocks [] = refl
length-blocks (e ∷ more) =
    length-append (blocks_in e) (blocks_of more) ∙ omega (arith, length-range_with_len e.start e.count, length-blocks more, sum_by-cons (λ (x : Extent). x.count) e more)

pub blocks-append : (a b : List Extent) → blocks_of (a ++ b) ≡ blocks_of a ++ blocks_of b
blocks-append [] b = refl
blocks-append (e ∷ a) b = ap (λ (xs : List ℕ). blocks_in e ++ xs) (blocks-append a b) ∙ sym (append_assoc (blocks_in e) (blocks_of a) (blocks_of b))

row-named : (size : ℕ) (r : Row) → IsSoundRow size r → length (blocks_of (extents_of r)) ≡ durable_blocks in_lengths (line_of r)
row-named size row.Dir sound = refl
row-named size (row.File f) sound = length-blocks f.extents ∙ sound.whole

-- As many blocks are named as the files' lengths take.
pub rows-named : (size : ℕ) (t : Rows) → AllByRecursion (λ e. IsSoundRow size e.1) t → length (named t) ≡ sum_by (λ e. durable_blocks in_lengths e.1) (lines_of t)
rows-named size [] sound = refl
rows-named size (e ∷ es) sound =
    ap length (blocks-append (extents_of e.1) (all_extents es)) ∙ length-append (blocks_of (extents_of e.1)) (named es)
    ∙ omega (arith, row-named size e.1 sound.0, rows-named size es sound.1, sum_by-cons (λ x. durable_blocks in_lengths x.1) (e.0, line_of e.1) (lines_of es))

-- ---- no block is named twice, and all are below the size

not-there : (b : ℕ) (xs : List ℕ) → has_block xs b ≡ false → AllByRecursion (λ y. nat_eq b y ≡ false) xs
not-there b [] none = tt
not-there b (x ∷ xs) none =
    elim (cases_Bool (nat_eq b x)) [
      | inl here ↦ absurd (false≢true (sym none ∙ ap (λ t. t || has_block xs b) here))
      | inr other ↦ (other, not-there b xs (sym (ap (λ t. t || has_block xs b) other) ∙ none))
    ]

pub not-true : (b : Bool) → not b ≡ true → b ≡ false
not-true true h = absurd (false≢true h)
not-true false h = refl

pub distinct : (xs : List ℕ) → is_once xs ≡ true → IsDistinct nat_eq xs
unfolding IsDistinct
distinct [] once = tt
distinct (b ∷ more) once =
    let parts = and_parts (not (has_block more b)) (is_once more) once in
    (not-there b more (not-true (has_block more b) parts.0), distinct more parts.1)

below-run : (size start count b : ℕ) → start + count ≤ size → has_block (range_with_len start count) b ≡ true → b < size
below-run size start zero b below is = absurd (false≢true is)
below-run size start (suc count) b below is =
    elim (cases_eq b start) [
      | inl here ↦ omega (arith, here, below)
      | inr other ↦ below-run size (start + 1) count b (omega (arith, below)) (sym (ap (λ t. t || has_block (range_with_len (start + 1) count) b) (ne-eqb b start other)) ∙ is)
    ]
  where
    ne-eqb : (x y : ℕ) → (x ≡ y → ⊥) → nat_eq x y ≡ false
    ne-eqb x y ne = elim (cases_Bool (nat_eq x y)) [ inl t ↦ absurd (ne (eqb-true x y t)) | inr f ↦ f ]

pub has-append : (xs ys : List ℕ) (b : ℕ) → has_block (xs ++ ys) b ≡ (has_block xs b || has_block ys b)
has-append [] ys b = refl
has-append (x ∷ xs) ys b = elim (nat_eq b x) as (λ t. (t || has_block (xs ++ ys) b) ≡ (t || has_block xs b || has_block ys b)) [
  | true ↦ refl
  | false ↦ has-append xs ys b
]

either : (a b : Bool) → (a || b) ≡ true → (a ≡ true) ⊎ (b ≡ true)
either true b h = inl refl
either false b h = inr h

below-extents : (size : ℕ) (extents : List Extent) (b : ℕ) → AllByRecursion (λ e. e.start + e.count ≤ size) extents → has_block (blocks_of extents) b ≡ true → b < size
below-extents size [] b all is = absurd (false≢true is)
below-extents size (e ∷ more) b all is =
    elim (either (has_block (blocks_in e) b) (has_block (blocks_of more) b) (sym (has-append (blocks_in e) (blocks_of more) b) ∙ is)) [
      | inl here ↦ below-run size e.start e.count b all.0 here
      | inr later ↦ below-extents size more b all.1 later
    ]

below-row : (size : ℕ) (r : Row) (b : ℕ) → IsSoundRow size r → has_block (blocks_of (extents_of r)) b ≡ true → b < size
below-row size row.Dir b sound is = absurd (false≢true is)
below-row size (row.File f) b sound is = below-extents size f.extents b sound.below is

below-rows : (size : ℕ) (t : Rows) (b : ℕ) → AllByRecursion (λ e. IsSoundRow size e.1) t → has_block (named t) b ≡ true → b < size
below-rows size [] b sound is = absurd (false≢true is)
below-rows size (e ∷ es) b sound is =
    elim (either (has_block (blocks_of (extents_of e.1)) b) (has_block (named es) b) (sym (has-append (blocks_of (extents_of e.1)) (named es) b) ∙ (ap (λ (xs : List ℕ). has_block xs b) (sym (blocks-append (extents_of e.1) (all_extents es))) ∙ is))) [
      | inl here ↦ below-row size e.1 b sound.0 here
      | inr later ↦ below-rows size es b sound.1 later
    ]

in-range : (start count b : ℕ) → start ≤ b → b < start + count → has_block (range_with_len start count) b ≡ true
in-range start zero b above below = absurd (omega (arith, above, below))
in-range start (suc count) b above below =
    elim (cases_eq b start) [
      | inl here ↦ ap (λ t. t || has_block (range_with_len (start + 1) count) b) (eq-eqb b start here)
      | inr other ↦ elim (nat_eq b start) as (λ t. (t || has_block (range_with_len (start + 1) count) b) ≡ true) [
        | true ↦ refl
        | false ↦ in-range (start + 1) count b (omega (arith, above, other)) (omega (arith, below))
      ]
    ]

-- So no more are named than there are.
pub named-fit : (size : ℕ) (t : Rows) → IsSound size t → length (named t) ≤ size
named-fit size t sound =
    omega (
      arith,
      length-le_from_is_member nat_eq_equiv (named t) (range_with_len 0 size) (distinct (named t) sound.once) (λ b is. in-range 0 size b (omega arith) (omega (arith, below-rows size t b sound.files is))),
      length-range_with_len 0 size,
    )

-- ---- charge and usage

row-charged : (size : ℕ) (place : Place) (r : Row) → IsSoundRow size r → row_charge New place r ≡ line_charge (place, line_of r) + 8 * durable_blocks in_lengths (line_of r)
row-charged size (unit, []) row.Dir sound = omega arith
row-charged size (unit, name ∷ names) row.Dir sound = omega arith
row-charged size (unit, path) (row.File f) sound = omega arith

pub rows-charged : (size : ℕ) (t : Rows) → AllByRecursion (λ e. IsSoundRow size e.1) t
    → sum_by (λ e. row_charge New e.0 e.1) t ≡ sum_by line_charge (lines_of t) + 8 * sum_by (λ e. durable_blocks in_lengths e.1) (lines_of t)
rows-charged size [] sound = refl
rows-charged size (e ∷ es) sound =
    omega (
      arith,
      rows-charged size es sound.1,
      row-charged size e.0 e.1 sound.0,
      sum_by-cons (λ (x : Place × Row). row_charge New x.0 x.1) e es,
      sum_by-cons line_charge (e.0, line_of e.1) (lines_of es),
      sum_by-cons (λ x. durable_blocks in_lengths x.1) (e.0, line_of e.1) (lines_of es),
    )

row-used : (size : ℕ) (r : Row) → IsSoundRow size r → row_blocks r ≡ present_blocks in_lengths (line_of r)
row-used size row.Dir sound = refl
row-used size (row.File f) sound = ap blocks (sym sound.present)

pub rows-used : (size : ℕ) (unit : Text) (t : Rows) → AllByRecursion (λ e. IsSoundRow size e.1) t → usage_in unit t ≡ sum_by (where_unit (same_text unit) (present_blocks in_lengths)) (lines_of t)
rows-used size unit [] sound = refl
rows-used size unit (e ∷ es) sound =
    elim (same_text unit e.0.0) as (λ b. sum_by (λ x. row_blocks x.1) (cond b (e ∷ filter (λ x. same_text unit x.0.0) es) (filter (λ x. same_text unit x.0.0) es)) ≡ cond b (present_blocks in_lengths (line_of e.1)) 0 + sum_by (where_unit (same_text unit) (present_blocks in_lengths)) (lines_of es)) [
      | true ↦ omega (arith, sum_by-cons (λ (x : Place × Row). row_blocks x.1) e (filter (λ x. same_text unit x.0.0) es), rows-used size unit es sound.1, row-used size e.1 sound.0)
      | false ↦ omega (arith, rows-used size unit es sound.1)
    ]
    ∙ sym (sum_by-cons (where_unit (same_text unit) (present_blocks in_lengths)) (e.0, line_of e.1) (lines_of es))
