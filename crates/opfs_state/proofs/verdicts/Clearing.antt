-- What clearing a unit takes out of the pool.
use Rattle.std.proofs.Common.{◌≡◌, ◌&&◌, ℕ, ◌+◌, Bool, true, false, not, cond, [], sum_by, refl, sym, ap, ◌∙◌, arith}
use Rattle.std.proofs.Math.Bool.{and-true}
use Rattle.std.specs.Cmp.Lexicographic.{same_text as equal_texts, nat_list_eq_equiv}
use Rattle.opfs_base.specs.Places.{Place, is_within}
use Rattle.opfs_base.specs.Texts.{Text, same_text}
use Rattle.opfs_laws.proofs.RowSums.{sum-split, sum-filter, sum-alike}
use Rattle.opfs_machine.specs.declared.state.Row.{Row}
use Rattle.opfs_machine.specs.Contents.{in_lengths}
use Rattle.opfs_machine.specs.Rows.{Rows}
use Rattle.opfs_machine.specs.Sums.{durable_blocks, pool}
use Rattle.opfs_machine.specs.Victims.{cleared}
use Rattle.opfs_state_rows.specs.Standing.Seen.{Machine}
use Rattle.opfs_state_rows.specs.Standing.Sums.{where_unit}

abbrev weight : Place × Row ℕ → ℕ
weight e = durable_blocks in_lengths e.1

-- The durable blocks of a unit.
abbrev pub rows_blocks : Machine → Text → ℕ
rows_blocks s unit = sum_by (where_unit (same_text unit) (durable_blocks in_lengths)) s.rows

within-unit : (unit : Text) (rows : Rows ℕ) → sum_by (λ e. cond (is_within (unit, []) e.0) (weight e) 0) rows ≡ sum_by (where_unit (same_text unit) (durable_blocks in_lengths)) rows
within-unit unit rows = sum-alike (λ e. cond (is_within (unit, []) e.0) (weight e) 0) (where_unit (same_text unit) (durable_blocks in_lengths)) (λ e. ap (λ t. cond t (weight e) 0) (and-true (same_text unit e.0.0))) rows

pub pool-cleared : (s : Machine) (unit : Text) → pool in_lengths (cleared s unit) + rows_blocks s unit ≡ pool in_lengths s
pool-cleared s unit =
    omega (arith, sum-split weight (λ e. is_within (unit, []) e.0) s.rows, sum-filter weight (λ e. is_within (unit, []) e.0) s.rows, within-unit unit s.rows)

other-way : (unit other third : Text) → same_text unit other ≡ false → true ≡ same_text unit third → (b : Bool) → b ≡ same_text other third → b ≡ false
other-way unit other third apart is true same =
    absurd (apart-true (sym apart ∙ ap (λ x. same_text x other) (equal_texts unit third is) ∙ ap (same_text third) (equal_texts other third same) ∙ nat_list_eq_equiv.refl third))
  where
    apart-true : false ≡ true → ⊥
    apart-true h = cc
other-way unit other third apart is false same = refl

kept-by : (unit other : Text) (e : Place × Row ℕ) → same_text unit other ≡ false → (t : Bool) → t ≡ same_text unit e.0.0
    → cond (not (t && true)) (where_unit (same_text other) (durable_blocks in_lengths) e) 0 ≡ where_unit (same_text other) (durable_blocks in_lengths) e
kept-by unit other e apart true is = sym (ap (λ b. cond b (weight e) 0) (other-way unit other e.0.0 apart is (same_text other e.0.0) refl))
kept-by unit other e apart false is = refl

-- Clearing a unit leaves the blocks of another.
pub rows-kept : (s : Machine) (unit other : Text) → same_text unit other ≡ false → rows_blocks (cleared s unit) other ≡ rows_blocks s other
rows-kept s unit other apart =
    sum-filter (where_unit (same_text other) (durable_blocks in_lengths)) (λ e. not (is_within (unit, []) e.0)) s.rows
    ∙ sum-alike (λ e. cond (not (is_within (unit, []) e.0)) (where_unit (same_text other) (durable_blocks in_lengths) e) 0) (where_unit (same_text other) (durable_blocks in_lengths))
    (λ e. kept-by unit other e apart (same_text unit e.0.0) refl) s.rows
