-- Where a place stands among rows in their order.
use Rattle.std.specs.Prelude.{◌≡◌, ℕ, ◌<◌, ◌≤◌, false, [], ◌∷◌, length, take, drop, slice_get, Some}
use Rattle.std.specs.List.{AllByRecursion}
use Rattle.std.specs.Ordering.{is_gt}
use Rattle.std.specs.declared.cmp.Ordering.TheVariants.{Less, Greater}
use Rattle.opfs_base.specs.Places.{Place, place_cmp}
use Rattle.opfs_base.specs.Texts.{Text}
use Rattle.opfs_machine.specs.declared.state.Row.{Row}
use Rattle.opfs_machine.specs.Rows.{Rows}

-- A place is behind all of these rows, or before all of them.
abbrev pub IsBehind : Place → Rows Text → Type 0
IsBehind place rows = AllByRecursion (λ e. place_cmp place e.0 ≡ Greater) rows

abbrev pub IsBefore : Place → Rows Text → Type 0
IsBefore place rows = AllByRecursion (λ e. place_cmp place e.0 ≡ Less) rows

-- The rows stand in the order of their places, each at one of its own.
abbrev pub AreRising : Rows Text → Type 0
AreRising [] = Unit {0}
AreRising (e ∷ es) = IsBefore e.0 es × AreRising es

-- A row stands at a place, and has this index.
pub record IsThere (place : Place) (rows : Rows Text) (at : ℕ) : Type 0 where
  pub row : Row Text
  pub within : at < length rows
  pub is : slice_get rows at ≡ Some (place, row)
  pub behind : IsBehind place (take at rows)

-- No row stands at a place; one would have this index.
pub record IsMissing (place : Place) (rows : Rows Text) (at : ℕ) : Type 0 where
  pub within : at ≤ length rows
  pub behind : IsBehind place (take at rows)
  pub before : IsBefore place (drop at rows)

-- A place is not behind any of these rows.
abbrev pub IsUpto : Place → Rows Text → Type 0
IsUpto place rows = AllByRecursion (λ e. is_gt (place_cmp place e.0) ≡ false) rows

-- From this index on the rows are not before a place, and those in front of it are.
pub record IsFirst (place : Place) (rows : Rows Text) (at : ℕ) : Type 0 where
  pub within : at ≤ length rows
  pub behind : IsBehind place (take at rows)
  pub upto : IsUpto place (drop at rows)
