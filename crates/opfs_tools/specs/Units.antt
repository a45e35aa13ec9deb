-- Rows unit by unit. This project's own.
use Rattle.std.specs.Prelude.{ℕ, Bool, true, false, List, [], ◌∷◌, ◌++◌, map, take, drop, if◌then◌else◌}
use Rattle.std.specs.List.{prefix_len}
use Rattle.std.specs.Ordering.{is_lt, nat_cmp}
use Rattle.std.specs.Cmp.Lexicographic.{slice_cmp}
use Rattle.opfs_base.specs.Texts.{Text, same_text}
use Rattle.opfs_base.specs.Places.{Place}
use Rattle.opfs_tools.specs.Sights.{Sights}
use Rattle.opfs_tools.specs.declared.sights.Sight.{Sight}

-- A unit: whether its mode is persistent, and its rows in order.
pub record UnitSeen : Type 0 where
  pub key : Text
  pub persistent : Bool
  pub rows : Sights

-- A row before those that stand behind it unit by unit: it joins the first unit, if that is its own.
abbrev pub with_row : Place × Sight → List (Text × Sights) → List (Text × Sights)
with_row e [] = (e.0.0, e ∷ []) ∷ []
with_row e (u ∷ us) = if same_text e.0.0 u.0 then (u.0, e ∷ u.1) ∷ us else (e.0.0, e ∷ []) ∷ u ∷ us

-- The units that have rows, each with its rows. In the order of places the rows of a unit stand together.
unfoldable pub by_unit : Sights → List (Text × Sights)
by_unit [] = []
by_unit (e ∷ es) = with_row e (by_unit es)

-- Whether a unit comes before another in the order of texts.
abbrev pub is_before : Text → Text → Bool
is_before key unit = is_lt (slice_cmp nat_cmp unit key)

-- Of persistent units in order: how many come before a unit, and those that do not.
abbrev pub count_before : Text → List Text → ℕ
count_before key units = prefix_len (is_before key) units

abbrev pub from_unit : Text → List Text → List Text
from_unit key units = drop (count_before key units) units

-- Whether a unit is the first of a list, and then 1.
abbrev pub is_first : Text → List Text → Bool
is_first key [] = false
is_first key (unit ∷ units) = same_text unit key

abbrev pub count_first : Text → List Text → ℕ
count_first key units = if is_first key units then 1 else 0

-- A persistent unit that has no rows.
abbrev pub alone : Text → UnitSeen
alone key = record { key = key; persistent = true; rows = [] }

-- A unit's rows, before all persistent units that do not come before it.
abbrev pub unit_with : Text × Sights → List Text → UnitSeen
unit_with u units = record { key = u.0; persistent = is_first u.0 units; rows = u.1 }

-- The units that have rows and the persistent units, which are in order too, merged.
unfoldable pub merged : List (Text × Sights) → List Text → List UnitSeen
merged [] units = map alone units
merged (u ∷ us) units =
    map alone (take (count_before u.0 units) units)
    ++ unit_with u (from_unit u.0 units) ∷ merged us (drop (count_first u.0 (from_unit u.0 units)) (from_unit u.0 units))

-- The units that have a row or are persistent, in the order of texts.
abbrev pub units_of : Sights → List Text → List UnitSeen
units_of rows persistent = merged (by_unit rows) persistent
