-- Which units are cleared where the pool is too small (Storage: storage pressure; the choice is this project's own).
use Rattle.std.specs.Prelude.{ℕ, Bool, true, false, not, ◌&&◌, ◌||◌, List, [], ◌∷◌, map, fold, Option, Some, None, option_map, filter}
use Rattle.std.specs.List.{list_all, filter_map}
use Rattle.std.specs.Ordering.{nat_cmp, ordering_then}
use Rattle.std.specs.Cmp.Lexicographic.{slice_cmp}
use Rattle.std.specs.declared.cmp.Ordering.{Ordering}
use Rattle.opfs_base.specs.Texts.{Text, same_text}
use Rattle.opfs_base.specs.Places.{Place}
use Rattle.opfs_base.specs.Units.{origin_of}
use Rattle.opfs_machine.specs.declared.state.Row.{Row}
use Rattle.opfs_machine.specs.declared.state.State.{State}
use Rattle.opfs_machine.specs.Agents.{last_use}
use Rattle.opfs_machine.specs.Contents.{Contents}
use Rattle.opfs_machine.specs.Ordered.{insert_by}
use Rattle.opfs_machine.specs.Rows.{without, taken_lock}
use Rattle.opfs_base.specs.Measures.{is_root}
use Rattle.opfs_machine.specs.Sums.{is_persistent, fits_pool}
use Rattle.std.specs.Prelude.{is_none}

abbrev pub root_unit : {F : Type 0} → Place × Row F → Option Text
root_unit e = elim (is_root e.0) [ true ↦ Some e.0.0 | false ↦ None ]

-- The units that have a root, in the order of their texts.
abbrev pub root_units : {F R : Type 0} → State F R → List Text
root_units s = filter_map root_unit s.rows

-- Whether a unit is of the caller's origin.
abbrev pub is_callers : Option Text → Text → Bool
is_callers None unit = false
is_callers (Some origin) unit = same_text origin (origin_of unit)

-- Whether no file of a unit has a taken lock.
abbrev pub none_taken : {F R : Type 0} → State F R → Text → Bool
none_taken s unit = list_all (λ e. not (same_text unit e.0.0) || is_none (taken_lock e.1)) s.rows

-- Whether a unit with a root may be cleared for a call: it is best-effort, not of the caller's origin, and no file
-- in it has a taken lock.
abbrev pub is_candidate : {F R : Type 0} → State F R → Option Text → Text → Bool
is_candidate s caller unit = not (is_persistent s unit) && not (is_callers caller unit) && none_taken s unit

-- By the last use of the origin, then by text.
abbrev pub use_cmp : ℕ × Text → ℕ × Text → Ordering
use_cmp a b = ordering_then (nat_cmp a.0 b.0) (slice_cmp nat_cmp a.1 b.1)

-- The candidates for a call, the one that was used longest ago first.
abbrev pub candidates : {F R : Type 0} → State F R → Option Text → List Text
candidates s caller =
    map (λ e. e.1) (fold (λ sorted unit. insert_by use_cmp (last_use s (origin_of unit), unit) sorted) [] (filter (is_candidate s caller) (root_units s)))

-- The state without a unit's rows.
abbrev pub cleared : {F R : Type 0} → State F R → Text → State F R
cleared s unit = without s (unit, [])

-- The shortest front of the units after whose clearing the need fits; None where all together are not enough.
abbrev pub shortest_front : {F R : Type 0} → Contents F R → State F R → ℕ → List Text → Option (List Text)
shortest_front c s need [] = elim (fits_pool c s need) [ true ↦ Some [] | false ↦ None ]
shortest_front c s need (unit ∷ units) =
    elim (fits_pool c s need) [
      | true ↦ Some []
      | false ↦ option_map (λ more. unit ∷ more) (shortest_front c (cleared s unit) need units)
    ]

-- The units that are cleared for a call that needs so many blocks of the pool.
abbrev pub victims : {F R : Type 0} → Contents F R → State F R → Option Text → ℕ → Option (List Text)
victims c s caller need = shortest_front c s need (candidates s caller)
