-- The rows of one unit, by their paths, and the rows of all units.
use Rattle.std.specs.Prelude.{◌≡◌, ℕ, ◌+◌, ◌&&◌, Bool, true, false, not, List, [], ◌∷◌, ◌++◌, map, filter, Option, Some, None, option_map, is_some}
use Rattle.std.specs.List as list
use Rattle.std.specs.List.{list_any, filter_map}
use Rattle.std.specs.BTreeSet.{BTreeSet, contains}
use Rattle.std.specs.List.Sorted.{IsStrictlySortedBy}
use Rattle.std.specs.Map.{keys_of}
use Rattle.std.specs.FinMap.Entries.{find}
use Rattle.std.specs.Ordering.{is_eq, is_le, is_lt, nat_cmp}
use Rattle.std.specs.declared.cmp.Ordering.{Ordering}
use Rattle.std.specs.Cmp.Lexicographic.{slice_cmp}
use Rattle.opfs_base.specs.Texts.{Text, same_text}
use Rattle.opfs_base.specs.Places.{begins_with, rest_below, only_name}
use Rattle.opfs_base.specs.declared.locator.Kind.{Kind}
use Rattle.opfs_tree.specs.declared.row.FileRow.{FileRow}
use Rattle.opfs_tree.specs.declared.row.Row.{Row}
use Rattle.opfs_tree.specs.Rows.{Rows, IsInOrder, IsClosed, kind_of, changed_row, holds}

-- The orders of texts and of paths.
abbrev pub text_cmp : Text → Text → Ordering
text_cmp = slice_cmp nat_cmp

abbrev pub path_cmp : List Text → List Text → Ordering
path_cmp = slice_cmp (slice_cmp nat_cmp)

-- The rows of one unit, in the order of their paths.
abbrev pub UnitRows : Type 0
UnitRows = List (List Text × Row)

-- The rows of one unit among all.
abbrev pub unit_rows : Text → Rows → UnitRows
unit_rows unit rows = map (λ e. (e.0.1, e.1)) (filter (λ e. same_text unit e.0.0) rows)

-- Rows of one unit with their places.
abbrev pub placed : Text → UnitRows → Rows
placed unit es = map (λ e. ((unit, e.0), e.1)) es

-- The rows of all units.
abbrev pub all_rows : List (Text × UnitRows) → Rows
all_rows [] = []
all_rows (u ∷ us) = placed u.0 u.1 ++ all_rows us

-- The rows at a path and below it.
abbrev pub below : List Text → UnitRows → UnitRows
below path es = filter (λ e. begins_with path e.0) es

-- The first of the rows, as long as they are at a path or below it.
abbrev pub front : List Text → UnitRows → UnitRows
front path [] = []
front path (e ∷ es) = elim (begins_with path e.0) [ true ↦ e ∷ front path es | false ↦ [] ]

-- The rows at a path and behind it.
abbrev pub from : List Text → UnitRows → UnitRows
from path es = filter (λ e. is_le (path_cmp path e.0) && true) es

-- The first of these paths, where it is another or below it.
abbrev pub when_below : List Text → List (List Text) → Option (List Text)
when_below path [] = None
when_below path (first ∷ paths) = elim (begins_with path first) [ true ↦ Some first | false ↦ None ]

-- The first path that is another or below it.
abbrev pub first_key : List Text → List (List Text) → Option (List Text)
first_key path paths = when_below path (filter (λ other. is_le (path_cmp path other) && true) paths)

-- The paths are those of the rows.
abbrev pub AreKeys : List (List Text) → UnitRows → Type 0
AreKeys paths es = paths ≡ keys_of es

-- The others.
abbrev pub beside : List Text → UnitRows → UnitRows
beside path es = filter (λ e. not (begins_with path e.0)) es

-- The rows without their paths.
abbrev pub values : UnitRows → List Row
values es = map (λ e. e.1) es

-- The name of a child of a path.
abbrev pub name_below : List Text → List Text → Option Text
name_below dir path = only_name (rest_below dir path)

abbrev pub children_in : List Text → UnitRows → List (Text × Kind)
children_in dir es = filter_map (λ e. option_map (λ name. (name, kind_of e.1)) (name_below dir e.0)) es

-- A set has the names of a list.
abbrev pub IsSetOf : List Text → BTreeSet Text → Type 0
IsSetOf names set = (x : Text) → contains text_cmp set x ≡ list_any (same_text x) names

-- The first of these children whose name a set has not.
abbrev pub find_outside : BTreeSet Text → List (Text × Kind) → Option (Text × Kind)
find_outside set children = list.find (λ c. not (contains text_cmp set c.0)) children

abbrev pub has_children_in : List Text → UnitRows → Bool
has_children_in dir es = list_any (λ e. is_some (name_below dir e.0)) es

-- The rows above a path.
abbrev pub above : List Text → UnitRows → UnitRows
above path es = filter (λ e. is_lt (path_cmp path e.0)) es

-- The units behind one.
abbrev pub behind : Text → List (Text × UnitRows) → List (Text × UnitRows)
behind unit us = filter (λ u. is_lt (text_cmp unit u.0) && true) us

-- The rows with the file at a path changed, where one is there.
abbrev pub change_in : List Text → (FileRow → FileRow) → UnitRows → UnitRows
change_in path change [] = []
change_in path change (e ∷ es) = elim (is_eq (path_cmp path e.0)) [
  | true ↦ (e.0, changed_row change e.1) ∷ es
  | false ↦ e ∷ change_in path change es
]

-- How many of the files have a taken lock, of all rows and of that at a path.
abbrev pub taken_in : UnitRows → ℕ
taken_in [] = 0
taken_in (e ∷ es) = holds e.1 + taken_in es

abbrev pub holds_of : Option Row → ℕ
holds_of None = 0
holds_of (Some r) = holds r

abbrev pub holds_at : List Text → UnitRows → ℕ
holds_at path es = holds_of (find path_cmp path es)

-- What each tree keeps: its units in order, its rows in order and closed under parents.
pub record IsWhole (us : List (Text × UnitRows)) : Type 0 where
  pub units : IsStrictlySortedBy text_cmp (keys_of us)
  pub order : IsInOrder (all_rows us)
  pub closed : IsClosed (all_rows us)
