-- Where a row of the store stands: a unit and a path in it.
use Rattle.std.specs.Prelude.{Bool, true, false, ◌&&◌, List, [], ◌∷◌, ◌++◌, Option, Some, None}
use Rattle.std.specs.Ordering.{nat_cmp, ordering_then}
use Rattle.std.specs.declared.cmp.Ordering.{Ordering}
use Rattle.std.specs.Cmp.Lexicographic.{slice_cmp}
use Rattle.opfs_base.specs.Texts.{Text, same_text, same_texts}
use Rattle.opfs_base.specs.declared.locator.Kind.{Kind}
use Rattle.opfs_base.specs.declared.locator.Kind.TheVariants.{File, Directory}
use Rattle.opfs_base.specs.declared.locator.Locator.{Locator}

-- A unit, and the names from its root down.
abbrev pub Place : Type 0
Place = Text × List Text

-- The order of places: by unit, then by path, a prefix first.
abbrev pub place_cmp : Place → Place → Ordering
place_cmp a b = ordering_then (slice_cmp nat_cmp a.0 b.0) (slice_cmp (slice_cmp nat_cmp) a.1 b.1)

-- Whether a list of names begins with another.
abbrev pub begins_with : List Text → List Text → Bool
begins_with [] names = true
begins_with (a ∷ front) [] = false
begins_with (a ∷ front) (b ∷ names) = same_text a b && begins_with front names

-- Whether a place is the first one, or below it.
abbrev pub is_within : Place → Place → Bool
is_within above place = same_text above.0 place.0 && begins_with above.1 place.1

-- The place of a child.
abbrev pub child : Place → Text → Place
child dir name = (dir.0, dir.1 ++ name ∷ [])

-- The names that are left of a path below a directory's; None where it is not there (File System: resolve).
abbrev pub rest_below : List Text → List Text → Option (List Text)
rest_below [] names = Some names
rest_below (a ∷ dir) [] = None
rest_below (a ∷ dir) (b ∷ names) = elim (same_text a b) [ true ↦ rest_below dir names | false ↦ None ]

-- The one name of a list.
abbrev pub only_name : Option (List Text) → Option Text
only_name None = None
only_name (Some []) = None
only_name (Some (name ∷ [])) = Some name
only_name (Some (name ∷ more ∷ names)) = None

-- The name of a child of a directory; None for a place that is no child of it.
abbrev pub child_name : Place → Place → Option Text
child_name dir place = elim (same_text dir.0 place.0) [ true ↦ only_name (rest_below dir.1 place.1) | false ↦ None ]

-- Where a locator's entry stands.
abbrev pub place_of : Locator → Place
place_of at = (at.key, at.path)

-- The locator of a child.
abbrev pub child_of : Locator → Text → Kind → Locator
child_of dir name kind = record { key = dir.key; path = dir.path ++ name ∷ []; kind = kind }

-- Whether two kinds are the same.
abbrev pub same_kind : Kind → Kind → Bool
same_kind File File = true
same_kind File Directory = false
same_kind Directory File = false
same_kind Directory Directory = true

-- Whether two locators are the same (File System: the same locator as).
abbrev pub same_locator : Locator → Locator → Bool
same_locator a b = same_text a.key b.key && same_texts a.path b.path && same_kind a.kind b.kind

-- The names from a directory to an entry (File System: resolve). None for another unit, and where the entry is not
-- in the directory.
abbrev pub resolved : Locator → Locator → Option (List Text)
resolved dir entry = elim (same_text dir.key entry.key) [ true ↦ rest_below dir.path entry.path | false ↦ None ]
