-- The members of an agent, level by level.
use Rattle.std.proofs.Common.{◌≡◌, ◌==◌, ◌&&◌, Bool, true, false, not, List, [], ◌∷◌, Option, Some, None, length, refl, ap, arith}
use Rattle.std.specs.Prelude.{map, nat_lt}
use Rattle.std.specs.List.{list_all}
use Rattle.std.proofs.lemmas.Bool.Decides.{nat_tests}
use Rattle.serde_json.specs.Data.{Data}
use Rattle.serde_json.specs.View.{view, items_of}
use Rattle.serde_json.specs.declared.value.Value.{Value}
use Rattle.opfs_script.specs.Members.{values_of}
use Rattle.opfs_script.specs.Reading.{is_grant}

-- an array's values are the list that it is of
pub values_of-items_of : (ds : List Data) → values_of (items_of ds) ≡ ds
values_of-items_of [] = refl
values_of-items_of (d ∷ ds) = ap (λ more. d ∷ more) (values_of-items_of ds)

-- a test of each value
pub list_all-view : (vs : List Value) → list_all (λ item. is_grant (view item)) vs ≡ list_all is_grant (map view vs)
list_all-view [] = refl
list_all-view (v ∷ vs) = ap (λ more. is_grant (view v) && more) (list_all-view vs)

-- a list with an item has more than none
pub is_longer : (vs : List Value) → not (length vs == 0) ≡ nat_lt 0 (length (map view vs))
is_longer [] = refl
is_longer (v ∷ vs) = grind (arith, nat_tests)

-- the grant, once the values are tested
abbrev pub grant_if : Bool → List Data → Option Bool
grant_if told items = elim told [ true ↦ Some (nat_lt 0 (length items)) | false ↦ None ]
