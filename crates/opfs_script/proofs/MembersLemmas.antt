-- The names of an object's members.
use Rattle.std.proofs.Common.{◌≡◌, ◌&&◌, ◌||◌, List, [], ◌∷◌, Bool, false, Option, Some, None, Bor, refl, sym, ap, ◌∙◌}
use Rattle.std.specs.Prelude.{map, String, string_bytes}
use Rattle.std.specs.List.{list_any, list_all}
use Rattle.std.specs.declared.alloc.Global.{Global}
use Rattle.serde_json.specs.Data.{Data, Members}
use Rattle.serde_json.specs.Find.{as_object}
use Rattle.serde_json.specs.View.{members_view}
use Rattle.serde_json.specs.declared.value.Value.{Value}
use Rattle.opfs_base.specs.Texts.{Text, same_text}
use Rattle.opfs_script.specs.Members.{all_among, has_only}

-- names behind references
abbrev told : List (Bor Text) → List Text
told names = map (λ name. name.now) names

list_any-told : (name : Text) (names : List (Bor Text)) → list_any (same_text name) (told names) ≡ list_any (λ other. same_text name other.now) names
list_any-told name [] = refl
list_any-told name (other ∷ names) = ap (λ more. same_text name other.now || more) (list_any-told name names)

-- all members of an object, by its keys
pub all_among-members : (names : List (Bor Text)) (es : List (String Global × Value)) → all_among (told names) (members_view es) ≡ list_all (λ name. list_any (λ other. same_text (string_bytes name) other.now) names) (map (λ e. e.0) es)
all_among-members names [] = refl
all_among-members names (e ∷ es) =
    ap (λ here. here && all_among (told names) (members_view es)) (list_any-told (string_bytes e.0) names)
    ∙ ap (λ more. list_any (λ other. same_text (string_bytes e.0) other.now) names && more) (all_among-members names es)

abbrev only_by : List Text → Option Members → Bool
only_by names found = elim found [ None ↦ false | Some members ↦ all_among names members ]

-- an object has only such members where its keys are such
pub has_only-members : (names : List (Bor Text)) (es : List (String Global × Value)) (value : Data) → Some (members_view es) ≡ as_object value → list_all (λ name. list_any (λ other. same_text (string_bytes name) other.now) names) (map (λ e. e.0) es) ≡ has_only (told names) value
has_only-members names es value is =
    sym (all_among-members names es) ∙ ap (λ found. only_by (told names) found) is
