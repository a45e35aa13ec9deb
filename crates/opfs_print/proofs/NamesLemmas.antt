-- Lists of names as JSON.
use Rattle.std.proofs.Common.{◌≡◌, ℕ, false, List, [], ◌∷◌, Ok, Err, refl}
use Rattle.std.specs.Prelude.{map, Result, IfOk, String, string_bytes, Vec}
use Rattle.std.specs.declared.alloc.Global.{Global}
use Rattle.std.specs.declared.alloc.AllocError.{AllocError}
use Rattle.serde_json.specs.Data.{string, array}
use Rattle.serde_json.specs.View.{view, items_of, items_view}
use Rattle.serde_json.specs.Written.{compact_text, has_float, items_have_float}
use Rattle.serde_json.specs.declared.value.Value.{Value}
use Rattle.serde_json.specs.declared.value.Value.TheVariants.{Array}
use Rattle.serde_json.proofs.Views.{view-Array}

-- no name is a number
pub no_float : (names : List (List ℕ)) → items_have_float (items_of (map string names)) ≡ false
no_float [] = refl
no_float (name ∷ names) = no_float names

-- an array is written with its items
pub array_written : (v : Vec Value Global) (r : Result (String Global) AllocError) → items_have_float (items_view v.items) ≡ false → IfOk r (λ s. has_float (view (Array v)) ≡ false → string_bytes s ≡ compact_text (view (Array v))) → IfOk r (λ s. string_bytes s ≡ compact_text (array (items_view v.items)))
array_written v (Ok s) plain h = (rw (view-Array v) at h) plain
array_written v (Err e) plain h = tt
