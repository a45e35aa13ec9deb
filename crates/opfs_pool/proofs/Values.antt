-- Values that are changed at their keys.
use Rattle.std.proofs.Common.{◌≡◌, Bool, true, false, cond, List, [], ◌∷◌, Some, None, refl, sym, ap}
use Rattle.std.specs.Map.{lookup, set_value}

-- nothing changes where there is no value
pub set_value-none : {K X : Type 0} (test : K → Bool) (es : List (K × X)) (w : X) → lookup test es ≡ None → set_value test es w ≡ es
set_value-none test [] w none = refl
set_value-none {K} {X} test (e ∷ es) w none =
    let P = λ (t : Bool). cond t (Some e.1) (lookup test es) ≡ None → cond t ((e.0, w) ∷ es) (e ∷ set_value test es w) ≡ e ∷ es in
    elim (test e.0) as P [ true ↦ λ h. cc | false ↦ λ h. ap (λ r. e ∷ r) (set_value-none test es w h) ] none

-- nothing changes where the value is there already
pub set_value-same : {K X : Type 0} (test : K → Bool) (es : List (K × X)) (w : X) → lookup test es ≡ Some w → set_value test es w ≡ es
set_value-same test [] w found = refl
set_value-same {K} {X} test (e ∷ es) w found =
    let P = λ (t : Bool). cond t (Some e.1) (lookup test es) ≡ Some w → cond t ((e.0, w) ∷ es) (e ∷ set_value test es w) ≡ e ∷ es in
    elim (test e.0) as P [ true ↦ λ h. let same : e.1 ≡ w = cc in ap (λ (x : X). (e.0, x) ∷ es) (sym same) | false ↦ λ h. ap (λ r. e ∷ r) (set_value-same test es w h) ] found
