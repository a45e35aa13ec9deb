-- Values read one after another.
use Rattle.std.proofs.Common.{◌≡◌, ◌+◌, ℕ, List, [], ◌∷◌, refl, ap}
use Rattle.std.specs.Prelude.{map}
use Rattle.serde_json.specs.Data.{Data}
use Rattle.serde_json.specs.View.{view}
use Rattle.serde_json.specs.declared.value.Value.{Value}
use Rattle.opfs_script.specs.Reading.{Read, ◌>>=◌, after, each_from}

-- what is read of each value is what is read of its data
pub each_from-view : {A : Type 0} (one : ℕ → Data → Read A) (number : ℕ) (vs : List Value) → each_from (λ n value. one n (view value)) number vs ≡ each_from one number (map view vs)
each_from-view one number [] = refl
each_from-view one number (v ∷ vs) =
    ap (λ more. one number (view v) >>= λ x. after (x ∷ []) more) (each_from-view one (number + 1) vs)
