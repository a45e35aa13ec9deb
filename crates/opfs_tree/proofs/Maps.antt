-- The words of std's map are those of the list of its entries.
use Rattle.std.proofs.Common.{◌≡◌, cond, List, [], ◌∷◌, Some, refl, ap}
use Rattle.std.specs.Ordering.{is_eq, match_ordering}
use Rattle.std.specs.declared.cmp.Ordering.{Ordering}
use Rattle.std.specs.declared.cmp.Ordering.TheVariants.{Less, Equal, Greater}
use Rattle.std.specs.FinMap.Entries.{put, find, by_order}
use Rattle.std.specs.Map.{lookup}
use Rattle.std.specs.BTreeMap.{insert_entry, is_at}

pub find_lookup : {K X : Type 0} (R : K → K → Ordering) (q : K) (es : List (K × X)) → lookup (is_at (R q)) es ≡ find R q es
find_lookup R q [] = refl
find_lookup R q (e ∷ es) = ap (cond (is_eq (R q e.0)) (Some e.1)) (find_lookup R q es)

pub put_insert_entry : {K X : Type 0} (R : K → K → Ordering) (k : K) (v : X) (es : List (K × X)) → insert_entry R es k v ≡ put R k v es
put_insert_entry R k v [] = refl
put_insert_entry R k v (e ∷ es) =
    elim (R k e.0) as (λ o. match_ordering o ((k, v) ∷ e ∷ es) ((e.0, v) ∷ es) (e ∷ insert_entry R es k v) ≡ by_order o ((k, v) ∷ e ∷ es) ((e.0, v) ∷ es) (e ∷ put R k v es)) [
      | Less ↦ refl
      | Equal ↦ refl
      | Greater ↦ ap (λ xs. e ∷ xs) (put_insert_entry R k v es)
    ]
