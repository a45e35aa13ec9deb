-- An ordered map's entries beside ordered lists of entries: they put and find alike.
use Rattle.std.proofs.Common.{◌≡◌, List, [], ◌∷◌, Some, Ordering, Less, Equal, Greater, refl, ap, cond}
use Rattle.std.specs.BTreeMap.{insert_entry, is_at}
use Rattle.std.specs.FinMap.Entries.{put, find, by_order}
use Rattle.std.specs.Map.{lookup}
use Rattle.std.specs.Ordering.{match_ordering}

ordered : {A : Type 0} (o : Ordering) (a b c d : A) → c ≡ d → match_ordering o a b c ≡ by_order o a b d
ordered Less a b c d e = refl
ordered Equal a b c d e = refl
ordered Greater a b c d e = e

pub insert_entry-put : {K X : Type 0} (cmp : K → K → Ordering) (k : K) (v : X) (es : List (K × X)) → insert_entry cmp es k v ≡ put cmp k v es
insert_entry-put cmp k v [] = refl
insert_entry-put cmp k v (e ∷ es) = ordered (cmp k e.0) _ _ _ _ (ap (λ l. e ∷ l) (insert_entry-put cmp k v es))

pub lookup-find : {K X : Type 0} (cmp : K → K → Ordering) (k : K) (es : List (K × X)) → lookup (is_at (cmp k)) es ≡ find cmp k es
lookup-find cmp k [] = refl
lookup-find cmp k (e ∷ es) = ap (λ o. cond (is_at (cmp k) e.0) (Some e.1) o) (lookup-find cmp k es)
