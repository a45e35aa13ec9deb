-- A map's records by key stand for the map.
use Rattle.std.proofs.Common.{◌≡◌, List, [], ◌∷◌, ◌++◌, map, fold, Ordering, Less, Greater, refl, sym, ap, ◌∙◌, append_assoc}
use Rattle.std.specs.Cmp.Lexicographic.{nat_list_cmp_total}
use Rattle.std.specs.List.{AllByRecursion}
use Rattle.std.specs.List.Sorted.{IsStrictlySortedBy}
use Rattle.std.specs.Map.{keys_of}
use Rattle.std.specs.Ordering.{match_ordering, ordering_reverse}
use Rattle.std.proofs.lemmas.List.{append-nil}
use Rattle.opfs_base.specs.Texts.{Text}
use Rattle.opfs_kv.specs.Records.Maps.{Map, key_cmp, with_key}
use Rattle.opfs_kv.specs.Records.Records.{after, map_of, put_of}

greater : (a b : Text) → key_cmp a b ≡ Less → key_cmp b a ≡ Greater
greater a b less = nat_list_cmp_total.antisymm b a ∙ ap ordering_reverse less

module _ {X : Type 0} where
  -- The entries with one more.
  abbrev pub with_entry : List (Text × X) → Text × X → List (Text × X)
  with_entry m e = with_key m e.0 e.1

  -- Each key of a map is below this one.
  abbrev AreBelow : Text → List (Text × X) → Type 0
  AreBelow key m = AllByRecursion (λ e. key_cmp key e.0 ≡ Greater) m

  at-end : (m : List (Text × X)) (key : Text) (value : X) → AreBelow key m → with_key m key value ≡ m ++ (key, value) ∷ []
  at-end [] key value below = refl
  at-end (e ∷ es) key value below =
      ap (λ (o : Ordering). match_ordering o ((key, value) ∷ (e ∷ es)) ((e.0, value) ∷ es) (e ∷ with_key es key value)) below.0
      ∙ ap (λ (t : List (Text × X)). e ∷ t) (at-end es key value below.1)

  below-more : (m : List (Text × X)) (key : Text) (e : Text × X) → AreBelow key m → key_cmp key e.0 ≡ Greater → AreBelow key (m ++ e ∷ [])
  below-more [] key e below more = (more, tt)
  below-more (x ∷ m) key e below more = (below.0, below-more m key e below.1 more)

  -- Each key of a map is below each of another's.
  abbrev AreApart : List (Text × X) → List (Text × X) → Type 0
  AreApart m es = AllByRecursion (λ e. AreBelow e.0 m) es

  apart-more : (m : List (Text × X)) (e : Text × X) (es : List (Text × X)) → AreApart m es → AllByRecursion (λ k. key_cmp e.0 k ≡ Less) (keys_of es) → AreApart (m ++ e ∷ []) es
  apart-more m e [] apart above = tt
  apart-more m e (x ∷ es) apart above = (below-more m x.0 e apart.0 (greater e.0 x.0 above.0), apart-more m e es apart.1 above.1)

  by-key : (m es : List (Text × X)) → AreApart m es → IsStrictlySortedBy key_cmp (keys_of es) → fold with_entry m es ≡ m ++ es
  unfolding IsStrictlySortedBy
  by-key m [] apart sorted = sym (append-nil m)
  by-key m (e ∷ es) apart sorted =
      ap (λ (t : List (Text × X)). fold with_entry t es) (at-end m e.0 e.1 apart.0)
      ∙ by-key (m ++ e ∷ []) es (apart-more m e es apart.1 sorted.0) sorted.1
      ∙ append_assoc m (e ∷ []) es

  none-apart : (es : List (Text × X)) → AreApart [] es
  none-apart [] = tt
  none-apart (e ∷ es) = (tt, none-apart es)

  -- List (Text × X) in the order of their keys, put in one after another, are the same entries.
  pub entry-by-entry : (es : List (Text × X)) → IsStrictlySortedBy key_cmp (keys_of es) → fold with_entry [] es ≡ es
  entry-by-entry es sorted = by-key [] es (none-apart es) sorted

as-entries : (m es : Map) → fold after m (map put_of es) ≡ fold with_entry m es
as-entries m [] = refl
as-entries m (e ∷ es) = as-entries (with_key m e.0 e.1) es

pub map-by-key : (m : Map) → IsStrictlySortedBy key_cmp (keys_of m) → map_of (map put_of m) ≡ m
map-by-key m sorted = as-entries [] m ∙ entry-by-entry m sorted
