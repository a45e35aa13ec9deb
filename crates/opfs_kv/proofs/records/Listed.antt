-- The keys of an index, one after another.
use Rattle.std.proofs.Common.{◌≡◌, Bool, true, false, cond, if◌then◌else◌, ◌&&◌, List, [], ◌∷◌, ◌++◌, append_assoc, append-nil, length, filter, refl, ap, ◌∙◌, arith}
use Rattle.std.specs.BTreeMap.Range.{entries_between}
use Rattle.std.specs.declared.ops.Bound.TheVariants.{Included, Unbounded}
use Rattle.std.specs.Map.{keys_of}
use Rattle.std.specs.Ordering.{is_le}
use Rattle.opfs_base.specs.Texts.{Text}
use Rattle.opfs_kv.specs.Records.Indexes.{Places, read_out}
use Rattle.opfs_kv.specs.Records.Maps.{key_cmp, keys_from}
use Rattle.opfs_kv.specs.declared.records.place.Place.{Place}

-- One key more, where it is wanted.
pub picked-next : (f : Text → Bool) (k : Text) (rest got whole : List Text) (b : Bool) → b ≡ f k → got ++ filter f (k ∷ rest) ≡ whole → (got ++ (if b then k ∷ [] else [])) ++ filter f rest ≡ whole
picked-next f k rest got whole true is h = append_assoc got (k ∷ []) (filter f rest) ∙ ap (λ (t : Bool). got ++ cond t (k ∷ filter f rest) (filter f rest)) is ∙ h
picked-next f k rest got whole false is h = ap (λ (xs : List Text). xs ++ filter f rest) (append-nil got) ∙ ap (λ (t : Bool). got ++ cond t (k ∷ filter f rest) (filter f rest)) is ∙ h

-- The keys of entries that are picked by their keys.
keys-filter : (f : Text → Bool) (g : Text × Place → Bool) → ((e : Text × Place) → g e ≡ f e.0) → (es : Places) → keys_of (filter g es) ≡ filter f (keys_of es)
keys-filter f g same [] = refl
keys-filter f g same (e ∷ es) =
    let rest = keys-filter f g same es in
    elim (g e) as (λ b. b ≡ f e.0 → keys_of (cond b (e ∷ filter g es) (filter g es)) ≡ cond (f e.0) (e.0 ∷ filter f (keys_of es)) (filter f (keys_of es))) [
      | true ↦ λ is. ap (λ (xs : List Text). e.0 ∷ xs) rest ∙ ap (λ (t : Bool). cond t (e.0 ∷ filter f (keys_of es)) (filter f (keys_of es))) is
      | false ↦ λ is. rest ∙ ap (λ (t : Bool). cond t (e.0 ∷ filter f (keys_of es)) (filter f (keys_of es))) is
    ] (same e)

and-true : (b : Bool) → (b && true) ≡ b
and-true true = refl
and-true false = refl

pub range-keys : (from : Text) (es : Places) → keys_of (entries_between key_cmp (Included from) Unbounded es) ≡ keys_from from (keys_of es)
range-keys from es = keys-filter (λ (k : Text). is_le (key_cmp from k)) _ (λ e. and-true (is_le (key_cmp from e.0))) es

-- What an index reads out has its keys.
pub read-keys : (bytes : Text) (index : Places) → keys_of (read_out bytes index) ≡ keys_of index
read-keys bytes [] = refl
read-keys bytes (e ∷ index) = ap (λ (xs : List Text). e.0 ∷ xs) (read-keys bytes index)

pub read-long : (bytes : Text) (index : Places) → length (read_out bytes index) ≡ length index
read-long bytes [] = refl
read-long bytes (e ∷ index) = let rest = read-long bytes index in omega (arith, rest)
