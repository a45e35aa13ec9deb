-- What is read as a change is spelled so, and what is spelled so is read.
use Rattle.std.proofs.Common.{◌≡◌, ℕ, zero, suc, ◌+◌, ◌-◌, ◌^◌, ◌<◌, ◌≤◌, List, [], ◌∷◌, ◌++◌, length, drop, Option, Some, None, refl, sym, ap, subst, ◌∙◌, append_assoc, arith}
use Rattle.std.specs.Int.{w8, w16, w32, w64, to_le_bytes}
use Rattle.std.specs.List.{flat_map}
use Rattle.std.proofs.lemmas.Bool.{and_parts}
use Rattle.std.proofs.lemmas.List.{length-append, drop_all, drop-drop}
use Rattle.std.proofs.Math.Seq.{drop-append_seam}
use Rattle.opfs_base.specs.Texts.{Text}
use Rattle.opfs_base.specs.Names.{is_valid_name}
use Rattle.opfs_base.specs.Keys.{is_origin}
use Rattle.opfs_base.specs.Units.{is_bucket_name, unit_of, origin_of, bucket_of}
use Rattle.opfs_base.proofs.UnitLemmas.{origin_of-unit_of, bucket_of-unit_of, plain-from_is_origin}
use Rattle.opfs_base.specs.declared.extents.Extent.{Extent}
use Rattle.opfs_codec.specs.declared.change.Format.{Format}
use Rattle.opfs_codec.specs.declared.change.Format.TheVariants.{Old, New}
use Rattle.opfs_codec.specs.declared.change.Change.{Change}
use Rattle.opfs_codec.specs.declared.change.Change.TheVariants.{MakeRoot, MakeDir, MakeFile, Remove, Content, Persist, Evict}
use Rattle.opfs_codec.specs.Spelling.{text, key, path, extent, extents, spelling, IsText, is_key_text, is_origin_text, IsKey, IsName, IsPath, IsExtent, AreExtents, IsChange, BeginsAt}
use Rattle.opfs_codec.specs.Reading.{◌>>=◌, number_at, text_at, unit_at, key_at, items_at, name_at, path_at, extent_at, extents_at, place_at, root_at, entry_at, file_at, content_at, change_at}
use Rattle.opfs_codec.proofs.FieldLemmas.{IsBytes, IsBytes-drop, bind_some, done, some_is, Takes, Takes-then, IsField, wide8, wide16, wide32, wide64, number_field, text_field, pair_takes, pair_again, items_take, items_again}

-- ---- keys

origin_field : IsField (text w16) (λ t. IsText is_origin_text t × (length t < 2 ^ 16)) (text_at w16 is_origin_text)
origin_field = text_field w16 (2 ^ 16) wide16 is_origin_text

bucket_field : IsField (text w8) (λ t. IsText is_bucket_name t × (length t < 2 ^ 8)) (text_at w8 is_bucket_name)
bucket_field = text_field w8 (2 ^ 8) wide8 is_bucket_name

is_unit : (o b : Text) → IsText is_origin_text o × (length o < 2 ^ 16) → IsText is_bucket_name b × (length b < 2 ^ 8) → (key New (unit_of o b) ≡ text w16 o ++ text w8 b) × IsKey New (unit_of o b)
is_unit o b good_o good_b =
    let plain = plain-from_is_origin o (and_parts (is_key_text o) (is_origin o) good_o.0.1).1 in
    let o-is = origin_of-unit_of o b plain in
    let b-is = bucket_of-unit_of o b plain in
    (rw (o-is, b-is) refl, (subst (λ (t : Text). IsText is_origin_text t × (length t < 2 ^ 16)) (sym o-is) good_o, subst (λ (t : Text). IsText is_bucket_name t × (length t < 2 ^ 8)) (sym b-is) good_b, ap (λ (t : Text). unit_of t (bucket_of (unit_of o b))) o-is ∙ ap (λ (t : Text). unit_of o t) b-is))

unit_takes : (bytes : List ℕ) (x : Text × List ℕ) → IsBytes bytes → unit_at bytes ≡ Some x → Takes bytes (key New x.0) x.1 × IsKey New x.0
unfolding unit_at
unit_takes bytes x fits e =
    let p = pair_takes (text w16) (λ t. IsText is_origin_text t × (length t < 2 ^ 16)) (text_at w16 is_origin_text) (text w8) (λ t. IsText is_bucket_name t × (length t < 2 ^ 8)) (text_at w8 is_bucket_name) origin_field bucket_field unit_of bytes x fits e in
    let u = is_unit p.0 p.1 p.4 p.5 in
    subst (λ (t : Text). Takes bytes (key New t) x.1 × IsKey New t) p.2 (subst (λ (k : List ℕ). Takes bytes k x.1) (sym u.0) p.3, u.1)

unit_again : (unit : Text) (rest : List ℕ) → IsKey New unit → unit_at (key New unit ++ rest) ≡ Some (unit, rest)
unfolding unit_at
unit_again unit rest good =
    pair_again (text w16) (λ t. IsText is_origin_text t × (length t < 2 ^ 16)) (text_at w16 is_origin_text) (text w8) (λ t. IsText is_bucket_name t × (length t < 2 ^ 8)) (text_at w8 is_bucket_name) origin_field bucket_field unit_of (origin_of unit) (bucket_of unit) rest good.0 good.1
    ∙ ap (λ (t : Text). Some (t, rest)) good.2

key_takes : (f : Format) (bytes : List ℕ) (x : Text × List ℕ) → IsBytes bytes → key_at f bytes ≡ Some x → Takes bytes (key f x.0) x.1 × IsKey f x.0
unfolding key_at
key_takes Old bytes x fits e = (text_field w16 (2 ^ 16) wide16 is_key_text).takes bytes x fits e
key_takes New bytes x fits e = unit_takes bytes x fits e

key_again : (f : Format) (unit : Text) (rest : List ℕ) → IsKey f unit → key_at f (key f unit ++ rest) ≡ Some (unit, rest)
unfolding key_at
key_again Old unit rest good = (text_field w16 (2 ^ 16) wide16 is_key_text).again unit rest good
key_again New unit rest good = unit_again unit rest good

pub key_field : (f : Format) → IsField (key f) (IsKey f) (key_at f)
key_field f = record { takes = key_takes f; again = key_again f }

-- ---- lists

name_field : IsField (text w8) IsName name_at
unfolding name_at
name_field = text_field w8 (2 ^ 8) wide8 is_valid_name

path_takes : (bytes : List ℕ) (x : List Text × List ℕ) → IsBytes bytes → path_at bytes ≡ Some x → Takes bytes (path x.0) x.1 × IsPath x.0
unfolding path_at
path_takes bytes x fits e =
    let p = bind_some (number_at w8 bytes) (λ n. items_at name_at n.0 n.1) x e in
    let n = (number_field w8 (2 ^ 8) wide8).takes bytes p.0 fits p.1 in
    let all = items_take (text w8) IsName name_at name_field p.0.0 p.0.1 x n.0.rest_fits p.2 in
    let both = Takes-then bytes (to_le_bytes w8 p.0.0) p.0.1 (flat_map (text w8) x.0) x.1 n.0 all.0 in
    (subst (λ (k : ℕ). Takes bytes (to_le_bytes w8 k ++ flat_map (text w8) x.0) x.1) (sym all.1) both, (subst (λ (k : ℕ). k < 2 ^ 8) (sym all.1) n.1, all.2))

path_again : (place : List Text) (rest : List ℕ) → IsPath place → path_at (path place ++ rest) ≡ Some (place, rest)
unfolding path_at
path_again place rest good =
    let after : ℕ × List ℕ → Option (List Text × List ℕ) = λ n. items_at name_at n.0 n.1 in
    ap (λ (r : Option (ℕ × List ℕ)). r >>= after) (ap (number_at w8) (append_assoc (to_le_bytes w8 (length place)) (flat_map (text w8) place) rest) ∙ (number_field w8 (2 ^ 8) wide8).again (length place) (flat_map (text w8) place ++ rest) good.0)
    ∙ items_again (text w8) IsName name_at name_field place rest good.1

pub path_field : IsField path IsPath path_at
path_field = record { takes = path_takes; again = path_again }

extent_field : IsField extent IsExtent extent_at
unfolding extent_at
extent_field = record {
  takes = λ bytes x fits e.
      let make : ℕ → ℕ → Extent = λ s n. record { start = s; count = n } in
      let p = pair_takes (to_le_bytes w32) (λ n. n < 2 ^ 32) (number_at w32) (to_le_bytes w32) (λ n. n < 2 ^ 32) (number_at w32) (number_field w32 (2 ^ 32) wide32) (number_field w32 (2 ^ 32) wide32) make bytes x fits e in
      subst (λ (v : Extent). Takes bytes (extent v) x.1 × IsExtent v) p.2 (p.3, (p.4, p.5));
  again = λ v rest good.
      let make : ℕ → ℕ → Extent = λ s n. record { start = s; count = n } in
      pair_again (to_le_bytes w32) (λ n. n < 2 ^ 32) (number_at w32) (to_le_bytes w32) (λ n. n < 2 ^ 32) (number_at w32) (number_field w32 (2 ^ 32) wide32) (number_field w32 (2 ^ 32) wide32) make v.start v.count rest good.0 good.1;
}

extents_take : (bytes : List ℕ) (x : List Extent × List ℕ) → IsBytes bytes → extents_at bytes ≡ Some x → Takes bytes (extents x.0) x.1 × AreExtents x.0
unfolding extents_at
extents_take bytes x fits e =
    let p = bind_some (number_at w32 bytes) (λ n. items_at extent_at n.0 n.1) x e in
    let n = (number_field w32 (2 ^ 32) wide32).takes bytes p.0 fits p.1 in
    let all = items_take extent IsExtent extent_at extent_field p.0.0 p.0.1 x n.0.rest_fits p.2 in
    let both = Takes-then bytes (to_le_bytes w32 p.0.0) p.0.1 (flat_map extent x.0) x.1 n.0 all.0 in
    (subst (λ (k : ℕ). Takes bytes (to_le_bytes w32 k ++ flat_map extent x.0) x.1) (sym all.1) both, (subst (λ (k : ℕ). k < 2 ^ 32) (sym all.1) n.1, all.2))

extents_again : (es : List Extent) (rest : List ℕ) → AreExtents es → extents_at (extents es ++ rest) ≡ Some (es, rest)
unfolding extents_at
extents_again es rest good =
    let after : ℕ × List ℕ → Option (List Extent × List ℕ) = λ n. items_at extent_at n.0 n.1 in
    ap (λ (r : Option (ℕ × List ℕ)). r >>= after) (ap (number_at w32) (append_assoc (to_le_bytes w32 (length es)) (flat_map extent es) rest) ∙ (number_field w32 (2 ^ 32) wide32).again (length es) (flat_map extent es ++ rest) good.0)
    ∙ items_again extent IsExtent extent_at extent_field es rest good.1

pub extents_field : IsField extents AreExtents extents_at
extents_field = record { takes = extents_take; again = extents_again }

-- ---- a unit and a path

abbrev Place : Type 0
Place = Text × List Text

abbrev pair_of : Text → List Text → Place
pair_of unit names = (unit, names)

place_takes : (f : Format) (bytes : List ℕ) (x : Place × List ℕ) → IsBytes bytes → place_at f bytes ≡ Some x → Takes bytes (key f x.0.0 ++ path x.0.1) x.1 × (IsKey f x.0.0 × IsPath x.0.1)
unfolding place_at
place_takes f bytes x fits e =
    let p = pair_takes (key f) (IsKey f) (key_at f) path IsPath path_at (key_field f) path_field pair_of bytes x fits e in
    subst (λ (v : Place). Takes bytes (key f v.0 ++ path v.1) x.1 × (IsKey f v.0 × IsPath v.1)) p.2 (p.3, (p.4, p.5))

place_again : (f : Format) (v : Place) (rest : List ℕ) → IsKey f v.0 × IsPath v.1 → place_at f ((key f v.0 ++ path v.1) ++ rest) ≡ Some (v, rest)
unfolding place_at
place_again f v rest good = pair_again (key f) (IsKey f) (key_at f) path IsPath path_at (key_field f) path_field pair_of v.0 v.1 rest good.0 good.1

pub place_field : (f : Format) → IsField (λ v. key f v.0 ++ path v.1) (λ v. IsKey f v.0 × IsPath v.1) (place_at f)
place_field f = record { takes = place_takes f; again = place_again f }

-- ---- changes

stamp_field : IsField (to_le_bytes w64) (λ n. n < 2 ^ 64) (number_at w64)
stamp_field = number_field w64 (2 ^ 64) wide64

-- a kind byte before what was taken
kind_before : (kind : ℕ) (bytes text rest : List ℕ) → Takes bytes text rest → Takes (kind ∷ bytes) (kind ∷ text) rest
kind_before kind bytes text rest t = record { parts = ap (λ (xs : List ℕ). kind ∷ xs) t.parts; rest_fits = t.rest_fits }

tail_fits : (b : ℕ) (bytes : List ℕ) → IsBytes (b ∷ bytes) → IsBytes bytes
tail_fits b bytes fits i = fits (suc i)

root_takes : (f : Format) (make : Text → Change) (kind : ℕ) → ((unit : Text) → spelling f (make unit) ≡ kind ∷ key f unit) → ((unit : Text) → IsKey f unit → IsChange f (make unit))
    → (bytes : List ℕ) (x : Change × List ℕ) → IsBytes bytes → root_at f make bytes ≡ Some x → Takes (kind ∷ bytes) (spelling f x.0) x.1 × IsChange f x.0
root_takes f make kind spelled good bytes x fits e =
    let p = bind_some (key_at f bytes) (λ u. Some (make u.0, u.1)) x e in
    let t = (key_field f).takes bytes p.0 fits p.1 in
    let made : Change × List ℕ = (make p.0.0, p.0.1) in
    subst (λ (y : Change × List ℕ). Takes (kind ∷ bytes) (spelling f y.0) y.1 × IsChange f y.0) (some_is made x p.2)
    (subst (λ (s : List ℕ). Takes (kind ∷ bytes) s p.0.1) (sym (spelled p.0.0)) (kind_before kind bytes (key f p.0.0) p.0.1 t.0), good p.0.0 t.1)

entry_takes : (f : Format) (make : Text → List Text → Change) (kind : ℕ) → ((unit : Text) (names : List Text) → spelling f (make unit names) ≡ kind ∷ (key f unit ++ path names)) → ((unit : Text) (names : List Text) → IsKey f unit × IsPath names → IsChange f (make unit names))
    → (bytes : List ℕ) (x : Change × List ℕ) → IsBytes bytes → entry_at f make bytes ≡ Some x → Takes (kind ∷ bytes) (spelling f x.0) x.1 × IsChange f x.0
entry_takes f make kind spelled good bytes x fits e =
    let p = bind_some (place_at f bytes) (λ u. Some (make u.0.0 u.0.1, u.1)) x e in
    let t = (place_field f).takes bytes p.0 fits p.1 in
    let made : Change × List ℕ = (make p.0.0.0 p.0.0.1, p.0.1) in
    subst (λ (y : Change × List ℕ). Takes (kind ∷ bytes) (spelling f y.0) y.1 × IsChange f y.0) (some_is made x p.2)
    (subst (λ (s : List ℕ). Takes (kind ∷ bytes) s p.0.1) (sym (spelled p.0.0.0 p.0.0.1)) (kind_before kind bytes (key f p.0.0.0 ++ path p.0.0.1) p.0.1 t.0), good p.0.0.0 p.0.0.1 t.1)

file_takes : (f : Format) (bytes : List ℕ) (x : Change × List ℕ) → IsBytes bytes → file_at f bytes ≡ Some x → Takes (3 ∷ bytes) (spelling f x.0) x.1 × IsChange f x.0
unfolding file_at spelling IsChange
file_takes f bytes x fits e =
    let p = bind_some (place_at f bytes) (λ u. number_at w64 u.1 >>= λ s. Some (MakeFile u.0.0 u.0.1 s.0, s.1)) x e in
    let t = (place_field f).takes bytes p.0 fits p.1 in
    let q = bind_some (number_at w64 p.0.1) (λ s. Some (MakeFile p.0.0.0 p.0.0.1 s.0, s.1)) x p.2 in
    let u = stamp_field.takes p.0.1 q.0 t.0.rest_fits q.1 in
    let both = Takes-then bytes (key f p.0.0.0 ++ path p.0.0.1) p.0.1 (to_le_bytes w64 q.0.0) q.0.1 t.0 u.0 in
    let same = append_assoc (key f p.0.0.0) (path p.0.0.1) (to_le_bytes w64 q.0.0) in
    let made : Change × List ℕ = (MakeFile p.0.0.0 p.0.0.1 q.0.0, q.0.1) in
    subst (λ (y : Change × List ℕ). Takes (3 ∷ bytes) (spelling f y.0) y.1 × IsChange f y.0) (some_is made x q.2)
    (kind_before 3 bytes _ q.0.1 (subst (λ (s : List ℕ). Takes bytes s q.0.1) same both), (t.1.0, t.1.1, u.1))

content_takes : (f : Format) (bytes : List ℕ) (x : Change × List ℕ) → IsBytes bytes → content_at f bytes ≡ Some x → Takes (5 ∷ bytes) (spelling f x.0) x.1 × IsChange f x.0
unfolding content_at spelling IsChange
content_takes f bytes x fits e =
    let p = bind_some (place_at f bytes) (λ u. number_at w64 u.1 >>= λ s. number_at w64 s.1 >>= λ n. extents_at n.1 >>= λ es. Some (Content u.0.0 u.0.1 s.0 n.0 es.0, es.1)) x e in
    let t = (place_field f).takes bytes p.0 fits p.1 in
    let q = bind_some (number_at w64 p.0.1) (λ s. number_at w64 s.1 >>= λ n. extents_at n.1 >>= λ es. Some (Content p.0.0.0 p.0.0.1 s.0 n.0 es.0, es.1)) x p.2 in
    let u = stamp_field.takes p.0.1 q.0 t.0.rest_fits q.1 in
    let r = bind_some (number_at w64 q.0.1) (λ n. extents_at n.1 >>= λ es. Some (Content p.0.0.0 p.0.0.1 q.0.0 n.0 es.0, es.1)) x q.2 in
    let v = stamp_field.takes q.0.1 r.0 u.0.rest_fits r.1 in
    let o = bind_some (extents_at r.0.1) (λ es. Some (Content p.0.0.0 p.0.0.1 q.0.0 r.0.0 es.0, es.1)) x r.2 in
    let w = extents_field.takes r.0.1 o.0 v.0.rest_fits o.1 in
    let numbers = Takes-then q.0.1 (to_le_bytes w64 r.0.0) r.0.1 (extents o.0.0) o.0.1 v.0 w.0 in
    let after = Takes-then p.0.1 (to_le_bytes w64 q.0.0) q.0.1 (to_le_bytes w64 r.0.0 ++ extents o.0.0) o.0.1 u.0 numbers in
    let both = Takes-then bytes (key f p.0.0.0 ++ path p.0.0.1) p.0.1 (to_le_bytes w64 q.0.0 ++ (to_le_bytes w64 r.0.0 ++ extents o.0.0)) o.0.1 t.0 after in
    let same = append_assoc (key f p.0.0.0) (path p.0.0.1) (to_le_bytes w64 q.0.0 ++ (to_le_bytes w64 r.0.0 ++ extents o.0.0)) in
    let made : Change × List ℕ = (Content p.0.0.0 p.0.0.1 q.0.0 r.0.0 o.0.0, o.0.1) in
    subst (λ (y : Change × List ℕ). Takes (5 ∷ bytes) (spelling f y.0) y.1 × IsChange f y.0) (some_is made x o.2)
    (kind_before 5 bytes _ o.0.1 (subst (λ (s : List ℕ). Takes bytes s o.0.1) same both), (t.1.0, t.1.1, u.1, v.1, w.1))

pub change_takes : (f : Format) (bytes : List ℕ) (x : Change × List ℕ) → IsBytes bytes → change_at f bytes ≡ Some x → Takes bytes (spelling f x.0) x.1 × IsChange f x.0
unfolding change_at spelling IsChange
change_takes f [] x fits e = absurd cc
change_takes f (zero ∷ bytes) x fits e = absurd cc
change_takes f (suc zero ∷ bytes) x fits e = root_takes f (λ u. MakeRoot u) 1 (λ u. refl) (λ u g. g) bytes x (tail_fits _ bytes fits) e
change_takes f (suc (suc zero) ∷ bytes) x fits e = entry_takes f (λ u p. MakeDir u p) 2 (λ u p. refl) (λ u p g. g) bytes x (tail_fits _ bytes fits) e
change_takes f (suc (suc (suc zero)) ∷ bytes) x fits e = file_takes f bytes x (tail_fits _ bytes fits) e
change_takes f (suc (suc (suc (suc zero))) ∷ bytes) x fits e = entry_takes f (λ u p. Remove u p) 4 (λ u p. refl) (λ u p g. g) bytes x (tail_fits _ bytes fits) e
change_takes f (suc (suc (suc (suc (suc zero)))) ∷ bytes) x fits e = content_takes f bytes x (tail_fits _ bytes fits) e
change_takes f (suc (suc (suc (suc (suc (suc zero))))) ∷ bytes) x fits e = root_takes f (λ u. Persist u) 6 (λ u. refl) (λ u g. g) bytes x (tail_fits _ bytes fits) e
change_takes f (suc (suc (suc (suc (suc (suc (suc zero)))))) ∷ bytes) x fits e = root_takes f (λ u. Evict u) 7 (λ u. refl) (λ u g. g) bytes x (tail_fits _ bytes fits) e
change_takes f (suc (suc (suc (suc (suc (suc (suc (suc k))))))) ∷ bytes) x fits e = absurd cc

root_again : (f : Format) (make : Text → Change) (unit : Text) (rest : List ℕ) → IsKey f unit → root_at f make (key f unit ++ rest) ≡ Some (make unit, rest)
root_again f make unit rest good =
    let after : Text × List ℕ → Option (Change × List ℕ) = λ u. Some (make u.0, u.1) in
    ap (λ (r : Option (Text × List ℕ)). r >>= after) ((key_field f).again unit rest good)

entry_again : (f : Format) (make : Text → List Text → Change) (v : Place) (rest : List ℕ) → IsKey f v.0 × IsPath v.1 → entry_at f make ((key f v.0 ++ path v.1) ++ rest) ≡ Some (make v.0 v.1, rest)
entry_again f make v rest good =
    let after : Place × List ℕ → Option (Change × List ℕ) = λ u. Some (make u.0.0 u.0.1, u.1) in
    ap (λ (r : Option (Place × List ℕ)). r >>= after) ((place_field f).again v rest good)

file_again : (f : Format) (v : Place) (stamp : ℕ) (rest : List ℕ) → IsKey f v.0 × IsPath v.1 → stamp < 2 ^ 64 → file_at f ((key f v.0 ++ (path v.1 ++ to_le_bytes w64 stamp)) ++ rest) ≡ Some (MakeFile v.0 v.1 stamp, rest)
unfolding file_at
file_again f v stamp rest good fits =
    let after : Place × List ℕ → Option (Change × List ℕ) = λ u. number_at w64 u.1 >>= λ s. Some (MakeFile u.0.0 u.0.1 s.0, s.1) in
    let last : ℕ × List ℕ → Option (Change × List ℕ) = λ s. Some (MakeFile v.0 v.1 s.0, s.1) in
    let same : (key f v.0 ++ (path v.1 ++ to_le_bytes w64 stamp)) ++ rest ≡ (key f v.0 ++ path v.1) ++ (to_le_bytes w64 stamp ++ rest) =
    ap (λ (xs : List ℕ). xs ++ rest) (sym (append_assoc (key f v.0) (path v.1) (to_le_bytes w64 stamp))) ∙ append_assoc (key f v.0 ++ path v.1) (to_le_bytes w64 stamp) rest in
    ap (λ (r : Option (Place × List ℕ)). r >>= after) (ap (place_at f) same ∙ (place_field f).again v (to_le_bytes w64 stamp ++ rest) good)
    ∙ ap (λ (r : Option (ℕ × List ℕ)). r >>= last) (stamp_field.again stamp rest fits)

regrouped : (k p a b c rest : List ℕ) → (k ++ (p ++ (a ++ (b ++ c)))) ++ rest ≡ (k ++ p) ++ (a ++ (b ++ (c ++ rest)))
regrouped k p a b c rest = simp append_assoc

content_again : (f : Format) (v : Place) (stamp size : ℕ) (es : List Extent) (rest : List ℕ) → IsKey f v.0 × IsPath v.1 → stamp < 2 ^ 64 → size < 2 ^ 64 → AreExtents es
    → content_at f ((key f v.0 ++ (path v.1 ++ (to_le_bytes w64 stamp ++ (to_le_bytes w64 size ++ extents es)))) ++ rest) ≡ Some (Content v.0 v.1 stamp size es, rest)
unfolding content_at
content_again f v stamp size es rest good fits within all =
    let after : Place × List ℕ → Option (Change × List ℕ) = λ u. number_at w64 u.1 >>= λ s. number_at w64 s.1 >>= λ n. extents_at n.1 >>= λ x. Some (Content u.0.0 u.0.1 s.0 n.0 x.0, x.1) in
    let later : ℕ × List ℕ → Option (Change × List ℕ) = λ s. number_at w64 s.1 >>= λ n. extents_at n.1 >>= λ x. Some (Content v.0 v.1 s.0 n.0 x.0, x.1) in
    let third : ℕ × List ℕ → Option (Change × List ℕ) = λ n. extents_at n.1 >>= λ x. Some (Content v.0 v.1 stamp n.0 x.0, x.1) in
    let last : List Extent × List ℕ → Option (Change × List ℕ) = λ x. Some (Content v.0 v.1 stamp size x.0, x.1) in
    let k = key f v.0 in
    let p = path v.1 in
    let a = to_le_bytes w64 stamp in
    let b = to_le_bytes w64 size in
    let c = extents es in
    let same : (k ++ (p ++ (a ++ (b ++ c)))) ++ rest ≡ (k ++ p) ++ (a ++ (b ++ (c ++ rest))) = regrouped k p a b c rest in
    ap (λ (r : Option (Place × List ℕ)). r >>= after) (ap (place_at f) same ∙ (place_field f).again v (a ++ (b ++ (c ++ rest))) good)
    ∙ ap (λ (r : Option (ℕ × List ℕ)). r >>= later) (stamp_field.again stamp (b ++ (c ++ rest)) fits)
    ∙ ap (λ (r : Option (ℕ × List ℕ)). r >>= third) (stamp_field.again size (c ++ rest) within)
    ∙ ap (λ (r : Option (List Extent × List ℕ)). r >>= last) (extents_field.again es rest all)

pub change_again : (f : Format) (c : Change) (rest : List ℕ) → IsChange f c → change_at f (spelling f c ++ rest) ≡ Some (c, rest)
unfolding change_at spelling IsChange
change_again f (MakeRoot u) rest good = root_again f (λ t. MakeRoot t) u rest good
change_again f (MakeDir u p) rest good = entry_again f (λ t q. MakeDir t q) (u, p) rest good
change_again f (MakeFile u p stamp) rest good = file_again f (u, p) stamp rest (good.0, good.1) good.2
change_again f (Remove u p) rest good = entry_again f (λ t q. Remove t q) (u, p) rest good
change_again f (Content u p stamp size es) rest good = content_again f (u, p) stamp size es rest (good.0, good.1) good.2 good.3 good.4
change_again f (Persist u) rest good = root_again f (λ t. Persist t) u rest good
change_again f (Evict u) rest good = root_again f (λ t. Evict t) u rest good

-- ---- a place in bytes

pub one_change : (f : Format) (a b : Change) (x y : List ℕ) → IsChange f a → IsChange f b → spelling f a ++ x ≡ spelling f b ++ y → (a ≡ b) × (x ≡ y)
one_change f a b x y good_a good_b e =
    let p : Change × List ℕ = (a, x) in
    let q : Change × List ℕ = (b, y) in
    let same : p ≡ q = some_is p q (sym (change_again f a x good_a) ∙ ap (change_at f) e ∙ change_again f b y good_b) in
    (ap (λ (r : Change × List ℕ). r.0) same, ap (λ (r : Change × List ℕ). r.1) same)

pub begins : (f : Format) (bytes : List ℕ) (at : ℕ) (x : Change × List ℕ) → IsBytes bytes → change_at f (drop at bytes) ≡ Some x → BeginsAt f bytes at x.0 × (length (drop at bytes) ≡ length (spelling f x.0) + length x.1)
begins f bytes at x fits e =
    let t = change_takes f (drop at bytes) x (IsBytes-drop at bytes fits) e in
    ((t.1, (x.1, t.0.parts)), ap length t.0.parts ∙ length-append (spelling f x.0) x.1)

some_none : (p : Change × List ℕ) → done p ≡ None → ⊥
some_none p e = cc

pub begins_not : (f : Format) (bytes : List ℕ) (at : ℕ) → change_at f (drop at bytes) ≡ None → (change : Change) → BeginsAt f bytes at change → ⊥
begins_not f bytes at e change b =
    let p : Change × List ℕ = (change, b.1.0) in
    some_none p (sym (change_again f change b.1.0 b.0) ∙ sym (ap (change_at f) b.1.1) ∙ e)

pub past_end : (f : Format) (bytes : List ℕ) (at : ℕ) → length bytes ≤ at → (change : Change) → BeginsAt f bytes at change → ⊥
unfolding change_at
past_end f bytes at le = begins_not f bytes at (ap (change_at f) (drop_all at bytes le))

-- ---- what is behind a change

spelling_some : (f : Format) (c : Change) → 0 < length (spelling f c)
unfolding spelling
spelling_some f (MakeRoot u) = omega arith
spelling_some f (MakeDir u p) = omega arith
spelling_some f (MakeFile u p stamp) = omega arith
spelling_some f (Remove u p) = omega arith
spelling_some f (Content u p stamp size es) = omega arith
spelling_some f (Persist u) = omega arith
spelling_some f (Evict u) = omega arith

-- a change has a byte at least, and what is behind it is what is left
pub goes_behind : (f : Format) (bytes : List ℕ) (at : ℕ) (x : Change × List ℕ) → IsBytes bytes → at ≤ length bytes → change_at f (drop at bytes) ≡ Some x
    → (0 < length (drop at bytes) - length x.1) × (length (drop at bytes) - length x.1 ≤ length (drop at bytes)) × (drop (at + (length (drop at bytes) - length x.1)) bytes ≡ x.1)
goes_behind f bytes at x fits le e =
    let t = change_takes f (drop at bytes) x (IsBytes-drop at bytes fits) e in
    let sum : length (drop at bytes) ≡ length (spelling f x.0) + length x.1 = ap length t.0.parts ∙ length-append (spelling f x.0) x.1 in
    let taken : length (drop at bytes) - length x.1 ≡ length (spelling f x.0) = omega arith in
    let some = spelling_some f x.0 in
    let behind : drop (at + length (spelling f x.0)) bytes ≡ x.1 =
    sym (drop-drop (length (spelling f x.0)) at bytes) ∙ ap (drop (length (spelling f x.0))) t.0.parts ∙ drop-append_seam (spelling f x.0) x.1 in
    (omega arith, omega arith, ap (λ (n : ℕ). drop (at + n) bytes) taken ∙ behind)

-- past the end no change is read
pub nothing_past : (f : Format) (bytes : List ℕ) (at : ℕ) → length bytes ≤ at → change_at f (drop at bytes) ≡ None
unfolding change_at
nothing_past f bytes at le = ap (change_at f) (drop_all at bytes le)
