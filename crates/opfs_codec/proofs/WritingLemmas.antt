-- How long units, paths and spellings are.
use Rattle.std.proofs.Common.{◌≡◌, ◌==◌, ◌||◌, ◌+◌, ◌*◌, ◌<◌, ◌≤◌, ℕ, Bool, true, false, cond, not, List, [], ◌∷◌, ◌++◌, length, drop, sum_by, refl, sym, ap, ◌∙◌, get_or, take, arith}
use Rattle.std.specs.Int.{w8, w16, w32, w64, to_le_bytes}
use Rattle.std.specs.List.{flat_map, list_any, AllByRecursion}
use Rattle.std.proofs.lemmas.List.{length-append, take_more}
use Rattle.std.proofs.lemmas.List.Sums.{take_while-cons, sum_by-cons, sum_by_push, sum_by-take-le}
use Rattle.opfs_base.specs.Texts.{Text}
use Rattle.opfs_base.specs.Units.{hash_sign, default_bucket, origin_of, bucket_of}
use Rattle.opfs_base.proofs.UnitLemmas.{origin_of-plain}
use Rattle.opfs_base.specs.declared.extents.Extent.{Extent}
use Rattle.opfs_codec.specs.declared.change.Change.{Change}
use Rattle.opfs_codec.specs.declared.change.Change.TheVariants.{MakeRoot, MakeDir, MakeFile, Remove, Content, Persist, Evict}
use Rattle.opfs_codec.specs.declared.change.Format.TheVariants.{New}
use Rattle.opfs_codec.proofs.FieldLemmas.{wide8, wide16, wide32, wide64}
use Rattle.opfs_codec.specs.Charges.{unit_bytes, path_bytes, charge, spelled}
use Rattle.opfs_codec.specs.Spelling.{text, key, path, extent, extents, spelling, IsName, IsChange}
use Rattle.opfs_codec.specs.Fields.{NameFits, Fits, HasFewExtents}

-- ---- buckets

abbrev is_sign : ℕ → Bool
is_sign byte = byte == hash_sign

abbrev has_sign : Text → Bool
has_sign text = list_any is_sign text

-- a text with a sign is longer than its origin
origin_shorter : (text : Text) → has_sign text ≡ true → length (origin_of text) < length text
origin_shorter [] h = absurd cc
origin_shorter (x ∷ xs) h =
    let P = λ (t : Bool). (t || has_sign xs) ≡ true → length (cond (not t) (x ∷ origin_of xs) []) < length (x ∷ xs) in
    let both : length (cond (not (is_sign x)) (x ∷ origin_of xs) []) < length (x ∷ xs) = elim (is_sign x) as P [ true ↦ λ h. omega arith | false ↦ λ h. omega (arith, origin_shorter xs h) ] h in
    rw take_while-cons both

abbrev bucket_by : Bool → Text → Text
bucket_by test unit = elim test [ true ↦ drop (length (origin_of unit) + 1) unit | false ↦ default_bucket ]

behind_by : (test : Bool) (unit : Text) → has_sign unit ≡ test → length (origin_of unit) < length unit → bucket_by test unit ≡ drop (length (origin_of unit) + 1) unit
behind_by true unit told lt = refl
behind_by false unit told lt = absurd (omega (arith, lt, ap length (origin_of-plain unit told)))

pub bucket_behind : (unit : Text) → length (origin_of unit) < length unit → bucket_of unit ≡ drop (length (origin_of unit) + 1) unit
bucket_behind unit lt = behind_by (has_sign unit) unit refl lt

none_by : (test : Bool) (unit : Text) → has_sign unit ≡ test → length unit ≤ length (origin_of unit) → bucket_by test unit ≡ default_bucket
none_by true unit told le = absurd (omega (arith, le, origin_shorter unit told))
none_by false unit told le = refl

pub bucket_none : (unit : Text) → length unit ≤ length (origin_of unit) → bucket_of unit ≡ default_bucket
bucket_none unit le = none_by (has_sign unit) unit refl le

-- ---- names

abbrev pub name_bytes : Text → ℕ
name_bytes name = 1 + length name

pub names_below : (place : List Text) → AllByRecursion NameFits place → sum_by name_bytes place ≤ 256 * length place
names_below [] h = omega arith
names_below (x ∷ xs) h = omega (arith, h.0, names_below xs h.1, sum_by-cons name_bytes x xs)

-- ---- one more item

one_more : {A : Type 0} (xs : List A) (i : ℕ) (x : A) → i < length xs → x ≡ get_or xs i x → take (i + 1) xs ≡ take i xs ++ x ∷ []
one_more xs i x lt e = take_more xs i x lt ∙ ap (λ y. take i xs ++ y ∷ []) (sym e)

pub sum_more : (xs : List Text) (i : ℕ) (x : Text) → i < length xs → x ≡ get_or xs i x → (sum_by name_bytes (take (i + 1) xs) ≡ sum_by name_bytes (take i xs) + name_bytes x) × (sum_by name_bytes (take i xs) + name_bytes x ≤ sum_by name_bytes xs)
sum_more xs i x lt e =
    let more : sum_by name_bytes (take (i + 1) xs) ≡ sum_by name_bytes (take i xs) + name_bytes x = ap (sum_by name_bytes) (one_more xs i x lt e) ∙ sum_by_push name_bytes (take i xs) x in
    (more, omega (arith, more, sum_by-take-le name_bytes xs (i + 1)))

-- ---- the charge

pub spelled_below : (change : Change) → HasFewExtents change → spelled change ≤ charge change
unfolding HasFewExtents spelled charge
spelled_below (MakeRoot u) few = omega arith
spelled_below (MakeDir u p) few = omega arith
spelled_below (MakeFile u p stamp) few = omega arith
spelled_below (Remove u p) few = omega arith
spelled_below (Content u p stamp size es) few = omega (arith, few)
spelled_below (Persist u) few = omega arith
spelled_below (Evict u) few = omega arith

-- ---- how long a spelling is

names_len : (place : List Text) → length (flat_map (text w8) place) ≡ sum_by name_bytes place
names_len [] = refl
names_len (x ∷ xs) =
    omega (arith, length-append (text w8 x) (flat_map (text w8) xs), length-append (to_le_bytes w8 (length x)) x, wide8.len (length x), names_len xs, sum_by-cons name_bytes x xs)

extent_len : (e : Extent) → length (extent e) ≡ 8
extent_len e = omega (arith, length-append (to_le_bytes w32 e.start) (to_le_bytes w32 e.count), wide32.len e.start, wide32.len e.count)

extents_len : (es : List Extent) → length (flat_map extent es) ≡ 8 * length es
extents_len [] = refl
extents_len (x ∷ xs) = omega (arith, length-append (extent x) (flat_map extent xs), extent_len x, extents_len xs)

key_len : (unit : Text) → length (key New unit) ≡ 2 + unit_bytes unit
key_len unit =
    let o = origin_of unit in
    let b = bucket_of unit in
    omega (arith, length-append (text w16 o) (text w8 b), length-append (to_le_bytes w16 (length o)) o, wide16.len (length o), length-append (to_le_bytes w8 (length b)) b, wide8.len (length b))

path_len : (place : List Text) → length (path place) ≡ path_bytes place
path_len place = omega (arith, length-append (to_le_bytes w8 (length place)) (flat_map (text w8) place), wide8.len (length place), names_len place)

all_len : (es : List Extent) → length (extents es) ≡ 4 + 8 * length es
all_len es = omega (arith, length-append (to_le_bytes w32 (length es)) (flat_map extent es), wide32.len (length es), extents_len es)

-- The bytes of a spelling are its fields' bytes.
pub length_spelling : (change : Change) → length (spelling New change) ≡ spelled change
unfolding spelling spelled
length_spelling (MakeRoot u) = omega (arith, key_len u)
length_spelling (MakeDir u p) = omega (arith, key_len u, path_len p, length-append (key New u) (path p))
length_spelling (MakeFile u p stamp) =
    let a = to_le_bytes w64 stamp in
    omega (arith, key_len u, path_len p, wide64.len stamp, length-append (key New u) (path p ++ a), length-append (path p) a)
length_spelling (Remove u p) = omega (arith, key_len u, path_len p, length-append (key New u) (path p))
length_spelling (Content u p stamp size es) =
    let a = to_le_bytes w64 stamp in
    let b = to_le_bytes w64 size in
    let e = extents es in
    omega (arith, key_len u, path_len p, wide64.len stamp, wide64.len size, all_len es, length-append (key New u) (path p ++ (a ++ (b ++ e))), length-append (path p) (a ++ (b ++ e)), length-append a (b ++ e), length-append b e)
length_spelling (Persist u) = omega (arith, key_len u)
length_spelling (Evict u) = omega (arith, key_len u)

-- A spelling is no longer than what the change adds to the charge.
pub spelling_below : (change : Change) → HasFewExtents change → length (spelling New change) ≤ charge change
spelling_below change few = omega (arith, length_spelling change, spelled_below change few)

-- ---- what can be read fits

names_fit : (place : List Text) → AllByRecursion IsName place → AllByRecursion NameFits place
names_fit [] good = tt
names_fit (x ∷ xs) good = (good.0.1, names_fit xs good.1)

pub change_fits : (change : Change) → IsChange New change → Fits change
unfolding IsChange Fits
change_fits (MakeRoot u) good = (good.0.1, good.1.1)
change_fits (MakeDir u p) good = ((good.0.0.1, good.0.1.1), (good.1.0, names_fit p good.1.1))
change_fits (MakeFile u p stamp) good = ((good.0.0.1, good.0.1.1), (good.1.0, names_fit p good.1.1))
change_fits (Remove u p) good = ((good.0.0.1, good.0.1.1), (good.1.0, names_fit p good.1.1))
change_fits (Content u p stamp size es) good = ((good.0.0.1, good.0.1.1), (good.1.0, names_fit p good.1.1), good.4.0)
change_fits (Persist u) good = (good.0.1, good.1.1)
change_fits (Evict u) good = (good.0.1, good.1.1)
