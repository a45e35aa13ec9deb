-- Units: the buckets of an origin. Named buckets are this project's own; an origin's key is that of the Storage
-- Standard (obtain a storage key).
use Rattle.std.specs.Prelude.{ℕ, ◌+◌, ◌==◌, nat_le, Bool, true, false, not, ◌&&◌, ◌||◌, [], ◌∷◌, ◌++◌, length, take_while, drop, codes}
use Rattle.std.specs.List.{list_any, list_all}
use Rattle.opfs_base.specs.Texts.{Text, same_text}

-- The byte of `#`, which stands between an origin's key and a bucket's name.
abbrev pub hash_sign : ℕ
hash_sign = 35

-- The name of the bucket that an origin has without asking.
abbrev pub default_bucket : Text
default_bucket = codes "default"

-- Whether a byte is `a` to `z` or `0` to `9`.
abbrev pub is_letter_or_digit : ℕ → Bool
is_letter_or_digit byte = (nat_le 97 byte && nat_le byte 122) || (nat_le 48 byte && nat_le byte 57)

-- Whether a byte may stand in a bucket's name: also `-` and `_`.
abbrev pub is_bucket_byte : ℕ → Bool
is_bucket_byte byte = is_letter_or_digit byte || byte == 45 || byte == 95

-- Whether a text is a bucket's name: 1 to 64 such bytes, the first a letter or digit.
abbrev pub is_bucket_name : Text → Bool
is_bucket_name [] = false
is_bucket_name (first ∷ more) = is_letter_or_digit first && list_all is_bucket_byte more && nat_le (length more) 63

-- The unit of a bucket of an origin: the origin's key alone for the default bucket.
abbrev pub unit_of : Text → Text → Text
unit_of origin bucket = elim (same_text bucket default_bucket) [ true ↦ origin | false ↦ origin ++ hash_sign ∷ bucket ]

-- The key of a unit's origin: what stands before the first `#`.
abbrev pub origin_of : Text → Text
origin_of unit = take_while (λ byte. not (byte == hash_sign)) unit

-- The name of a unit's bucket: what stands behind the first `#`, or the default bucket's where there is none.
abbrev pub bucket_of : Text → Text
bucket_of unit =
    elim (list_any (λ byte. byte == hash_sign) unit) [ true ↦ drop (length (origin_of unit) + 1) unit | false ↦ default_bucket ]

-- Whether two units are of one origin.
abbrev pub same_origin : Text → Text → Bool
same_origin a b = same_text (origin_of a) (origin_of b)
