-- The bytes of a change. Numbers have their lowest byte first. This project's own.
--
-- A change is a kind byte and its fields. A text is its length and its UTF-8. In format 1 a key field is the text of the
-- unit. In format 2 it is the key of the unit's origin, and then the bucket's name with a length byte, `default` written
-- out. A path is the number of names in a byte, and each name with a length byte. A stamp and a file's length take 8
-- bytes each. Extents are their number in 4 bytes, and for each one its first block and the number of blocks.
use Rattle.std.specs.Prelude.{◌≡◌, ℕ, ◌<◌, ◌^◌, Bool, true, ◌&&◌, nat_le, List, ◌∷◌, ◌++◌, length, drop}
use Rattle.std.specs.List.{flat_map, AllByRecursion}
use Rattle.std.specs.Int.{Width, w8, w16, w32, w64, to_le_bytes}
use Rattle.std.specs.Str.{is_utf8}
use Rattle.opfs_base.specs.Texts.{Text}
use Rattle.opfs_base.specs.Names.{is_valid_name}
use Rattle.opfs_base.specs.Keys.{is_origin}
use Rattle.opfs_base.specs.Units.{is_bucket_name, unit_of, origin_of, bucket_of}
use Rattle.opfs_base.specs.declared.extents.Extent.{Extent}
use Rattle.opfs_codec.specs.declared.change.Format.{Format}
use Rattle.opfs_codec.specs.declared.change.Format.TheVariants.{Old, New}
use Rattle.opfs_codec.specs.declared.change.Change.{Change}
use Rattle.opfs_codec.specs.declared.change.Change.TheVariants.{MakeRoot, MakeDir, MakeFile, Remove, Content, Persist, Evict}

-- A text behind its length.
abbrev pub text : Width → Text → List ℕ
text w bytes = to_le_bytes w (length bytes) ++ bytes

abbrev pub key : Format → Text → List ℕ
key Old unit = text w16 unit
key New unit = text w16 (origin_of unit) ++ text w8 (bucket_of unit)

abbrev pub path : List Text → List ℕ
path names = to_le_bytes w8 (length names) ++ flat_map (text w8) names

abbrev pub extent : Extent → List ℕ
extent e = to_le_bytes w32 e.start ++ to_le_bytes w32 e.count

abbrev pub extents : List Extent → List ℕ
extents es = to_le_bytes w32 (length es) ++ flat_map extent es

-- The one spelling of a change.
unfoldable pub spelling : Format → Change → List ℕ
spelling f (MakeRoot unit) = 1 ∷ key f unit
spelling f (MakeDir unit place) = 2 ∷ (key f unit ++ path place)
spelling f (MakeFile unit place stamp) = 3 ∷ (key f unit ++ (path place ++ to_le_bytes w64 stamp))
spelling f (Remove unit place) = 4 ∷ (key f unit ++ path place)
spelling f (Content unit place stamp size es) = 5 ∷ (key f unit ++ (path place ++ (to_le_bytes w64 stamp ++ (to_le_bytes w64 size ++ extents es))))
spelling f (Persist unit) = 6 ∷ key f unit
spelling f (Evict unit) = 7 ∷ key f unit

-- ---- what has a spelling that is read

-- A text of UTF-8 that passes a test.
abbrev pub IsText : (Text → Bool) → Text → Type 0
IsText test bytes = (is_utf8 bytes ≡ true) × (test bytes ≡ true)

-- A key's text has 1 to 255 bytes; in format 2 it is an origin's, without `#`.
abbrev pub is_key_text : Text → Bool
is_key_text bytes = nat_le 1 (length bytes) && nat_le (length bytes) 255

abbrev pub is_origin_text : Text → Bool
is_origin_text bytes = is_key_text bytes && is_origin bytes

-- A unit that a key field can name.
abbrev pub IsKey : Format → Text → Type 0
IsKey Old unit = IsText is_key_text unit × (length unit < 2 ^ 16)
IsKey New unit =
    (IsText is_origin_text (origin_of unit) × (length (origin_of unit) < 2 ^ 16))
    × (IsText is_bucket_name (bucket_of unit) × (length (bucket_of unit) < 2 ^ 8))
    × (unit_of (origin_of unit) (bucket_of unit) ≡ unit)

abbrev pub IsName : Text → Type 0
IsName name = IsText is_valid_name name × (length name < 2 ^ 8)

abbrev pub IsPath : List Text → Type 0
IsPath place = (length place < 2 ^ 8) × AllByRecursion IsName place

abbrev pub IsExtent : Extent → Type 0
IsExtent e = (e.start < 2 ^ 32) × (e.count < 2 ^ 32)

abbrev pub AreExtents : List Extent → Type 0
AreExtents es = (length es < 2 ^ 32) × AllByRecursion IsExtent es

-- The changes that can be read: texts, numbers and lists fit their fields, and names are valid file names.
unfoldable pub IsChange : Format → Change → Type 0
IsChange f (MakeRoot unit) = IsKey f unit
IsChange f (MakeDir unit place) = IsKey f unit × IsPath place
IsChange f (MakeFile unit place stamp) = IsKey f unit × IsPath place × (stamp < 2 ^ 64)
IsChange f (Remove unit place) = IsKey f unit × IsPath place
IsChange f (Content unit place stamp size es) = IsKey f unit × IsPath place × (stamp < 2 ^ 64) × (size < 2 ^ 64) × AreExtents es
IsChange f (Persist unit) = IsKey f unit
IsChange f (Evict unit) = IsKey f unit

-- A change's spelling begins at a place.
abbrev pub BeginsAt : Format → List ℕ → ℕ → Change → Type 0
BeginsAt f bytes at change = IsChange f change × ((rest : List ℕ) × (drop at bytes ≡ spelling f change ++ rest))
