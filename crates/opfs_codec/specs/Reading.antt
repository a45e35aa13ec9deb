-- Reading a change from the left. None: no change's spelling begins there.
use Rattle.std.specs.Prelude.{◌≡◌, ℕ, zero, suc, Bool, List, [], ◌∷◌, length, take, drop, Option, Some, None, Result, Ok, Err, nat_lt, if◌then◌else◌}
use Rattle.std.specs.Int.{Width, w8, w16, w32, w64, byte_len, from_le_bytes}
use Rattle.opfs_base.specs.Texts.{Text}
use Rattle.opfs_base.specs.Units.{unit_of}
use Rattle.opfs_base.specs.declared.extents.Extent.{Extent}
use Rattle.opfs_codec.specs.declared.change.Format.{Format}
use Rattle.opfs_codec.specs.declared.change.Format.TheVariants.{Old, New}
use Rattle.opfs_codec.specs.declared.change.Change.{Change}
use Rattle.opfs_codec.specs.declared.change.Change.TheVariants.{MakeRoot, MakeDir, MakeFile, Remove, Content, Persist, Evict}
use Rattle.opfs_codec.specs.declared.miss.Miss.{Miss}
use Rattle.opfs_codec.specs.declared.miss.Miss.TheVariants as miss
use Rattle.std.specs.Str.{is_utf8}
use Rattle.opfs_base.specs.Names.{is_valid_name}
use Rattle.opfs_base.specs.Units.{is_bucket_name}
use Rattle.opfs_codec.specs.Spelling.{is_key_text, is_origin_text}

infixl 10 ◌>>=◌
abbrev pub ◌>>=◌ : {A B : Type 0} → Option A → (A → Option B) → Option B
(Some x) >>= f = f x
None >>= f = None

-- What a function returned, seen by view, is what reading gives, unless memory ran out.
abbrev pub Fails : {Y : Type 0} → Miss → Option Y → Type 0
Fails miss.Memory read = Unit {0}
Fails miss.Spelling read = read ≡ None

abbrev pub Gives : {X Y : Type 0} → (X → Y) → Result X Miss → Option Y → Type 0
Gives view (Ok x) read = read ≡ Some (view x)
Gives view (Err e) read = Fails e read

-- A field is a value and the bytes after it.
abbrev pub number_at : Width → List ℕ → Option (ℕ × List ℕ)
number_at w bytes = if nat_lt (length bytes) (byte_len w) then None else Some (from_le_bytes w (take (byte_len w) bytes), drop (byte_len w) bytes)

unfoldable pub bytes_at : Width → List ℕ → Option (Text × List ℕ)
bytes_at w bytes = do
  n ← number_at w bytes
  if nat_lt (length n.1) n.0 then None else Some (take n.0 n.1, drop n.0 n.1)

unfoldable pub text_at : Width → (Text → Bool) → List ℕ → Option (Text × List ℕ)
text_at w test bytes = do
  t ← bytes_at w bytes
  if is_utf8 t.0 then (if test t.0 then Some t else None) else None

unfoldable pub unit_at : List ℕ → Option (Text × List ℕ)
unit_at bytes = do
  o ← text_at w16 is_origin_text bytes
  b ← text_at w8 is_bucket_name o.1
  Some (unit_of o.0 b.0, b.1)

unfoldable pub key_at : Format → List ℕ → Option (Text × List ℕ)
key_at Old bytes = text_at w16 is_key_text bytes
key_at New bytes = unit_at bytes

-- So many items, one after another.
unfoldable pub items_at : {A : Type 0} → (List ℕ → Option (A × List ℕ)) → ℕ → List ℕ → Option (List A × List ℕ)
items_at at zero bytes = Some ([], bytes)
items_at at (suc n) bytes = do
  first ← at bytes
  others ← items_at at n first.1
  Some (first.0 ∷ others.0, others.1)

unfoldable pub name_at : List ℕ → Option (Text × List ℕ)
name_at bytes = text_at w8 is_valid_name bytes

unfoldable pub path_at : List ℕ → Option (List Text × List ℕ)
path_at bytes = do
  n ← number_at w8 bytes
  items_at name_at n.0 n.1

unfoldable pub extent_at : List ℕ → Option (Extent × List ℕ)
extent_at bytes = do
  start ← number_at w32 bytes
  count ← number_at w32 start.1
  Some (record { start = start.0; count = count.0 }, count.1)

unfoldable pub extents_at : List ℕ → Option (List Extent × List ℕ)
extents_at bytes = do
  n ← number_at w32 bytes
  items_at extent_at n.0 n.1

-- A unit and a path.
unfoldable pub place_at : Format → List ℕ → Option ((Text × List Text) × List ℕ)
place_at f bytes = do
  unit ← key_at f bytes
  path ← path_at unit.1
  Some ((unit.0, path.0), path.1)

abbrev pub root_at : Format → (Text → Change) → List ℕ → Option (Change × List ℕ)
root_at f make bytes = do
  unit ← key_at f bytes
  Some (make unit.0, unit.1)

abbrev pub entry_at : Format → (Text → List Text → Change) → List ℕ → Option (Change × List ℕ)
entry_at f make bytes = do
  place ← place_at f bytes
  Some (make place.0.0 place.0.1, place.1)

unfoldable pub file_at : Format → List ℕ → Option (Change × List ℕ)
file_at f bytes = do
  place ← place_at f bytes
  stamp ← number_at w64 place.1
  Some (MakeFile place.0.0 place.0.1 stamp.0, stamp.1)

unfoldable pub content_at : Format → List ℕ → Option (Change × List ℕ)
content_at f bytes = do
  place ← place_at f bytes
  stamp ← number_at w64 place.1
  size ← number_at w64 stamp.1
  es ← extents_at size.1
  Some (Content place.0.0 place.0.1 stamp.0 size.0 es.0, es.1)

unfoldable pub change_at : Format → List ℕ → Option (Change × List ℕ)
change_at f [] = None
change_at f (zero ∷ rest) = None
change_at f (suc zero ∷ rest) = root_at f MakeRoot rest
change_at f (suc (suc zero) ∷ rest) = entry_at f MakeDir rest
change_at f (suc (suc (suc zero)) ∷ rest) = file_at f rest
change_at f (suc (suc (suc (suc zero))) ∷ rest) = entry_at f Remove rest
change_at f (suc (suc (suc (suc (suc zero)))) ∷ rest) = content_at f rest
change_at f (suc (suc (suc (suc (suc (suc zero))))) ∷ rest) = root_at f Persist rest
change_at f (suc (suc (suc (suc (suc (suc (suc zero)))))) ∷ rest) = root_at f Evict rest
change_at f (suc (suc (suc (suc (suc (suc (suc (suc k))))))) ∷ rest) = None
