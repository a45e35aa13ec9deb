-- A map from keys to values, as its entries in the order of the keys. This project's own.
use Rattle.std.specs.Prelude.{Bool, ◌&&◌, List, Option, filter, nat_eq}
use Rattle.std.specs.BTreeMap.{insert_entry, is_at}
use Rattle.std.specs.Cmp.Lexicographic.{slice_cmp}
use Rattle.std.specs.List.{starts_with}
use Rattle.std.specs.Map.{lookup, remove_entry}
use Rattle.std.specs.Ordering.{is_le, is_lt, nat_cmp}
use Rattle.std.specs.declared.cmp.Ordering.{Ordering}
use Rattle.opfs_base.specs.Texts.{Text}

-- The order of keys.
abbrev pub key_cmp : Text → Text → Ordering
key_cmp = slice_cmp nat_cmp

-- Whether a key is this one.
abbrev pub is_key : Text → Text → Bool
is_key key = is_at (key_cmp key)

abbrev pub Map : Type 0
Map = List (Text × Text)

-- What a key has; None where it is not there.
abbrev pub found : {X : Type 0} → List (Text × X) → Text → Option X
found m key = lookup (is_key key) m

-- The map with this at a key, whatever the key had.
abbrev pub with_key : {X : Type 0} → List (Text × X) → Text → X → List (Text × X)
with_key m key x = insert_entry key_cmp m key x

-- The map without a key.
abbrev pub without_key : {X : Type 0} → List (Text × X) → Text → List (Text × X)
without_key m key = remove_entry (is_key key) m

-- Of keys those from one on; those from one on and below another; those that begin with bytes.
abbrev pub keys_from : Text → List Text → List Text
keys_from from keys = filter (λ (k : Text). is_le (key_cmp from k)) keys

abbrev pub keys_between : Text → Text → List Text → List Text
keys_between from to keys = filter (λ (k : Text). is_le (key_cmp from k) && is_lt (key_cmp k to)) keys

abbrev pub keys_with : Text → List Text → List Text
keys_with front keys = filter (λ (k : Text). starts_with nat_eq k front) keys
