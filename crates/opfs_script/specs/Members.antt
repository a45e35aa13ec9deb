-- Members of a JSON object, each of its form: this project's own. None says that a member is missing or of another
-- form.
use Rattle.std.specs.Prelude.{ℕ, ◌&&◌, nat_le, Bool, true, false, List, [], ◌∷◌, Option, Some, None, option_map, option_and_then, replicate, codes, Ok, Err}
use Rattle.std.specs.List.{list_any}
use Rattle.hex.specs.Hex.{decode_of}
use Rattle.serde_json.specs.Data as json
use Rattle.serde_json.specs.Find.{get, as_str, as_bool, as_number, as_u64, as_array, as_object}
use Rattle.opfs_base.specs.Texts.{Text, same_text}

-- One step after another, each where the one before found something.
infixl 10 ◌>>=◌
abbrev pub ◌>>=◌ : {A B : Type 0} → Option A → (A → Option B) → Option B
(Some x) >>= next = next x
None >>= next = None

-- Whether every member's name is among these.
abbrev pub all_among : List Text → json.Members → Bool
all_among names json.no_members = true
all_among names (json.member name value members) = list_any (same_text name) names && all_among names members

-- Whether a value is an object whose members' names are all among these.
abbrev pub has_only : List Text → json.Data → Bool
has_only names value = elim (as_object value) [ None ↦ false | Some members ↦ all_among names members ]

-- A text.
abbrev pub text : Text → json.Data → Option Text
text name value = option_and_then as_str (get name value)

-- A text, or another where there is no such member.
abbrev pub text_or : Text → Text → json.Data → Option Text
text_or default name value = elim (get name value) [ None ↦ Some default | Some member ↦ as_str member ]

-- A truth value, false where there is no such member.
abbrev pub flag : Text → json.Data → Option Bool
flag name value = elim (get name value) [ None ↦ Some false | Some member ↦ as_bool member ]

-- A whole number below 2^64, written without fraction and exponent.
abbrev pub whole : json.Data → Option ℕ
whole value = option_and_then as_u64 (as_number value)

-- A number.
abbrev pub number : Text → json.Data → Option ℕ
number name value = option_and_then whole (get name value)

-- A number, if there is such a member.
abbrev pub optional_number : Text → json.Data → Option (Option ℕ)
optional_number name value = elim (get name value) [ None ↦ Some None | Some member ↦ option_map Some (whole member) ]

-- The values of an array.
abbrev pub values_of : json.Items → List json.Data
values_of json.no_items = []
values_of (json.item value items) = value ∷ values_of items

-- An array.
abbrev pub values : Text → json.Data → Option (List json.Data)
values name value = option_map values_of (option_and_then as_array (get name value))

-- The mode of an access handle: whether it only reads.
abbrev pub read_only_named : Text → Option Bool
read_only_named mode =
    elim (same_text mode (codes "read-only")) [ true ↦ Some true | false ↦ elim (same_text mode (codes "readwrite")) [ true ↦ Some false | false ↦ None ] ]

-- Whether an access handle only reads: not, where no mode is asked for.
abbrev pub read_only : Text → json.Data → Option Bool
read_only name value = text_or (codes "readwrite") name value >>= read_only_named

-- Bytes as hexadecimal digits of either case.
abbrev pub hex_bytes : Text → Option Text
hex_bytes digits = elim (decode_of digits) [ Ok bytes ↦ Some bytes | Err error ↦ None ]

-- One byte so many times.
abbrev pub filled : ℕ → ℕ → Option Text
filled byte count = elim (nat_le byte 255) [ true ↦ Some (replicate count byte) | false ↦ None ]

-- Bytes told by an object: hexadecimal digits, or one byte so many times.
abbrev pub told_bytes : json.Data → Option Text
told_bytes value =
    elim (has_only (codes "hex" ∷ []) value) [
      | true ↦ text (codes "hex") value >>= hex_bytes
      | false ↦ elim (has_only (codes "fill" ∷ codes "count" ∷ []) value) [
        | true ↦ number (codes "fill") value >>= λ byte. number (codes "count") value >>= λ count. filled byte count
        | false ↦ None
      ]
    ]

-- The bytes that a value stands for: a text's, or those that an object tells.
abbrev pub bytes_of : json.Data → Option Text
bytes_of value = elim (as_str value) [ Some given ↦ Some given | None ↦ told_bytes value ]

-- Bytes.
abbrev pub bytes : Text → json.Data → Option Text
bytes name value = option_and_then bytes_of (get name value)
