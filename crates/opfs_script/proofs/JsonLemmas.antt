-- Bytes that are UTF-8, and those that are not.
use Rattle.std.proofs.Common.{◌≡◌, ℕ, Bool, true, false, List, Option, None, refl, ap}
use Rattle.std.specs.Str.{IsUtf8, is_utf8}
use Rattle.std.proofs.lemmas.Str.{IsUtf8-from_is_utf8, is_utf8-from_IsUtf8}
use Rattle.serde_json.specs.Data.{Data}
use Rattle.serde_json.specs.Read.{read}
use Rattle.opfs_script.specs.Reading.{json_of}

abbrev json_by : Bool → List ℕ → Option Data
json_by test bytes = elim test [ true ↦ read bytes | false ↦ None ]

false_unless : (b : Bool) → (b ≡ true → ⊥) → b ≡ false
false_unless true h = absurd (h refl)
false_unless false h = refl

-- UTF-8 is what it reads as
pub json_of-text : (bytes : List ℕ) → IsUtf8 bytes → json_of bytes ≡ read bytes
json_of-text bytes utf8 = ap (λ test. json_by test bytes) (is_utf8-from_IsUtf8 bytes utf8)

-- other bytes are nothing
pub json_of-other : (bytes : List ℕ) → (IsUtf8 bytes → ⊥) → json_of bytes ≡ None
json_of-other bytes other =
    ap (λ test. json_by test bytes) (false_unless (is_utf8 bytes) (λ e. other (IsUtf8-from_is_utf8 bytes e)))
