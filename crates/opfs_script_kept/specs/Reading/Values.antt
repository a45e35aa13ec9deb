-- Values that tokens begin with: this project's own.
use Rattle.std.specs.Prelude.{◌≡◌, ℕ, List, length, Some}
use Rattle.json.specs.Token.{Token}
use Rattle.json.specs.Json.{value, items}
use Rattle.serde_json.specs.Data.{Data}
use Rattle.serde_json.specs.Read.{converted, of_json, of_items}
use Rattle.serde_json.specs.View.{items_of}

-- Tokens begin with this value, nested at most so deep, and go on with others.
abbrev pub IsValue : ℕ → List Token → Data → List Token → Type 0
IsValue depth old d new = converted of_json (value depth old) ≡ Some (d, new)

-- Tokens begin with these values and the bracket that closes them, and go on with others.
abbrev pub AreValues : ℕ → List Token → List Data → List Token → Type 0
AreValues depth old values new = converted of_items (items (value depth) (length old) old) ≡ Some (items_of values, new)
