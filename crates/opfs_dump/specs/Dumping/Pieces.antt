-- The pieces of the text of a map, in which it is put out. This project's own.
use Rattle.std.specs.Prelude.{ℕ, Bool, true, List, [], ◌∷◌, ◌++◌, codes, decimal}
use Rattle.hex.specs.Hex.{encode_lower}
use Rattle.json.specs.Print.{escape}
use Rattle.serde_json.specs.Written.{compact_text, comma_if}
use Rattle.serde_json.specs.Data.{string}
use Rattle.opfs_base.specs.Texts.{Text}
use Rattle.opfs_base.specs.Places.{Place}
use Rattle.opfs_image.specs.Filling.{filled_row}
use Rattle.opfs_image.specs.declared.geometry.Geometry.{Geometry}
use Rattle.opfs_machine.specs.Openings.{Stored}
use Rattle.opfs_print.specs.Lines.{joined}
use Rattle.opfs_tree.specs.Rows.{Rows}
use Rattle.opfs_dump.specs.Text.Texts.{row_value, texts_value}

-- What stands before the rows: the sizes, and the persistent units as they stand in a JSON text.
unfoldable pub head_by : Geometry → Text → Text
head_by g units =
    joined (codes "{\"areas\":" ∷ decimal g.areas ∷ codes ",\"blocks\":" ∷ decimal g.blocks ∷ codes ",\"persistent\":" ∷ units
    ∷ codes ",\"quota\":" ∷ decimal g.quota ∷ codes ",\"rows\":[" ∷ [])

abbrev pub head_text : Geometry → List Text → Text
head_text g persistent = head_by g (compact_text (texts_value persistent))

-- What stands behind them.
abbrev pub tail_text : Text
tail_text = codes "],\"version\":2}\n"

-- A unit and a path, each with the name of its member.
abbrev pub place_text : Place → Text
place_text place = joined (codes "\"key\":" ∷ compact_text (string place.0) ∷ codes ",\"path\":" ∷ compact_text (texts_value place.1) ∷ [])

-- A directory.
unfoldable pub folder_text : Place → Text
folder_text place = joined (codes "{" ∷ place_text place ∷ codes "}" ∷ [])

-- The digits of bytes as they stand in a JSON text.
abbrev pub digits_text : Text → Text
digits_text bytes = escape (encode_lower bytes)

-- What stands before the digits of a file's bytes, and what behind them.
abbrev pub before_digits : Text
before_digits = codes "{\"hex\":\""

unfoldable pub behind_digits : Place → ℕ → Text
behind_digits place stamp = joined (codes "\"," ∷ place_text place ∷ codes ",\"stamp\":" ∷ decimal stamp ∷ codes "}" ∷ [])

-- A row, with a comma where others stand before.
abbrev pub row_text : Bool → Place × Stored → Text
row_text later e = comma_if later ++ compact_text (row_value e)

-- The rows of a tree with the bytes that an image has in their blocks, and what stands behind them.
unfoldable pub rest_text : Bool → ℕ → List ℕ → Rows → Text
rest_text later base c [] = tail_text
rest_text later base c (e ∷ es) = row_text later (e.0, filled_row base c e.1) ++ rest_text true base c es
