-- What a map is as one JSON text. This project's own; compact JSON is what the crate `serde_json` writes, the members of an
-- object in the order of their names.
use Rattle.std.specs.Prelude.{ℕ, List, [], ◌∷◌, ◌++◌, map, codes, decimal}
use Rattle.hex.specs.Hex.{encode_lower}
use Rattle.serde_json.specs.Data.{Data, string, number, array, object, member, no_members, unsigned}
use Rattle.serde_json.specs.View.{items_of}
use Rattle.serde_json.specs.Written.{compact_text}
use Rattle.opfs_base.specs.Texts.{Text}
use Rattle.opfs_base.specs.Places.{Place}
use Rattle.opfs_image.specs.declared.geometry.Geometry.{Geometry}
use Rattle.opfs_machine.specs.Openings.{Map, Stored, folder, document}
use Rattle.opfs_print.specs.Lines.{joined, two_text}
use Rattle.opfs_dump.specs.declared.text.refusal.DumpRefusal.{DumpRefusal}
use Rattle.opfs_dump.specs.declared.text.refusal.DumpRefusal.TheVariants as refusal

-- A list of texts.
abbrev pub texts_value : List Text → Data
texts_value texts = array (items_of (map string texts))

-- A directory: its unit and its path.
abbrev pub folder_value : Place → Data
folder_value place = object (member (codes "key") (string place.0) (member (codes "path") (texts_value place.1) no_members))

-- A file: its bytes in hexadecimal digits, its unit, its path and its time stamp.
abbrev pub document_value : Place → Text → ℕ → Data
document_value place bytes stamp =
    object (member (codes "hex") (string (encode_lower bytes)) (member (codes "key") (string place.0)
    (member (codes "path") (texts_value place.1) (member (codes "stamp") (number (unsigned stamp)) no_members))))

abbrev pub row_value : Place × Stored → Data
row_value (place, folder) = folder_value place
row_value (place, document bytes stamp) = document_value place bytes stamp

-- The whole: the sizes, the persistent units, the rows in the order of their places, and the version of the format.
abbrev pub dump_value : Geometry → Map → Data
dump_value g m =
    object (member (codes "areas") (number (unsigned g.areas)) (member (codes "blocks") (number (unsigned g.blocks))
    (member (codes "persistent") (texts_value m.persistent) (member (codes "quota") (number (unsigned g.quota))
    (member (codes "rows") (array (items_of (map row_value m.rows))) (member (codes "version") (number (unsigned 2)) no_members))))))

-- The text of a map and the sizes of its image.
unfoldable pub dump_text : Geometry → Map → Text
dump_text g m = compact_text (dump_value g m) ++ codes "\n"

-- The line of an image that was made from a text with so many rows.
abbrev pub loaded_line : ℕ → Text
loaded_line rows = joined (codes "loaded " ∷ decimal rows ∷ codes "\n" ∷ [])

-- Why a text is refused, with its numbers.
abbrev pub refusal_text : DumpRefusal → Text
refusal_text refusal.TooLong = codes "TooLong"
refusal_text refusal.NotJson = codes "NotJson"
refusal_text (refusal.BadDump row) = codes "BadDump " ++ decimal row
refusal_text (refusal.Full need blocks) = two_text (codes "Full ") need blocks
refusal_text (refusal.Overfull charge area) = two_text (codes "Overfull ") charge area
refusal_text refusal.NoMemory = []

-- The line of a refusal.
abbrev pub refused_line : DumpRefusal → Text
refused_line why = joined (codes "opfs: dump refused: " ∷ refusal_text why ∷ codes "\n" ∷ [])
