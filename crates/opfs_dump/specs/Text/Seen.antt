-- Rows that were read as the rows that they are. This project's own.
use Rattle.std.specs.Prelude.{List, map, Option, Some, None}
use Rattle.opfs_base.specs.Places.{Place}
use Rattle.opfs_base.specs.Texts.{Text}
use Rattle.opfs_machine.specs.Openings.{Map, Stored, folder, document}
use Rattle.opfs_dump.specs.declared.text.dumped.DumpedRow.{DumpedRow}
use Rattle.opfs_dump.specs.declared.text.dumped.DumpedFile.{DumpedFile}

abbrev pub document_of : DumpedFile → Stored
document_of f = document f.bytes f.stamp

abbrev pub stored_of : Option DumpedFile → Stored
stored_of None = folder
stored_of (Some f) = document_of f

abbrev pub row_of : DumpedRow → Place × Stored
row_of r = (r.place, stored_of r.file)

-- Rows and persistent units as a map.
abbrev pub map_of : List DumpedRow → List Text → Map
map_of rows persistent = record { rows = map row_of rows; persistent = persistent }
