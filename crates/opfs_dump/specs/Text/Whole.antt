-- What was read as the sizes and the map that it is. This project's own.
use Rattle.opfs_dump.specs.Text.Reading.{Dump}
use Rattle.opfs_dump.specs.Text.Seen.{map_of}
use Rattle.opfs_dump.specs.declared.text.dumped.Dumped.{Dumped}

abbrev pub dump_of : Dumped → Dump
dump_of d = record { geometry = d.geometry; map = map_of d.rows.items d.persistent.items }
