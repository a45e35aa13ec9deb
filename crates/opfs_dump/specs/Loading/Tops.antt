-- The whole as the definition knows it. This project's own.
use Rattle.std.specs.Prelude.{map}
use Rattle.serde_json.specs.View.{view}
use Rattle.opfs_dump.specs.Text.Reading as reading
use Rattle.opfs_dump.specs.declared.loading.top.Top.{Top}

abbrev pub top_of : Top → reading.Top
top_of t = record { geometry = t.geometry; persistent = t.persistent.items; rows = map view t.rows.now }
