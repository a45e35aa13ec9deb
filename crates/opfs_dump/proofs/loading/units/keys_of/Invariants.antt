use Rattle.std.proofs.Common.{◌≡◌, drop}
use Rattle.std.specs.Prelude.{map}
use Rattle.serde_json.specs.View.{view}
use Rattle.opfs_dump.specs.Text.Reading.{texts_of}
use Rattle.opfs_dump.proofs.loading.ListsRead.{behind}
use Rattle.opfs_dump.proofs.loading.units.keys_of.Given as goal

abbrev pub invariant-loop-value : goal.invariant-loop-value
invariant-loop-value l = behind l.keys.items (texts_of (map view (drop l.value-index l.values))) ≡ texts_of (map view l.values)
