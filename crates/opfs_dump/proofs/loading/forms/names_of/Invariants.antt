use Rattle.std.proofs.Common.{◌≡◌, drop}
use Rattle.std.specs.Prelude.{map}
use Rattle.serde_json.specs.View.{view}
use Rattle.opfs_dump.specs.Text.Reading.{names_of}
use Rattle.opfs_dump.proofs.loading.ListsRead.{behind}
use Rattle.opfs_dump.proofs.loading.forms.names_of.Given as goal

abbrev pub invariant-loop-value : goal.invariant-loop-value
invariant-loop-value l = behind l.names.items (names_of (map view (drop l.value-index l.values))) ≡ names_of (map view l.values)
