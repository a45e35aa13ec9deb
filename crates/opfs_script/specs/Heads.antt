-- What the definition sees of an agent's members.
use Rattle.std.specs.Prelude.{map}
use Rattle.serde_json.specs.View.{view}
use Rattle.opfs_script.specs.declared.head.Head.{Head}
use Rattle.opfs_script.specs.Reading as reading

-- The members with the values that the definition knows.
abbrev pub seen : Head → reading.Head
seen head = (head.origin.now, head.grant, map view head.steps.now)
