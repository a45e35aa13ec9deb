use Rattle.std.proofs.Common.{◌≡◌, ◌<◌, Some, length, rules}
use Rattle.serde_json.specs.View.{view}
use Rattle.opfs_script.specs.Reading.{granted_by}
use Rattle.opfs_script_kept.specs.Reading.Values.{IsValue}
use Rattle.opfs_script_kept.proofs.reading.Naming.{takes-grants}
use Rattle.opfs_script_kept.proofs.reading.members.take_grants.Goals as goal

pub returns-clause-takes : goal.returns-clause-takes
returns-clause-takes c _ =
    let old = c.args.reader.now in
    let new = c.read_value.new.reader in
    let d = view c.in-Some.field-0.value in
    let tokens : IsValue 124 old d new = rw c.in-Some.is at c.in_ok-value.ensures.value in
    let shorter : length new < length old = rw c.in-Some.is at c.in_ok-value.ensures.shorter in
    let granted : granted_by (Some d) ≡ Some c.in-Some-grant.grant = search rules in
    takes-grants c.args.agent old new d c.in-Some-grant.grant c.args.draft.now tokens shorter granted
