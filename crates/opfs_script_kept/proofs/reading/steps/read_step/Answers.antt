use Rattle.std.proofs.Common.{◌≡◌, ◌<◌, length, Some, option_map, rules}
use Rattle.serde_json.specs.View.{view}
use Rattle.opfs_script.specs.Limits.{bytes_asked}
use Rattle.opfs_script.specs.Reading.{json_of}
use Rattle.opfs_script_kept.specs.Packed.Telling.{told_by}
use Rattle.opfs_script_kept.specs.Reading.Values.{IsValue}
use Rattle.opfs_script_kept.proofs.reading.Stepping.{is-step}
use Rattle.opfs_script_kept.proofs.reading.steps.read_step.Goals as goal

pub returns-in-Some-2 : goal.returns-in-Some-2
returns-in-Some-2 c =
    let old = c.args.reader.now in
    let new = c.read_value.new.reader in
    let text = c.in-Some.field-0.text.items in
    let d = view c.in-Some.field-0.value in
    let tokens : IsValue 123 old d new = rw c.in-Some.is at c.in_ok-text.ensures.value in
    let shorter : length new < length old = rw c.in-Some.is at c.in_ok-text.ensures.shorter in
    let told : json_of text ≡ Some d = rw c.in-Some.is at c.in_ok-text.ensures.text in
    let asked : Some c.in-Some-2.asked ≡ option_map bytes_asked (told_by (Some d)) = search rules in
    is-step old new text d c.in-Some-2.asked tokens shorter told asked
