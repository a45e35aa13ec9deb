use Rattle.std.proofs.Common.{◌≡◌, ◌∙◌, Some, sym, arith, rules}
use Rattle.json.specs.Value.{value_view}
use Rattle.serde_json.specs.View.{view}
use Rattle.opfs_script.proofs.JsonLemmas.{json_of-text}
use Rattle.opfs_script.specs.Reading.{json_of}
use Rattle.opfs_script_kept.proofs.reading.Values.{same-value, value-read}
use Rattle.opfs_script_kept.proofs.reading.value.read_value.Goals as goal

pub returns-clause-value : goal.returns-clause-value
returns-clause-value c =
    let text = c.in_ok-text.text.items in
    let tree = value_view c.in-Ok.tree in
    let d = view c.in-Some.value in
    let told : json_of text ≡ Some d = search rules in
    let seen = sym (json_of-text text c.in_ok-text.ensures.utf8) ∙ told in
    let nests = c.in-Ok.ensures.nests in
    let document = c.in_ok-text.ensures.reads_back (omega (arith, nests, c.requires)) in
    value-read c.args.depth c.args.reader.now c.read.new.reader tree d c.in-Ok.ensures.ok (same-value text tree d document seen)
