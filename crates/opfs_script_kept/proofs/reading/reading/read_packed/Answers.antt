use Rattle.std.proofs.Common.{◌∙◌, ap}
use Rattle.json.specs.Lex.{tokens}
use Rattle.opfs_script_kept.proofs.reading.Topping.{packed-as-read}
use Rattle.opfs_script_kept.proofs.reading.reading.read_packed.Goals as goal

pub returns : goal.returns
returns c =
    let same = c.in_ok-reader.ensures.ok ∙ ap tokens c.in-Ok.ensures.cases.0 in
    packed-as-read c.args.bytes.now c.in_ok-reader.reader c.in_ok-script.script c.in-Ok.ensures.cases.1 same c.in_ok-script.ensures
