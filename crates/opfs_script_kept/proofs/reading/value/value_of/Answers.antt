use Rattle.std.proofs.Common.{◌∙◌}
use Rattle.opfs_script.proofs.JsonLemmas.{json_of-text}
use Rattle.opfs_script_kept.proofs.reading.value.value_of.Goals as goal

pub returns-in-Ok-from_str : goal.returns-in-Ok-from_str
returns-in-Ok-from_str c = json_of-text c.args.text.now c.in-Ok.ensures.cases.1 ∙ (rw c.in-Ok.ensures.cases.0 at c.in-Ok-from_str.ensures.ok)
