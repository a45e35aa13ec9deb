use Rattle.std.proofs.Common.{refl, inl, ◌∙◌}
use Rattle.opfs_script.proofs.JsonLemmas.{json_of-text, json_of-other}
use Rattle.opfs_dump.proofs.loading.reading.json_of.Goals as goal

pub returns-in_default-clause-refused : goal.returns-in_default-clause-refused
returns-in_default-clause-refused c = inl (refl, json_of-other c.args.bytes.now c.in_default.ensures.cases.0)

pub returns-in-Ok-from_str-clause-value : goal.returns-in-Ok-from_str-clause-value
returns-in-Ok-from_str-clause-value c =
    json_of-text c.args.bytes.now c.in-Ok.ensures.cases.1
    ∙ (rw c.in-Ok.ensures.cases.0 at c.in-Ok-from_str.ensures.ok)
