use Rattle.std.proofs.Common.{sym, ap, ◌∙◌}
use Rattle.std.proofs.lemmas.Str.{is_utf8-from_IsUtf8, IsUtf8-from_is_utf8}
use Rattle.opfs_codec.specs.Spelling.{is_key_text}
use Rattle.opfs_records.proofs.checkpoint.checks.is_origin.Goals as goal

pub returns-in-Ok : goal.returns-in-Ok
returns-in-Ok c =
    let same = ap is_key_text (sym c.in-Ok.ensures.cases.0) ∙ sym c.is_key_text.ensures in
    (λ h. (is_utf8-from_IsUtf8 c.args.bytes.now c.in-Ok.ensures.cases.1, same ∙ h), λ good. sym same ∙ good.1)

pub returns-in-Err : goal.returns-in-Err
returns-in-Err c = (λ h. absurd cc, λ good. absurd (c.in-Err.ensures.cases.0 (IsUtf8-from_is_utf8 c.args.bytes.now good.0)))
