use Rattle.std.proofs.Common.{sym, ap, ◌∙◌, not}
use Rattle.std.proofs.lemmas.Bool.{not-true}
use Rattle.std.proofs.lemmas.Str.{is_utf8-from_IsUtf8, IsUtf8-from_is_utf8}
use Rattle.opfs_base.specs.Texts.{Text, same_text}
use Rattle.opfs_base.specs.Units.{is_bucket_name, default_bucket}
use Rattle.opfs_records.proofs.checkpoint.checks.is_named_bucket.Goals as goal

pub returns-then-is_bucket_name : goal.returns-then-is_bucket_name
returns-then-is_bucket_name c =
    let same = c.in-Ok.ensures.cases.0 in
    let named = ap is_bucket_name (sym same) ∙ (sym c.is_bucket_name.ensures ∙ c.if-is_bucket_name.true) in
    let other = ap (λ (t : Text). same_text t default_bucket) (sym same) in (
      λ h. ((is_utf8-from_IsUtf8 c.args.bytes.now c.in-Ok.ensures.cases.1, named), other ∙ not-true _ (sym c.ne.ensures ∙ h)),
      λ good. c.ne.ensures ∙ ap not (sym other ∙ good.1),
    )

pub returns-in-Err : goal.returns-in-Err
returns-in-Err c = (λ h. absurd cc, λ good. absurd (c.in-Err.ensures.cases.0 (IsUtf8-from_is_utf8 c.args.bytes.now good.0.0)))
