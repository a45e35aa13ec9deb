use Rattle.std.proofs.Common.{◌↔◌, length, refl, ap, subst, arith}
use Rattle.std.specs.Prelude.{IsTrue}
use Rattle.opfs_base.specs.Texts.{Text}
use Rattle.opfs_codec.specs.Spelling.{IsKey}
use Rattle.opfs_codec.specs.declared.change.Format.TheVariants.{New}
use Rattle.opfs_records.proofs.checkpoint.Keys.{plain_key, named_key}
use Rattle.opfs_records.proofs.checkpoint.checks.is_key.Goals as goal

pub returns-then-end-unit : goal.returns-then-end-unit
returns-then-end-unit c =
    let exact = plain_key c.as_bytes-unit.result.now (omega (arith, c.if-end-unit.true, ap length c.origin_of-end.ensures)) in
    subst (λ (t : Text). IsTrue c.is_origin.result ↔ IsKey New t) c.as_bytes-unit.ensures (λ h. exact.0 (c.is_origin.ensures.0 h), λ key. c.is_origin.ensures.1 (exact.1 key))

pub returns-then-is_origin : goal.returns-then-is_origin
returns-then-is_origin c =
    let exact = named_key c.as_bytes-unit.result.now c.origin_of-end.result.now _ _ c.origin_of-end.ensures c.if-end-unit.false refl refl in
    subst (λ (t : Text). IsTrue c.is_named_bucket.result ↔ IsKey New t) c.as_bytes-unit.ensures
    (λ h. exact.0 (c.is_origin-2.ensures.0 c.if-is_origin.true, c.is_named_bucket.ensures.0 h), λ key. c.is_named_bucket.ensures.1 (exact.1 key).1)
