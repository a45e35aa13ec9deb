use Rattle.std.proofs.Common.{ap, ◌∙◌}
use Rattle.opfs_base.specs.Units.{origin_of, bucket_of}
use Rattle.opfs_base.proofs.UnitLemmas.{origin_of-unit_of, bucket_of-unit_of, plain-from_is_origin}
use Rattle.opfs_base.proofs.key.Key.unit.Goals as goal

pub returns-in-Ok-clause-origin : goal.returns-in-Ok-clause-origin
returns-in-Ok-clause-origin c =
    let plain = plain-from_is_origin c.args.origin.now c.requires in
    ap origin_of (c.from_string.ensures ∙ c.in-Ok.ensures) ∙ origin_of-unit_of c.args.origin.now c.args.bucket.now plain

pub returns-in-Ok-clause-bucket : goal.returns-in-Ok-clause-bucket
returns-in-Ok-clause-bucket c =
    let plain = plain-from_is_origin c.args.origin.now c.requires in
    ap bucket_of (c.from_string.ensures ∙ c.in-Ok.ensures) ∙ bucket_of-unit_of c.args.origin.now c.args.bucket.now plain
