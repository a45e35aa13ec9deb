use Rattle.std.proofs.Common.{◌∙◌, true, ap}
use Rattle.opfs_shed.specs.declared.shed.Bucket.{Bucket}
use Rattle.opfs_shed.specs.Buckets.{Storage, Buckets, bucket_at, with_bucket}
use Rattle.opfs_shed.proofs.Usages.{usage_same}
use Rattle.opfs_shed.proofs.shed.Shed.set_persistent.Goals as goal

pub returns-clause-usage : goal.returns-clause-usage
returns-clause-usage c = usage_same c.args.key.now c.args.self.now.buckets _ c.requires (ap (λ (s : Storage). s.buckets) c.put.ensures ∙ ap (λ (b : Bucket). with_bucket c.args.self.now.buckets c.args.key.now (record { persistent = true; usage = b.usage })) (c.bucket_at-usage.ensures ∙ ap (λ (es : Buckets). bucket_at es c.args.key.now) (ap (λ (s : Storage). s.buckets) c.self.view_is)))
