use Rattle.std.proofs.Common.{◌+◌, ℕ, ap, ◌∙◌, arith}
use Rattle.opfs_shed.specs.Buckets.{Storage, bucket_at, whole_usage}
use Rattle.opfs_base.specs.Units.{origin_of}
use Rattle.opfs_shed.proofs.Usages.{usage_of-le}
use Rattle.opfs_records.specs.Replay.Kept.{share}
use Rattle.opfs_records.specs.Replay.Sums.{persistent_in}
use Rattle.opfs_records.proofs.replay.Filling.{touched_bucket, touched_whole, touched_modes, added_whole, added_modes, added_usage}
use Rattle.opfs_records.proofs.replay.usages.count_blocks.Goals as goal

pub add-requires-clause-fits : goal.add-requires-clause-fits
add-requires-clause-fits c =
    let buckets = ap (λ (s : Storage). whole_usage s.buckets) c.in_ok-touch.ensures.touched ∙ touched_whole c.args.shed.now.buckets c.args.unit.now in
    omega (arith, buckets, usage_of-le (origin_of c.args.unit.now) c.touch.new.self.buckets)

pub returns-clause-used : goal.returns-clause-used
returns-clause-used c =
    let buckets = ap (λ (s : Storage). whole_usage s.buckets) c.in_ok-touch.ensures.touched ∙ touched_whole c.args.shed.now.buckets c.args.unit.now in
    let added = ap (λ (s : Storage). whole_usage s.buckets) c.add.ensures.bucket ∙ added_whole c.touch.new.self.buckets c.args.unit.now c.args.blocks c.in_ok-touch.ensures.there in
    omega (arith, buckets, added)

pub returns-clause-usage : goal.returns-clause-usage
returns-clause-usage c other =
    let same = ap (λ (s : Storage). (bucket_at s.buckets other).usage) c.in_ok-touch.ensures.touched ∙ ap (λ b. b.usage) (touched_bucket c.args.shed.now.buckets c.args.unit.now other) in
    ap (λ (s : Storage). (bucket_at s.buckets other).usage) c.add.ensures.bucket ∙ added_usage c.touch.new.self.buckets c.args.unit.now c.args.blocks c.in_ok-touch.ensures.there other
    ∙ ap (λ (n : ℕ). n + share other c.args.unit.now c.args.blocks) same

pub returns-clause-persistent : goal.returns-clause-persistent
returns-clause-persistent c =
    ap (λ (s : Storage). persistent_in s.buckets) c.add.ensures.bucket ∙ added_modes c.touch.new.self.buckets c.args.unit.now c.args.blocks c.in_ok-touch.ensures.there
    ∙ ap (λ (s : Storage). persistent_in s.buckets) c.in_ok-touch.ensures.touched ∙ touched_modes c.args.shed.now.buckets c.args.unit.now
