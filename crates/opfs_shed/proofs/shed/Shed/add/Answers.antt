use Rattle.std.proofs.Common.{◌≡◌, ◌+◌, ◌∙◌, sym, ap, arith}
use Rattle.opfs_base.specs.Units.{origin_of}
use Rattle.opfs_shed.specs.Buckets.{Buckets, bucket_at}
use Rattle.opfs_shed.proofs.Usages.{room_in_bucket, usage_added, unchanged_bucket, nothing_more, total_is, tied_raised}
use Rattle.opfs_shed.proofs.shed.Shed.add.Goals as goal

pub returns-then-need-eq0-clause-bucket : goal.returns-then-need-eq0-clause-bucket
returns-then-need-eq0-clause-bucket c =
    let zero : c.args.need ≡ 0 = grind (arith, c.if-need-eq0.true) in
    ap (λ (es : Buckets). record c.args.self.now { buckets = es }) (sym (unchanged_bucket c.args.self.now.buckets c.args.key.now ((bucket_at c.args.self.now.buckets c.args.key.now).usage + c.args.need) (omega arith)))

pub returns-then-need-eq0-clause-usage : goal.returns-then-need-eq0-clause-usage
returns-then-need-eq0-clause-usage c = λ origin.
    let zero : c.args.need ≡ 0 = grind (arith, c.if-need-eq0.true) in
    omega (arith, nothing_more origin c.args.key.now c.args.need zero)

pub raise_total-requires : goal.raise_total-requires
raise_total-requires c =
    let is = total_is c.self.inside.totals.entries c.self.inside.totals.entries c.self.inside.buckets.entries c.self.inside.buckets.entries c.args.key.now c.origin_of.result.now c.args.need c.self.invariant (c.origin_of.ensures ∙ ap origin_of c.as_bytes.ensures) in
    omega (arith, is, rw (← c.self.view_is) at c.requires.fits)

pub raise_bucket-requires : goal.raise_bucket-requires
raise_bucket-requires c = room_in_bucket c.self.inside.buckets.entries c.args.key.now c.args.need (rw (← c.self.view_is) at c.requires.fits)

pub invariant_of-self : goal.invariant_of-self
invariant_of-self c =
    tied_raised _ _ _ _ c.args.key.now c.origin_of.result.now c.args.need c.self.invariant (c.origin_of.ensures ∙ ap origin_of c.as_bytes.ensures)
    (rw (← c.self.view_is) at c.requires.there) c.raise_total.ensures c.raise_bucket.ensures

pub returns-clause-usage : goal.returns-clause-usage
returns-clause-usage c =
    rw (← c.self.view_is) (usage_added c.args.key.now c.self.inside.buckets.entries _ c.args.need (rw (← c.self.view_is) at c.requires.there) c.raise_bucket.ensures)
