use Rattle.std.proofs.Common.{◌≡◌, ◌<◌, ◌-◌, ◌∙◌, sym, ap, arith}
use Rattle.opfs_base.specs.Units.{origin_of}
use Rattle.opfs_shed.specs.Buckets.{Buckets, bucket_at}
use Rattle.opfs_shed.proofs.Usages.{usage_freed, unchanged_bucket, nothing_more, within_totals, tied_lowered}
use Rattle.opfs_shed.proofs.shed.Shed.free.Goals as goal

pub returns-then-n-eq0-clause-bucket : goal.returns-then-n-eq0-clause-bucket
returns-then-n-eq0-clause-bucket c =
    let zero : c.args.n ≡ 0 = grind (arith, c.if-n-eq0.true) in
    ap (λ (es : Buckets). record c.args.self.now { buckets = es }) (sym (unchanged_bucket c.args.self.now.buckets c.args.key.now ((bucket_at c.args.self.now.buckets c.args.key.now).usage - c.args.n) (omega arith)))

pub returns-then-n-eq0-clause-usage : goal.returns-then-n-eq0-clause-usage
returns-then-n-eq0-clause-usage c = λ origin.
    let zero : c.args.n ≡ 0 = grind (arith, c.if-n-eq0.true) in
    omega (arith, nothing_more origin c.args.key.now c.args.n zero)

pub lower_total-requires : goal.lower_total-requires
lower_total-requires c =
    within_totals c.self.inside.totals.entries c.self.inside.totals.entries c.self.inside.buckets.entries c.self.inside.buckets.entries c.args.key.now c.origin_of.result.now c.args.n c.self.invariant (c.origin_of.ensures ∙ ap origin_of c.as_bytes.ensures) (rw (← c.self.view_is) at c.requires)

pub invariant_of-self : goal.invariant_of-self
invariant_of-self c =
    let some : 0 < c.args.n = grind (arith, c.if-n-eq0.false) in
    tied_lowered _ _ _ _ c.args.key.now c.origin_of.result.now c.args.n c.self.invariant (c.origin_of.ensures ∙ ap origin_of c.as_bytes.ensures)
    some (rw (← c.self.view_is) at c.requires) c.lower_total.ensures c.lower_bucket.ensures

pub returns-clause-usage : goal.returns-clause-usage
returns-clause-usage c =
    rw (← c.self.view_is) (usage_freed c.args.key.now c.self.inside.buckets.entries _ c.args.n (rw (← c.self.view_is) at c.requires) c.lower_bucket.ensures)
