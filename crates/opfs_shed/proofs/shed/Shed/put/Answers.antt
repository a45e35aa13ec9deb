use Rattle.std.proofs.Common.{◌≡◌, ◌+◌, ◌-◌, arith, sym, ap, ◌∙◌}
use Rattle.opfs_base.specs.Units.{origin_of}
use Rattle.opfs_shed.specs.Buckets.{Buckets}
use Rattle.opfs_shed.proofs.Values.{set_value-none}
use Rattle.opfs_shed.proofs.Usages.{within_total, tied_put, room_put}
use Rattle.opfs_shed.proofs.shed.Shed.put.Goals as goal

pub returns-in_default : goal.returns-in_default
returns-in_default c =
    let same = set_value-none _ _ c.args.bucket (sym c.in_default.ensures.value) in
    rw (← c.self.view_is) (ap (λ (es : Buckets). record { quota = c.self.inside.quota; buckets = es }) (sym same))

pub overflow_sub-total : goal.overflow_sub-total
overflow_sub-total c =
    rw c.total_of.ensures
    (within_total _ _ c.args.key.now _ c.in-Some.old.now c.self.invariant (c.origin_of-origin.ensures ∙ ap origin_of c.as_bytes.ensures) (sym c.in-Some.ensures.value))

pub invariant_of-self : goal.invariant_of-self
invariant_of-self c =
    tied_put _ _ _ _ c.args.key.now c.origin_of-origin.result.now c.in-Some.old.now c.args.bucket _ c.self.invariant
    (c.origin_of-origin.ensures ∙ ap origin_of c.as_bytes.ensures) (sym c.in-Some.ensures.value) (ap (λ n. n - c.in-Some.old.now.usage + c.args.bucket.usage) c.total_of.ensures) c.set_total.ensures c.set_bucket.ensures

pub overflow_add-total : goal.overflow_add-total
overflow_add-total c =
    let origin : c.origin_of-origin.result.now ≡ origin_of c.args.key.now = c.origin_of-origin.ensures ∙ ap origin_of c.as_bytes.ensures in
    let room =
    room_put c.self.inside.totals.entries c.self.inside.buckets.entries c.args.key.now c.origin_of-origin.result.now c.in-Some.old.now c.args.bucket.usage c.self.invariant origin
    (sym c.in-Some.ensures.value) (rw (← c.total_of.ensures) c.total_of.type_inv) (rw (← c.self.view_is) at c.requires) (omega arith) in
    omega (arith, room, c.total_of.ensures)
