use Rattle.std.proofs.Common.{◌∙◌, ap, sym}
use Rattle.opfs_base.specs.Units.{origin_of}
use Rattle.opfs_pool.proofs.Fronts.{last_is, last_not}
use Rattle.opfs_pool.proofs.victims.last_use.Goals as goal

pub returns-then-eq : goal.returns-then-eq
returns-then-eq c =
    last_is c.args.uses.now c.loop-used.used-index c.loop-used-item.result (origin_of c.args.unit.now) c.origin_of-origin.result.now c.as_bytes-in-loop-used.result.now c.loop-used-test.true c.loop-used-item.is
    (c.origin_of-origin.ensures ∙ ap origin_of c.as_bytes.ensures) c.as_bytes-in-loop-used.ensures (sym c.eq.ensures ∙ c.if-eq.true) c.loop-used.invariant

pub loop-used-preserved : goal.loop-used-preserved
loop-used-preserved c =
    last_not c.args.uses.now c.loop-used.used-index c.loop-used-item.result (origin_of c.args.unit.now) c.origin_of-origin.result.now c.as_bytes-in-loop-used.result.now c.loop-used-test.true c.loop-used-item.is
    (c.origin_of-origin.ensures ∙ ap origin_of c.as_bytes.ensures) c.as_bytes-in-loop-used.ensures (sym c.eq.ensures ∙ c.if-eq.false) c.loop-used.invariant
