use Rattle.std.proofs.Common.{arith, sym, ◌∙◌}
use Rattle.opfs_rulings.proofs.Rising.{there_from, lower_from, higher_from}
use Rattle.opfs_rulings.proofs.spots.spot_of.Goals as goal

pub returns-then-is_eq-clause-there : goal.returns-then-is_eq-clause-there
returns-then-is_eq-clause-there c =
    there_from _ c.args.rows.now c.requires _ c.index-rows-middle.result (omega arith) c.compare_places-order.result c.compare_places-order.ensures (sym c.is_eq.ensures ∙ c.if-is_eq.true)

pub loop-low-preserved-then-is_lt : goal.loop-low-preserved-then-is_lt
loop-low-preserved-then-is_lt c = record {
  order = omega arith;
  within = omega (arith, c.loop-low.invariant.within);
  behind = c.loop-low.invariant.behind;
  before = lower_from _ c.args.rows.now c.requires _ c.index-rows-middle.result (omega arith) c.compare_places-order.result c.compare_places-order.ensures (sym c.is_lt.ensures ∙ c.if-is_lt.true);
}

pub loop-low-preserved : goal.loop-low-preserved
loop-low-preserved c = record {
  order = omega arith;
  within = c.loop-low.invariant.within;
  behind = higher_from _ c.args.rows.now c.requires _ c.index-rows-middle.result (omega arith) c.compare_places-order.result c.compare_places-order.ensures (sym c.is_eq.ensures ∙ c.if-is_eq.false) (sym c.is_lt.ensures ∙ c.if-is_lt.false);
  before = c.loop-low.invariant.before;
}
