use Rattle.std.proofs.Common.{arith, sym, ◌∙◌}
use Rattle.opfs_rulings.proofs.Within.{names-front, past-at}
use Rattle.opfs_rulings.proofs.spots.end_within.Goals as goal

pub loop-low-preserved : goal.loop-low-preserved
loop-low-preserved c = record {
  order = omega arith;
  within = omega (arith, c.loop-low.invariant.within);
  names = past-at c.args.place.now c.args.rows.now _ c.index-rows-middle.result c.requires.rising c.requires.upto (omega arith) (sym c.is_within.ensures ∙ c.if-is_within.false);
}

pub returns-clause-names : goal.returns-clause-names
returns-clause-names c = names-front c.args.place.now c.loop-low.high c.args.rows.now c.loop-low.invariant.names
