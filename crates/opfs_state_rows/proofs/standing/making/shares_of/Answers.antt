use Rattle.std.proofs.Common.{◌∙◌}
use Rattle.opfs_state_rows.specs.Standing.Beginnings.{IsCounted}
use Rattle.opfs_state_rows.proofs.standing.Begun.{go-on}
use Rattle.opfs_state_rows.proofs.standing.making.shares_of.Goals as goal

pub loop-row-preserved : goal.loop-row-preserved
loop-row-preserved c = record {
  wide = c.in_ok-count_row.ensures.size ∙ c.loop-row.invariant.wide;
  counted = go-on c.args.tree.now.rows c.loop-row.walk c.step.new.walk c.key.result.now c.in-Some.row.now
      (λ rest. IsCounted c.args.tree.now.rows rest c.args.shed.now c.loop-row.shed c.loop-row.pool) (λ rest. IsCounted c.args.tree.now.rows rest c.args.shed.now c.count_row.new.shed c.count_row.new.pool)
      c.loop-row.invariant.counted c.in-Some.ensures.next c.key.ensures (λ path rest. c.in_ok-count_row.ensures.counted c.args.shed.now path rest);
}
