use Rattle.std.proofs.Common.{sym, ap, ◌∙◌}
use Rattle.opfs_base.specs.Units.{origin_of}
use Rattle.opfs_rulings.proofs.Totals.{lowered_here}
use Rattle.opfs_rulings.proofs.weights.lowered_by.Goals as goal

pub returns-then-is_within : goal.returns-then-is_within
returns-then-is_within c =
    lowered_here _ c.args.entry.now c.origin_of.result.now c.weigh_row.result c.args.tally c.lowered.result (sym c.is_within.ensures ∙ c.if-is_within.true)
    (c.origin_of.ensures ∙ ap origin_of c.as_bytes.ensures) c.weigh_row.ensures c.lowered.ensures
