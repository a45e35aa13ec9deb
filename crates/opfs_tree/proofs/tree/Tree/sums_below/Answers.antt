use Rattle.std.proofs.Common.{refl, ◌∙◌}
use Rattle.opfs_tree.specs.Rows.{present_blocks, durable_blocks}
use Rattle.opfs_tree.proofs.UnitSums.{sum_in_unit, charge_in_unit, small_too}
use Rattle.opfs_tree.proofs.tree.Tree.sums_below.Goals as goal

pub sums_below-requires-clause-present : goal.sums_below-requires-clause-present
sums_below-requires-clause-present c = small_too _ _ (sum_in_unit c.args.key.now c.args.path.now c.args.self.now _ c.in-Some.ensures present_blocks) c.requires.present

pub sums_below-requires-clause-durable : goal.sums_below-requires-clause-durable
sums_below-requires-clause-durable c = small_too _ _ (sum_in_unit c.args.key.now c.args.path.now c.args.self.now _ c.in-Some.ensures durable_blocks) c.requires.durable

pub sums_below-requires-clause-charge : goal.sums_below-requires-clause-charge
sums_below-requires-clause-charge c = small_too _ _ (charge_in_unit c.args.key.now c.args.path.now c.args.self.now _ c.in-Some.ensures _ c.unit_bytes.ensures) c.requires.charge

pub returns-in-Some-clause-present : goal.returns-in-Some-clause-present
returns-in-Some-clause-present c = c.sums_below.ensures.present ∙ sum_in_unit c.args.key.now c.args.path.now c.args.self.now _ c.in-Some.ensures present_blocks

pub returns-in-Some-clause-durable : goal.returns-in-Some-clause-durable
returns-in-Some-clause-durable c = c.sums_below.ensures.durable ∙ sum_in_unit c.args.key.now c.args.path.now c.args.self.now _ c.in-Some.ensures durable_blocks

pub returns-in-Some-clause-charge : goal.returns-in-Some-clause-charge
returns-in-Some-clause-charge c = c.sums_below.ensures.charge ∙ charge_in_unit c.args.key.now c.args.path.now c.args.self.now _ c.in-Some.ensures _ c.unit_bytes.ensures

pub returns-in-None-clause-present : goal.returns-in-None-clause-present
returns-in-None-clause-present c = sum_in_unit c.args.key.now c.args.path.now c.args.self.now _ c.in-None.ensures present_blocks

pub returns-in-None-clause-durable : goal.returns-in-None-clause-durable
returns-in-None-clause-durable c = sum_in_unit c.args.key.now c.args.path.now c.args.self.now _ c.in-None.ensures durable_blocks

pub returns-in-None-clause-charge : goal.returns-in-None-clause-charge
returns-in-None-clause-charge c = charge_in_unit c.args.key.now c.args.path.now c.args.self.now _ c.in-None.ensures _ refl
