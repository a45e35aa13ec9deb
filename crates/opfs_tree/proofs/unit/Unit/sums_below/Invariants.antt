use Rattle.std.proofs.Common.{◌≡◌, ◌+◌, sum_by}
use Rattle.opfs_tree.specs.Rows.{present_blocks, durable_blocks}
use Rattle.opfs_tree.specs.Sums.{charge_in}
use Rattle.opfs_tree.specs.Units.{below, front, values}
use Rattle.opfs_tree.proofs.unit.Unit.sums_below.Given as goal

abbrev pub invariant-loop-path : goal.invariant-loop-path
invariant-loop-path l = record {
  present : l.present + sum_by present_blocks (values (front l.top l.path-iterator)) ≡ sum_by present_blocks (values (below l.top l.self));
  durable : l.durable + sum_by durable_blocks (values (front l.top l.path-iterator)) ≡ sum_by durable_blocks (values (below l.top l.self));
  charge : l.charge + sum_by (λ e. charge_in l.unit e.0 e.1) (front l.top l.path-iterator) ≡ sum_by (λ e. charge_in l.unit e.0 e.1) (below l.top l.self);
}
