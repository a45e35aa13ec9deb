use Rattle.std.proofs.Common.{◌≡◌, ◌+◌, filter, sum_by, drop}
use Rattle.opfs_base.specs.Texts.{same_text}
use Rattle.opfs_machine.specs.Contents.{in_bytes}
use Rattle.opfs_machine.specs.Sums.{durable_blocks}
use Rattle.opfs_rulings.proofs.sums.unit_pool.Given as goal

abbrev pub invariant-loop-entry : goal.invariant-loop-entry
invariant-loop-entry l = l.total + sum_by (λ e. durable_blocks in_bytes e.1) (filter (λ e. same_text l.unit e.0.0) (drop l.entry-index l.rows)) ≡ sum_by (λ e. durable_blocks in_bytes e.1) (filter (λ e. same_text l.unit e.0.0) l.rows)
