use Rattle.std.proofs.Common.{◌≡◌, ◌+◌, drop}
use Rattle.std.specs.List.{prefix_len}
use Rattle.opfs_base.specs.Texts.{same_text}
use Rattle.opfs_tools.proofs.units.count_within.Given as goal

abbrev pub invariant-loop-at : goal.invariant-loop-at
invariant-loop-at l = l.at + prefix_len (λ e. same_text l.key e.0.0) (drop l.at l.rows) ≡ prefix_len (λ e. same_text l.key e.0.0) l.rows
