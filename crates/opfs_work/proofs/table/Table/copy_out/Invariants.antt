use Rattle.std.proofs.Common.{◌≡◌, ◌≤◌, ◌-◌, map}
use Rattle.std.specs.List.{range_with_len}
use Rattle.opfs_work.specs.Pages.{byte_at}
use Rattle.opfs_work.proofs.table.Table.copy_out.Given as goal

abbrev pub invariant-loop-done : goal.invariant-loop-done
invariant-loop-done l = (l.done ≤ l.len) × (l.bytes.items ≡ map (byte_at (λ _. 0) l.self.pages) (range_with_len l.from l.done))

abbrev pub decreases-loop-done : goal.decreases-loop-done
decreases-loop-done l = l.len - l.done
