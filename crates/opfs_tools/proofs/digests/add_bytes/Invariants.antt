use Rattle.std.proofs.Common.{ℕ, ◌-◌, ◌≤◌, ◌++◌, List}
use Rattle.sha2.specs.Hashers.{Holds256}
use Rattle.opfs_outside.specs.Bytes.{window}
use Rattle.opfs_data.specs.Calls.{Reads}
use Rattle.opfs_tools.proofs.digests.add_bytes.Given as goal

abbrev pub invariant-loop-from : goal.invariant-loop-from
invariant-loop-from g l = record {
  within : l.from ≤ l.count;
  reads : Reads g.D.Disk l.fn.journal l.journal;
  added : g.D.Disk.tells → (m : List ℕ) → Holds256 l.fn.hasher m → Holds256 l.hasher (m ++ window (g.D.Disk.content l.fn.journal.disk) l.at l.from);
}

abbrev pub decreases-loop-from : goal.decreases-loop-from
decreases-loop-from g l = l.count - l.from
