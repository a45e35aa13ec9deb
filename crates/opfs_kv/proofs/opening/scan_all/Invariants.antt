use Rattle.std.proofs.Common.{◌+◌, ◌*◌, ◌-◌, ◌<◌, ◌≤◌, []}
use Rattle.opfs_sync_files.specs.Files.{file_bytes}
use Rattle.opfs_kv.specs.Opening.{IsScanned, OnlyReads}
use Rattle.opfs_kv.proofs.opening.scan_all.Given as goal

abbrev pub invariant-loop-next : goal.invariant-loop-next
invariant-loop-next g l = record {
  reads : OnlyReads g.S.Store.tells l.fn.agent l.agent l.fn.handle l.handle 260;
  count : 65000 * l.agent.entries ≤ 65000 * l.fn.agent.entries + l.next + 65000;
  ahead : l.next < l.size → 65000 * l.agent.entries ≤ 65000 * l.fn.agent.entries + l.next;
  scanned : IsScanned g.S.Store.tells (file_bytes l.fn.agent l.fn.handle) 0 [] l.next l.size l.index;
}

abbrev pub decreases-loop-next : goal.decreases-loop-next
decreases-loop-next g l = l.size - l.next
