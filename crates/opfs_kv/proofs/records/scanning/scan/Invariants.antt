use Rattle.std.proofs.Common.{◌-◌, ◌≤◌}
use Rattle.opfs_base.specs.Texts.{Text}
use Rattle.opfs_kv.specs.Records.Indexes.{IsFitting}
use Rattle.opfs_kv.specs.Records.Scans.{IsPiece, HasRead}
use Rattle.opfs_kv.proofs.records.scanning.scan.Given as goal

abbrev pub invariant-loop-next : goal.invariant-loop-next
invariant-loop-next l = record {
  from : l.at ≤ l.next;
  within : l.next ≤ l.size;
  fitting : IsFitting l.next l.index;
  read : (whole : Text) → IsPiece whole l.size l.at l.piece → HasRead whole l.at l.fn.index l.next l.index;
}

abbrev pub decreases-loop-next : goal.decreases-loop-next
decreases-loop-next l = l.end - l.next
