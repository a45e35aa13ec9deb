use Rattle.std.proofs.Common.{sym, ◌∙◌}
use Rattle.std.proofs.Common.{fold}
use Rattle.opfs_machine.specs.Steps.{evicted}
use Rattle.opfs_books.proofs.stored.Failing.{stores-by-disk, disk-before, may-fail, own-doubt, next-doubt, next-plain}
use Rattle.opfs_books.proofs.stored.laws.calls_may_fail.Goals as goal

pub returns : goal.returns
returns g c = record {
  call = λ base gone e change next plain stores. (
    may-fail g.D.Disk.tells base gone e next plain (sym (disk-before base gone e.agent e.op) ∙ stores-by-disk (fold evicted base gone) e.agent e.op change (next-plain g.D.Disk.tells base gone e next plain) stores),
    own-doubt g.D.Disk.tells base gone e next plain ∙ stores,
  );
  eviction = next-doubt;
}
