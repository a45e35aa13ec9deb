use Rattle.std.proofs.Common.{◌≡◌, ◌+◌, ◌-◌, ◌/◌, ◌≤◌}
use Rattle.opfs_base.specs.Blocks.{blocks}
use Rattle.opfs_work.specs.Pages.{absent}
use Rattle.opfs_work.proofs.table.Table.added.Given as goal

abbrev pub invariant-loop-page : goal.invariant-loop-page
invariant-loop-page l = (l.count + absent l.self.pages l.page (blocks (l.at + l.len) - l.page) ≡ absent l.self.pages (l.at / 4096) (blocks (l.at + l.len) - l.at / 4096)) × (l.count ≤ l.page)
