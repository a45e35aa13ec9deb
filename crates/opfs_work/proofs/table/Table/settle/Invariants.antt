use Rattle.std.proofs.Common.{◌≤◌, max}
use Rattle.opfs_work.proofs.OnePage.{HasSettled}
use Rattle.opfs_work.proofs.table.Table.settle.Given as goal

abbrev pub invariant-loop-page : goal.invariant-loop-page
invariant-loop-page l = HasSettled l.fn.self l.self l.from l.page × (l.page ≤ max l.from l.to)
