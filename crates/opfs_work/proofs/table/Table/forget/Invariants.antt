use Rattle.std.proofs.Common.{◌≤◌, max}
use Rattle.opfs_work.proofs.OnePage.{HasForgotten}
use Rattle.opfs_work.proofs.table.Table.forget.Given as goal

abbrev pub invariant-loop-page : goal.invariant-loop-page
invariant-loop-page l = HasForgotten l.fn.self l.self l.from l.page × (l.page ≤ max l.from l.to)
