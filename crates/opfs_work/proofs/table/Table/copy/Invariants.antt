use Rattle.opfs_work.proofs.Copying.{IsCopied}
use Rattle.opfs_work.proofs.table.Table.copy.Given as goal

abbrev pub invariant-loop-page : goal.invariant-loop-page
invariant-loop-page l = IsCopied l.fn.self l.self l.at l.given l.page
