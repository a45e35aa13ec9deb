use Rattle.opfs_commit.proofs.Trailing.{trail_begins, trail_same, trail_kept, trail_more, committed_image}
use Rattle.opfs_commit.proofs.laws.a_trail_grows.Goals as goal

pub returns-clause-begins : goal.returns-clause-begins
returns-clause-begins g s told o least begun shows =
    trail_begins g.D.Disk o least begun shows

pub returns-clause-goes_on : goal.returns-clause-goes_on
returns-clause-goes_on g s told o changes least begun old new trail time moments =
    let laws = g.met.D.Disk in
    trail_same g.D.Disk (laws.falls told) o changes begun old new trail time least moments

pub returns-clause-kept : goal.returns-clause-kept
returns-clause-kept g s told o changes change begun now trail quiet =
    trail_kept g.D.Disk o changes change begun now trail quiet

pub returns-clause-committed : goal.returns-clause-committed
returns-clause-committed g s told a change built least begun old new trail time moments images none sure =
    let laws = g.met.D.Disk in
    trail_more g.D.Disk (laws.falls told) a.opening a.told begun old new.journal.disk trail time change least moments (λ crashes is. committed_image g.D.Disk laws.reads _ new images none sure crashes)
