use Rattle.opfs_commit.proofs.Resting.{rows_are, finished, rest_stands}
use Rattle.opfs_commit.proofs.Trailing.{last_stands}
use Rattle.opfs_commit.proofs.laws.the_rows_hold_what_was_told.Goals as goal

pub returns-clause-rows : goal.returns-clause-rows
returns-clause-rows g s told a k images =
    rows_are g.D.Disk a k images

pub returns-clause-finished : goal.returns-clause-finished
returns-clause-finished g s told a k images none records =
    finished g.D.Disk a k images none records

pub returns-clause-at_rest : goal.returns-clause-at_rest
returns-clause-at_rest g s told a k images none sure c now =
    rest_stands g.D.Disk a k images none sure c now

pub returns-clause-last_content : goal.returns-clause-last_content
returns-clause-last_content g s told a k n images at last none crashes =
    let laws = g.met.D.Disk in
    last_stands g.D.Disk laws.reads a k n images at last none crashes
