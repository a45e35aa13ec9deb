use Rattle.opfs_desk_bytes.proofs.writing.Copied.{written-copy, cut-copy}
use Rattle.opfs_desk_bytes.proofs.writing.leaving.leave_put.Goals as goal

pub returns-then-target-clause-copy : goal.returns-then-target-clause-copy
returns-then-target-clause-copy c = λ bytes given count copy page.
    written-copy bytes given c.args.page.now c.args.work.now c.after_write.new.work c.args.target c.args.len (c.requires.written c.if-target.true) count copy page c.after_write.ensures.copy

pub returns-clause-copy : goal.returns-clause-copy
returns-clause-copy c = λ bytes given count copy page.
    cut-copy bytes given c.args.page.now c.args.work.now c.after_size.new.work c.args.target c.args.len (c.requires.cut c.if-target.false) count copy page c.after_size.ensures.copy
