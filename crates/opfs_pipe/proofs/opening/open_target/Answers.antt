use Rattle.opfs_pipe.proofs.Opened.{target-empty}
use Rattle.opfs_pipe.proofs.opening.open_target.Goals as goal

pub returns-clause-empty : goal.returns-clause-empty
returns-clause-empty g c = target-empty g.S.Store.tells c.args.writer.now c.create_writable-opened.new.self c.know_kept.ensures c.know_kept-2.ensures c.args.file.now c.create_writable-opened.result c.create_writable-opened.ensures
