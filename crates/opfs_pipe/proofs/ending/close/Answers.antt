use Rattle.opfs_pipe.proofs.Joined.{close-fails, close-stores}
use Rattle.opfs_pipe.proofs.ending.close.Goals as goal

pub returns-clause-stored : goal.returns-clause-stored
returns-clause-stored g c = close-stores g.S.Store.tells c.args.writer.now c.close_writable-done.new.self c.know_kept.ensures c.know_kept-2.ensures c.args.to c.requires.stream c.close_writable-done.result c.close_writable-done.ensures.closed

pub returns-clause-back : goal.returns-clause-back
returns-clause-back g c = close-fails g.S.Store.tells c.args.writer.now c.close_writable-done.new.self c.know_kept.ensures c.know_kept-2.ensures c.args.to c.requires.stream c.close_writable-done.result c.close_writable-done.ensures.back
