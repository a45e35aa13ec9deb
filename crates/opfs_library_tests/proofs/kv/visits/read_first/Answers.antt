use Rattle.std.proofs.Common.{arith}
use Rattle.opfs_notebook.proofs.Going.{room-of}
use Rattle.opfs_library_tests.proofs.kv.Held.{still-holds, still-more}
use Rattle.opfs_library_tests.proofs.kv.visits.read_first.Goals as goal

pub read-bytes-requires-clause-room : goal.read-bytes-requires-clause-room
read-bytes-requires-clause-room g c = room-of c.args.agent.now 50000000 (omega arith) c.requires.few

pub returns-clause-holds : goal.returns-clause-holds
returns-clause-holds g c = still-holds g.S.Store.tells c.args.court.now c.args.agent.now c.read-bytes.new.agent c.know_kept.ensures c.know_kept-2.ensures c.args.handle.now c.read-bytes.new.handle _ c.read-bytes.ensures.still c.requires.holds

pub returns-clause-goes : goal.returns-clause-goes
returns-clause-goes g c = still-more g.S.Store.tells c.args.court.now c.args.agent.now c.read-bytes.new.agent c.know_kept.ensures c.know_kept-2.ensures c.args.handle.now c.read-bytes.new.handle _ c.read-bytes.ensures.still
