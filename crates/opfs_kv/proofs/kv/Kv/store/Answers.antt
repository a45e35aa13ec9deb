use Rattle.std.proofs.Common.{OnErr, OnOk, subst, arith}
use Rattle.opfs_kv.specs.Seen.{Flushes, KvSeen, Serves, map_in, seen}
use Rattle.opfs_sync_files.specs.Resting.{LeavesRest}
use Rattle.opfs_kv.proofs.Flushing.{flushed-rest}
use Rattle.opfs_kv.proofs.Rooms.{places-room}
use Rattle.opfs_kv.proofs.kv.Kv.store.Goals as goal

pub returns-clause-flushed : goal.returns-clause-flushed
returns-clause-flushed g c =
    subst (λ (x : KvSeen). OnOk c.flush_file.result (Flushes g.S.Store.tells c.args.agent.now c.flush_file.new.agent x (seen c.flush_file.new.handle c.flush_file.new.notes) 2 (map_in c.args.agent.now x))) c.self.view_is c.flush_file.ensures.flushed

pub returns-clause-left : goal.returns-clause-left
returns-clause-left g c =
    subst (λ (x : KvSeen). OnErr c.flush_file.result (Serves g.S.Store.tells c.args.agent.now c.flush_file.new.agent x (seen c.flush_file.new.handle c.flush_file.new.notes) 2 (map_in c.args.agent.now x))) c.self.view_is c.flush_file.ensures.left

pub returns-clause-others : goal.returns-clause-others
returns-clause-others g c = subst (λ (x : KvSeen). LeavesRest g.S.Store.tells c.args.agent.now c.flush_file.new.agent x.handle.row) c.self.view_is
    (flushed-rest g.S.Store.tells c.args.agent.now c.flush_file.new.agent _ (seen c.flush_file.new.handle c.flush_file.new.notes) 2 _ _ c.flush_file.result c.flush_file.ensures.flushed c.flush_file.ensures.left)

pub flush_file-requires-clause-room : goal.flush_file-requires-clause-room
flush_file-requires-clause-room g c = places-room c.args.agent.now c.requires.few

pub flush_file-requires-clause-more : goal.flush_file-requires-clause-more
flush_file-requires-clause-more g c = omega (arith, c.requires.few.entries)
