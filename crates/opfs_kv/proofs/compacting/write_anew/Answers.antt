use Rattle.std.proofs.Common.{Some, arith}
use Rattle.opfs_kv.specs.Asked.{IsRewrite}
use Rattle.opfs_hist.specs.declared.op.Op.TheVariants as op
use Rattle.opfs_sync_files.specs.Entries.{TheCall}
use Rattle.opfs_sync_files.specs.Files.{file_bytes}
use Rattle.opfs_sync_files.proofs.Knowing.{caused-may}
use Rattle.opfs_kv.proofs.Asking.{anew-asked}
use Rattle.opfs_kv.specs.Seen.{map_in, seen}
use Rattle.opfs_kv.proofs.Rooms.{anew-small}
use Rattle.opfs_kv.proofs.Serving.{anew-front, anew-serves, still-serves}
use Rattle.opfs_kv.proofs.compacting.write_anew.Goals as goal

pub write-requires-clause-handle : goal.write-requires-clause-handle
write-requires-clause-handle g c = c.requires.stands.has

pub write-requires-clause-bytes : goal.write-requires-clause-bytes
write-requires-clause-bytes g c = anew-small g.S.Store.tells c.args.agent.now (seen c.args.handle.now c.args.notes.now) c.requires.stands c.args.anew.bytes c.args.anew.len c.args.anew.index c.requires.anew

pub returns-in-Ok-clause-serves : goal.returns-in-Ok-clause-serves
returns-in-Ok-clause-serves g c = anew-serves g.S.Store.tells c.args.agent.now c.write.new.agent (seen c.args.handle.now c.args.notes.now) c.requires.stands c.write.new.handle c.in-Ok.ensures.still c.in-Ok.ensures.stored c.requires.none c.args.anew.bytes c.args.anew.len c.args.anew.index c.requires.anew c.know_kept.ensures c.in-Ok.ensures.wrote _ (λ h. grind (arith, h))

pub returns-in-Ok-clause-front : goal.returns-in-Ok-clause-front
returns-in-Ok-clause-front g c = anew-front g.S.Store.tells c.args.agent.now c.write.new.agent (seen c.args.handle.now c.args.notes.now) c.requires.stands c.write.new.handle c.in-Ok.ensures.still c.in-Ok.ensures.stored c.requires.none c.args.anew.bytes c.args.anew.len c.args.anew.index c.requires.anew c.know_kept.ensures c.in-Ok.ensures.wrote

pub returns-clause-serves : goal.returns-clause-serves
returns-clause-serves g c = still-serves g.S.Store.tells c.args.agent.now c.write.new.agent (seen c.args.handle.now c.args.notes.now) c.requires.stands c.write.new.handle c.in-Err.ensures.still c.in-Err.ensures.stored c.in-Err.ensures.same

pub returns-clause-cause : goal.returns-clause-cause
returns-clause-cause g c =
    caused-may c.args.agent.now c.write.new.agent (TheCall (op.SyncWrite c.args.handle.now.row c.args.anew.bytes (Some 0))) (IsRewrite g.S.Store.tells c.args.handle.now.row (map_in c.args.agent.now (seen c.args.handle.now c.args.notes.now))) c.in-Err.stop
    (anew-asked g.S.Store.tells (file_bytes c.args.agent.now c.args.handle.now) c.args.notes.now.index c.args.anew.bytes c.args.anew.len c.args.anew.index c.args.handle.now.row c.requires.anew) c.in-Err.ensures.cause
