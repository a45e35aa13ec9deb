use Rattle.std.proofs.Common.{Some, ap, ◌∙◌, arith}
use Rattle.opfs_base.specs.Texts.{Text}
use Rattle.opfs_hist.specs.declared.op.Op.TheVariants as op
use Rattle.opfs_splice.specs.Splicing.{splice}
use Rattle.opfs_sync_files.specs.Entries.{TheCall}
use Rattle.opfs_sync_files.specs.Files.{file_bytes}
use Rattle.opfs_sync_files.proofs.Knowing.{caused-may}
use Rattle.opfs_kv.specs.Asked.{IsAppend}
use Rattle.opfs_kv.specs.Records.Records.{log_of}
use Rattle.opfs_kv.specs.Seen.{seen}
use Rattle.opfs_kv.proofs.Rooms.{readied-small}
use Rattle.opfs_kv.proofs.Serving.{many-serves, many-written, still-serves}
use Rattle.opfs_kv.proofs.applying.write_batch.Goals as goal

pub write-requires-clause-bytes : goal.write-requires-clause-bytes
write-requires-clause-bytes g c = readied-small c.args.notes.now.live c.args.notes.now.index c.args.batch.now c.args.readied.bytes c.args.readied.index c.args.readied.live c.requires.readied c.requires.fits

pub write-requires-clause-at : goal.write-requires-clause-at
write-requires-clause-at g c = omega (arith, c.requires.stands.keeps.small)

pub write-requires-clause-handle : goal.write-requires-clause-handle
write-requires-clause-handle g c = c.requires.stands.has

pub returns-in-Ok-clause-applied : goal.returns-in-Ok-clause-applied
returns-in-Ok-clause-applied g c =
    many-serves g.S.Store.tells c.args.agent.now c.write.new.agent (seen c.args.handle.now c.args.notes.now) c.requires.stands c.write.new.handle c.in-Ok.ensures.still c.in-Ok.ensures.stored c.requires.none c.args.batch.now c.know_kept.ensures c.requires.fits
    (c.in-Ok.ensures.wrote ∙ ap (λ (t : Text). splice (file_bytes c.args.agent.now c.args.handle.now) c.args.notes.now.live t) c.requires.readied.bytes_are) c.args.readied.index c.args.readied.live c.requires.readied.made_is c.requires.readied.end_is

pub returns-in-Ok-clause-live : goal.returns-in-Ok-clause-live
returns-in-Ok-clause-live g c = c.requires.readied.end_is

pub returns-in-Ok-clause-written : goal.returns-in-Ok-clause-written
returns-in-Ok-clause-written g c =
    many-written g.S.Store.tells c.args.agent.now c.write.new.agent (seen c.args.handle.now c.args.notes.now) c.requires.stands c.write.new.handle c.in-Ok.ensures.still c.in-Ok.ensures.stored c.requires.none c.args.batch.now c.know_kept.ensures c.requires.fits
    (c.in-Ok.ensures.wrote ∙ ap (λ (t : Text). splice (file_bytes c.args.agent.now c.args.handle.now) c.args.notes.now.live t) c.requires.readied.bytes_are) c.args.readied.index c.args.readied.live c.requires.readied.made_is c.requires.readied.end_is

pub returns-clause-left : goal.returns-clause-left
returns-clause-left g c = still-serves g.S.Store.tells c.args.agent.now c.write.new.agent (seen c.args.handle.now c.args.notes.now) c.requires.stands c.write.new.handle c.in-Err.ensures.still c.in-Err.ensures.stored c.in-Err.ensures.same

pub returns-clause-cause : goal.returns-clause-cause
returns-clause-cause g c =
    caused-may c.args.agent.now c.write.new.agent (TheCall (op.SyncWrite c.args.handle.now.row c.args.readied.bytes (Some c.args.notes.now.live))) (IsAppend (seen c.args.handle.now c.args.notes.now) (log_of c.args.batch.now)) c.in-Err.stop
    (λ o is. is ∙ ap (λ (t : Text). op.SyncWrite c.args.handle.now.row t (Some c.args.notes.now.live)) c.requires.readied.bytes_are) c.in-Err.ensures.cause
