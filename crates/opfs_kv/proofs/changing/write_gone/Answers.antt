use Rattle.std.proofs.Common.{◌+◌, Some, None, sym, ap, subst, ◌∙◌, arith}
use Rattle.opfs_kv.specs.Records.Indexes.{Places}
use Rattle.opfs_splice.specs.Splicing.{splice}
use Rattle.opfs_base.specs.Texts.{Text}
use Rattle.opfs_sync_files.specs.Files.{file_bytes}
use Rattle.opfs_kv.specs.Records.Maps.{without_key}
use Rattle.opfs_kv.specs.Asked.{IsAppend}
use Rattle.opfs_kv.specs.Records.Records.{spelled_by}
use Rattle.opfs_hist.specs.declared.op.Op.TheVariants as op
use Rattle.opfs_sync_files.specs.Entries.{TheCall}
use Rattle.opfs_sync_files.proofs.Knowing.{caused-may}
use Rattle.opfs_kv.specs.Seen.{Serves, map_in, seen}
use Rattle.opfs_kv.proofs.Rooms.{gone-small}
use Rattle.opfs_kv.proofs.Serving.{gone-serves, still-serves}
use Rattle.opfs_kv.proofs.changing.write_gone.Goals as goal

pub write-requires-clause-bytes : goal.write-requires-clause-bytes
write-requires-clause-bytes g c = gone-small c.args.bytes.now c.args.key.now c.requires.bytes c.requires.key

pub write-requires-clause-at : goal.write-requires-clause-at
write-requires-clause-at g c = omega (arith, c.requires.stands.keeps.small)

pub write-requires-clause-handle : goal.write-requires-clause-handle
write-requires-clause-handle g c = c.requires.stands.has

pub returns-in-Err-clause-left : goal.returns-in-Err-clause-left
returns-in-Err-clause-left g c = still-serves g.S.Store.tells c.args.agent.now c.write.new.agent (seen c.args.handle.now c.args.notes.now) c.requires.stands c.write.new.handle c.in-Err.ensures.still c.in-Err.ensures.stored c.in-Err.ensures.same

pub returns-in-Ok-clause-gone : goal.returns-in-Ok-clause-gone
returns-in-Ok-clause-gone g c =
    subst (λ (i : Places). Serves g.S.Store.tells c.args.agent.now c.write.new.agent (seen c.args.handle.now c.args.notes.now) (record { handle = c.write.new.handle; live = c.args.notes.now.live + 2 + c.len.result; tail = c.args.notes.now.tail; index = i; tidying = c.args.notes.now.tidying }) 1 (without_key (map_in c.args.agent.now (seen c.args.handle.now c.args.notes.now)) c.args.key.now)) (sym c.take_out.ensures.out)
    (gone-serves g.S.Store.tells c.args.agent.now c.write.new.agent (seen c.args.handle.now c.args.notes.now) c.requires.stands c.write.new.handle c.in-Ok.ensures.still c.in-Ok.ensures.stored c.requires.none c.args.key.now c.requires.key c.requires.fits (c.in-Ok.ensures.wrote ∙ ap (λ (t : Text). splice (file_bytes c.args.agent.now c.args.handle.now) c.args.notes.now.live t) c.requires.bytes) (c.args.notes.now.live + 2 + c.len.result) (omega (arith, c.len.ensures)))

pub returns-in-Err-clause-cause : goal.returns-in-Err-clause-cause
returns-in-Err-clause-cause g c =
    caused-may c.args.agent.now c.write.new.agent (TheCall (op.SyncWrite c.args.handle.now.row c.args.bytes.now (Some c.args.notes.now.live))) (IsAppend (seen c.args.handle.now c.args.notes.now) (spelled_by c.args.key.now None)) c.in-Err.stop
    (λ o is. is ∙ ap (λ (t : Text). op.SyncWrite c.args.handle.now.row t (Some c.args.notes.now.live)) c.requires.bytes) c.in-Err.ensures.cause
