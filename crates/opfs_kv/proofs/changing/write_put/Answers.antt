use Rattle.std.proofs.Common.{◌+◌, Some, sym, ap, subst, ◌∙◌, arith}
use Rattle.opfs_base.specs.Texts.{Text}
use Rattle.opfs_kv.specs.Records.Maps.{with_key}
use Rattle.opfs_splice.specs.Splicing.{splice}
use Rattle.opfs_sync_files.specs.Files.{file_bytes}
use Rattle.opfs_kv.specs.Asked.{IsAppend}
use Rattle.opfs_kv.specs.Records.Records.{spelled_by}
use Rattle.opfs_hist.specs.declared.op.Op.TheVariants as op
use Rattle.opfs_sync_files.specs.Entries.{TheCall}
use Rattle.opfs_sync_files.proofs.Knowing.{caused-may}
use Rattle.opfs_kv.specs.Seen.{Serves, map_in, seen}
use Rattle.opfs_kv.specs.declared.notes.Notes.{Notes}
use Rattle.opfs_kv.proofs.Results.{memory-caused, on-err, on-ok}
use Rattle.opfs_kv.proofs.Rooms.{put-small}
use Rattle.opfs_kv.proofs.Serving.{put-serves, still-serves, tail-serves}
use Rattle.opfs_kv.proofs.changing.write_put.Goals as goal

pub write-requires-clause-bytes : goal.write-requires-clause-bytes
write-requires-clause-bytes g c = put-small c.args.put.now.record.now c.args.put.now.key.now c.args.put.now.value.now c.requires.record c.requires.key c.requires.value

pub write-requires-clause-at : goal.write-requires-clause-at
write-requires-clause-at g c = omega (arith, c.requires.stands.keeps.small)

pub write-requires-clause-handle : goal.write-requires-clause-handle
write-requires-clause-handle g c = c.requires.stands.has

pub returns-in-Err-clause-left : goal.returns-in-Err-clause-left
returns-in-Err-clause-left g c = still-serves g.S.Store.tells c.args.agent.now c.write.new.agent (seen c.args.handle.now c.args.notes.now) c.requires.stands c.write.new.handle c.in-Err.ensures.still c.in-Err.ensures.stored c.in-Err.ensures.same

pub returns-in-Ok-clause-put : goal.returns-in-Ok-clause-put
returns-in-Ok-clause-put g c =
    on-ok c.note_put.result _ (Serves g.S.Store.tells c.args.agent.now c.write.new.agent (seen c.args.handle.now c.args.notes.now) (seen c.write.new.handle c.note_put.new.notes) 1 (with_key (map_in c.args.agent.now (seen c.args.handle.now c.args.notes.now)) c.args.put.now.key.now c.args.put.now.value.now)) (λ is. subst (λ (n : Notes). Serves g.S.Store.tells c.args.agent.now c.write.new.agent (seen c.args.handle.now c.args.notes.now) (seen c.write.new.handle n) 1 (with_key (map_in c.args.agent.now (seen c.args.handle.now c.args.notes.now)) c.args.put.now.key.now c.args.put.now.value.now)) (sym is)
    (put-serves g.S.Store.tells c.args.agent.now c.write.new.agent (seen c.args.handle.now c.args.notes.now) c.requires.stands c.write.new.handle c.in-Ok.ensures.still c.in-Ok.ensures.stored c.requires.none c.args.put.now.key.now c.args.put.now.value.now c.requires.key c.requires.value c.requires.fits (c.in-Ok.ensures.wrote ∙ ap (λ (t : Text). splice (file_bytes c.args.agent.now c.args.handle.now) c.args.notes.now.live t) c.requires.record) (c.args.notes.now.live + 6 + c.len.result) c.len-len.result ((c.args.notes.now.live + 6 + c.len.result) + c.len-len.result) (omega (arith, c.len.ensures)) (c.len-len.ensures) (omega (arith, c.len.ensures, c.len-len.ensures)))) c.note_put.ensures.ok

pub returns-in-Ok-clause-left : goal.returns-in-Ok-clause-left
returns-in-Ok-clause-left g c =
    on-err c.note_put.result _ (Serves g.S.Store.tells c.args.agent.now c.write.new.agent (seen c.args.handle.now c.args.notes.now) (seen c.write.new.handle c.note_put.new.notes) 1 (map_in c.args.agent.now (seen c.args.handle.now c.args.notes.now))) (λ is. subst (λ (n : Notes). Serves g.S.Store.tells c.args.agent.now c.write.new.agent (seen c.args.handle.now c.args.notes.now) (seen c.write.new.handle n) 1 (map_in c.args.agent.now (seen c.args.handle.now c.args.notes.now))) (sym is)
    (tail-serves g.S.Store.tells c.args.agent.now c.write.new.agent (seen c.args.handle.now c.args.notes.now) c.requires.stands c.write.new.handle c.in-Ok.ensures.still c.in-Ok.ensures.stored c.requires.none c.args.put.now.record.now c.in-Ok.ensures.wrote)) c.note_put.ensures.err

pub returns-in-Ok-clause-cause : goal.returns-in-Ok-clause-cause
returns-in-Ok-clause-cause g c = memory-caused c.args.agent.now c.write.new.agent (IsAppend (seen c.args.handle.now c.args.notes.now) (spelled_by c.args.put.now.key.now (Some c.args.put.now.value.now))) c.note_put.result c.note_put.ensures.why

pub returns-in-Err-clause-cause : goal.returns-in-Err-clause-cause
returns-in-Err-clause-cause g c =
    caused-may c.args.agent.now c.write.new.agent (TheCall (op.SyncWrite c.args.handle.now.row c.args.put.now.record.now (Some c.args.notes.now.live))) (IsAppend (seen c.args.handle.now c.args.notes.now) (spelled_by c.args.put.now.key.now (Some c.args.put.now.value.now))) c.in-Err.stop
    (λ o is. is ∙ ap (λ (t : Text). op.SyncWrite c.args.handle.now.row t (Some c.args.notes.now.live)) c.requires.record) c.in-Err.ensures.cause
