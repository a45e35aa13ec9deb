use Rattle.std.proofs.Common.{◌∙◌, arith}
use Rattle.opfs_kv.specs.Seen.{seen}
use Rattle.opfs_kv.proofs.Flushing.{bytes-by, flush-left, flushes-then}
use Rattle.opfs_kv.proofs.Rooms.{room-next}
use Rattle.opfs_kv.proofs.Serving.{serves-most}
use Rattle.opfs_kv.specs.Asked.{IsCut, IsCutOr, IsFlush}
use Rattle.opfs_kv.proofs.Asking.{cut-first, flush-later}
use Rattle.opfs_kv.proofs.Results.{later-may}
use Rattle.opfs_sync_files.proofs.Knowing.{caused-may}
use Rattle.opfs_kv.proofs.storing.store.Goals as goal

pub cut-requires-clause-room : goal.cut-requires-clause-room
cut-requires-clause-room g c = c.requires.room

pub flush-requires-clause-own : goal.flush-requires-clause-own
flush-requires-clause-own g c = c.cut.ensures.serves.goes.hall ∙ c.requires.own

pub flush-requires-clause-room : goal.flush-requires-clause-room
flush-requires-clause-room g c = room-next c.args.agent.now c.cut.new.agent c.requires.room c.requires.more c.cut.ensures.serves.goes

pub flush-requires-clause-handle : goal.flush-requires-clause-handle
flush-requires-clause-handle g c = c.cut.ensures.serves.stands.has

pub returns-in-Err-clause-left : goal.returns-in-Err-clause-left
returns-in-Err-clause-left g c = serves-most g.S.Store.tells c.args.agent.now c.cut.new.agent (seen c.args.handle.now c.args.notes.now) (seen c.cut.new.handle c.cut.new.notes) 1 2 _ (omega arith) c.in-Err.ensures.serves

pub returns-in-Ok-flush-clause-flushed : goal.returns-in-Ok-flush-clause-flushed
returns-in-Ok-flush-clause-flushed g c = flushes-then g.S.Store.tells c.args.agent.now c.cut.new.agent (seen c.args.handle.now c.args.notes.now) (seen c.cut.new.handle c.cut.new.notes) c.in-Ok.ensures.serves c.in-Ok.ensures.none c.flush.new.agent c.flush.new.handle c.in-Ok-flush.ensures.still c.in-Ok-flush.ensures.same c.in-Ok-flush.ensures.stored

pub returns-in-Err-flush-clause-left : goal.returns-in-Err-flush-clause-left
returns-in-Err-flush-clause-left g c = flush-left g.S.Store.tells c.args.agent.now c.cut.new.agent (seen c.args.handle.now c.args.notes.now) (seen c.cut.new.handle c.cut.new.notes) c.in-Ok.ensures.serves c.in-Ok.ensures.none c.flush.new.agent c.flush.new.handle c.in-Err-flush.ensures.still c.in-Err-flush.ensures.same c.in-Err-flush.ensures.unstored

pub returns-in-Err-flush-clause-cause : goal.returns-in-Err-flush-clause-cause
returns-in-Err-flush-clause-cause g c =
    later-may c.args.agent.now c.cut.new.agent c.flush.new.agent (IsFlush (seen c.cut.new.handle c.cut.new.notes)) (IsCutOr (seen c.args.handle.now c.args.notes.now) (IsFlush (seen c.args.handle.now c.args.notes.now))) 1 c.in-Err-flush.unstored
    (flush-later (seen c.args.handle.now c.args.notes.now) (seen c.cut.new.handle c.cut.new.notes) c.in-Ok.ensures.serves.row) c.in-Ok.ensures.serves.goes c.in-Err-flush.ensures.cause

pub returns-in-Err-clause-cause : goal.returns-in-Err-clause-cause
returns-in-Err-clause-cause g c =
    caused-may c.args.agent.now c.cut.new.agent (IsCut (seen c.args.handle.now c.args.notes.now)) (IsCutOr (seen c.args.handle.now c.args.notes.now) (IsFlush (seen c.args.handle.now c.args.notes.now))) c.in-Err.stop (cut-first (seen c.args.handle.now c.args.notes.now) (IsFlush (seen c.args.handle.now c.args.notes.now))) c.in-Err.ensures.cause

pub returns-in-Ok-flush-clause-same : goal.returns-in-Ok-flush-clause-same
returns-in-Ok-flush-clause-same g c none = c.in-Ok-flush.ensures.same ∙ bytes-by c.args.agent.now c.cut.new.agent c.args.handle.now c.cut.new.handle (c.cut.ensures.idle none)

pub returns-in-Err-flush-clause-same : goal.returns-in-Err-flush-clause-same
returns-in-Err-flush-clause-same g c none = c.in-Err-flush.ensures.same ∙ bytes-by c.args.agent.now c.cut.new.agent c.args.handle.now c.cut.new.handle (c.cut.ensures.idle none)

pub returns-in-Err-clause-same : goal.returns-in-Err-clause-same
returns-in-Err-clause-same g c none = bytes-by c.args.agent.now c.cut.new.agent c.args.handle.now c.cut.new.handle (c.cut.ensures.idle none)
