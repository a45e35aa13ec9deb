use Rattle.std.proofs.Common.{ℕ, ◌+◌, ◌++◌, length, ap, ◌∙◌, arith}
use Rattle.opfs_base.specs.Texts.{Text}
use Rattle.opfs_kv.specs.Records.Maps.{Map}
use Rattle.opfs_kv.specs.Records.Records.{after_all, log_of}
use Rattle.opfs_kv.specs.Seen.{Serves, map_in, seen}
use Rattle.opfs_kv.specs.Asked.{IsAppend, IsCut, IsCutOr}
use Rattle.opfs_kv.proofs.Asking.{append-later, cut-first}
use Rattle.opfs_sync_files.proofs.Knowing.{caused-may}
use Rattle.opfs_kv.proofs.Results.{later-caused, on-err, on-ok}
use Rattle.opfs_kv.proofs.Rooms.{places-room, room-after}
use Rattle.opfs_kv.proofs.Serving.{front-then, once-none, once-then, readied-then, served-goes, serves-most, serves-then}
use Rattle.opfs_kv.proofs.applying.cut_batch.Goals as goal

pub cut-requires-clause-room : goal.cut-requires-clause-room
cut-requires-clause-room g c = places-room c.args.agent.now c.requires.few

pub write_batch-requires-clause-own : goal.write_batch-requires-clause-own
write_batch-requires-clause-own g c = c.in-Ok.ensures.serves.goes.hall ∙ c.requires.own

pub write_batch-requires-clause-room : goal.write_batch-requires-clause-room
write_batch-requires-clause-room g c = room-after c.args.agent.now c.cut.new.agent 1 c.requires.few c.in-Ok.ensures.serves.goes (omega arith)

pub write_batch-requires-clause-stands : goal.write_batch-requires-clause-stands
write_batch-requires-clause-stands g c = c.in-Ok.ensures.serves.stands

pub write_batch-requires-clause-none : goal.write_batch-requires-clause-none
write_batch-requires-clause-none g c = c.in-Ok.ensures.none

pub write_batch-requires-clause-fits : goal.write_batch-requires-clause-fits
write_batch-requires-clause-fits g c = omega (arith, c.in-Ok.ensures.same.1, c.requires.fits)

pub write_batch-requires-clause-readied : goal.write_batch-requires-clause-readied
write_batch-requires-clause-readied g c = readied-then c.args.notes.now.live c.cut.new.notes.live c.args.notes.now.index c.cut.new.notes.index c.args.batch.now c.args.readied.bytes c.args.readied.index c.args.readied.live c.in-Ok.ensures.same.1 c.in-Ok.ensures.same.0 c.requires.readied

pub returns-in-Ok-clause-applied : goal.returns-in-Ok-clause-applied
returns-in-Ok-clause-applied g c =
    on-ok c.write_batch.result _ (Serves g.S.Store.tells c.args.agent.now c.write_batch.new.agent (seen c.args.handle.now c.args.notes.now) (seen c.write_batch.new.handle c.write_batch.new.notes) 2 (after_all (map_in c.args.agent.now (seen c.args.handle.now c.args.notes.now)) c.args.batch.now)) (λ s. serves-then g.S.Store.tells c.args.agent.now c.cut.new.agent c.write_batch.new.agent (seen c.args.handle.now c.args.notes.now) (seen c.cut.new.handle c.cut.new.notes) (seen c.write_batch.new.handle c.write_batch.new.notes) 1 1 (λ (m : Map). after_all m c.args.batch.now) c.in-Ok.ensures.serves s) c.write_batch.ensures.applied

pub returns-in-Ok-clause-live : goal.returns-in-Ok-clause-live
returns-in-Ok-clause-live g c = on-ok c.write_batch.result _ _ (λ is. is ∙ ap (λ (n : ℕ). n + length (log_of c.args.batch.now)) c.in-Ok.ensures.same.1) c.write_batch.ensures.live

pub returns-in-Ok-clause-written : goal.returns-in-Ok-clause-written
returns-in-Ok-clause-written g c =
    on-ok c.write_batch.result _ _ (λ is. is ∙ ap (λ (t : Text). t ++ log_of c.args.batch.now) (front-then c.args.agent.now c.cut.new.agent (seen c.args.handle.now c.args.notes.now) (seen c.cut.new.handle c.cut.new.notes) c.in-Ok.ensures.same.1 c.in-Ok.ensures.front)) c.write_batch.ensures.written

pub returns-in-Ok-clause-once : goal.returns-in-Ok-clause-once
returns-in-Ok-clause-once g c none = once-then c.args.agent.now c.cut.new.agent c.write_batch.new.agent (c.in-Ok.ensures.idle none).0
    (served-goes g.S.Store.tells c.cut.new.agent c.write_batch.new.agent (seen c.cut.new.handle c.cut.new.notes) (seen c.write_batch.new.handle c.write_batch.new.notes) 1 _ _ c.write_batch.result c.write_batch.ensures.applied c.write_batch.ensures.left)

pub returns-in-Err-clause-once : goal.returns-in-Err-clause-once
returns-in-Err-clause-once g c none = once-none c.args.agent.now c.cut.new.agent (c.in-Err.ensures.idle none).0

pub returns-in-Ok-clause-left : goal.returns-in-Ok-clause-left
returns-in-Ok-clause-left g c =
    on-err c.write_batch.result _ (Serves g.S.Store.tells c.args.agent.now c.write_batch.new.agent (seen c.args.handle.now c.args.notes.now) (seen c.write_batch.new.handle c.write_batch.new.notes) 2 (map_in c.args.agent.now (seen c.args.handle.now c.args.notes.now))) (λ s. serves-then g.S.Store.tells c.args.agent.now c.cut.new.agent c.write_batch.new.agent (seen c.args.handle.now c.args.notes.now) (seen c.cut.new.handle c.cut.new.notes) (seen c.write_batch.new.handle c.write_batch.new.notes) 1 1 (λ m. m) c.in-Ok.ensures.serves s) c.write_batch.ensures.left

pub returns-in-Ok-clause-cause : goal.returns-in-Ok-clause-cause
returns-in-Ok-clause-cause g c =
    later-caused c.args.agent.now c.cut.new.agent c.write_batch.new.agent (IsAppend (seen c.cut.new.handle c.cut.new.notes) (log_of c.args.batch.now)) (IsCutOr (seen c.args.handle.now c.args.notes.now) (IsAppend (seen c.args.handle.now c.args.notes.now) (log_of c.args.batch.now))) 1 c.write_batch.result
    (append-later (seen c.args.handle.now c.args.notes.now) (seen c.cut.new.handle c.cut.new.notes) c.in-Ok.ensures.serves.row (log_of c.args.batch.now) c.in-Ok.ensures.same.1) c.in-Ok.ensures.serves.goes c.write_batch.ensures.cause

pub returns-in-Err-clause-cause : goal.returns-in-Err-clause-cause
returns-in-Err-clause-cause g c =
    caused-may c.args.agent.now c.cut.new.agent (IsCut (seen c.args.handle.now c.args.notes.now)) (IsCutOr (seen c.args.handle.now c.args.notes.now) (IsAppend (seen c.args.handle.now c.args.notes.now) (log_of c.args.batch.now))) c.in-Err.stop (cut-first (seen c.args.handle.now c.args.notes.now) (IsAppend (seen c.args.handle.now c.args.notes.now) (log_of c.args.batch.now))) c.in-Err.ensures.cause

pub returns-in-Err-clause-left : goal.returns-in-Err-clause-left
returns-in-Err-clause-left g c = serves-most g.S.Store.tells c.args.agent.now c.cut.new.agent (seen c.args.handle.now c.args.notes.now) (seen c.cut.new.handle c.cut.new.notes) 1 2 (map_in c.args.agent.now (seen c.args.handle.now c.args.notes.now)) (omega arith) c.in-Err.ensures.serves
