use Rattle.std.proofs.Common.{◌∙◌, arith, Some}
use Rattle.opfs_kv.specs.Records.Maps.{Map, with_key}
use Rattle.opfs_kv.specs.Seen.{Serves, map_in, seen}
use Rattle.opfs_kv.specs.Asked.{IsAppend, IsCut, IsCutOr}
use Rattle.opfs_kv.specs.Records.Records.{spelled_by}
use Rattle.opfs_kv.proofs.Asking.{append-later, cut-first}
use Rattle.opfs_sync_files.proofs.Knowing.{caused-may}
use Rattle.opfs_kv.proofs.Results.{later-caused, on-err, on-ok}
use Rattle.opfs_kv.proofs.Rooms.{places-room, room-after}
use Rattle.opfs_kv.proofs.Serving.{serves-most, serves-then}
use Rattle.opfs_kv.proofs.changing.cut_put.Goals as goal

pub cut-requires-clause-room : goal.cut-requires-clause-room
cut-requires-clause-room g c = places-room c.args.agent.now c.requires.few

pub write_put-requires-clause-own : goal.write_put-requires-clause-own
write_put-requires-clause-own g c = c.in-Ok.ensures.serves.goes.hall ∙ c.requires.own

pub write_put-requires-clause-room : goal.write_put-requires-clause-room
write_put-requires-clause-room g c = room-after c.args.agent.now c.cut.new.agent 1 c.requires.few c.in-Ok.ensures.serves.goes (omega arith)

pub write_put-requires-clause-stands : goal.write_put-requires-clause-stands
write_put-requires-clause-stands g c = c.in-Ok.ensures.serves.stands

pub write_put-requires-clause-none : goal.write_put-requires-clause-none
write_put-requires-clause-none g c = c.in-Ok.ensures.none

pub write_put-requires-clause-fits : goal.write_put-requires-clause-fits
write_put-requires-clause-fits g c = omega (arith, c.in-Ok.ensures.same.1, c.requires.fits)

pub returns-in-Ok-clause-put : goal.returns-in-Ok-clause-put
returns-in-Ok-clause-put g c =
    on-ok c.write_put.result _ (Serves g.S.Store.tells c.args.agent.now c.write_put.new.agent (seen c.args.handle.now c.args.notes.now) (seen c.write_put.new.handle c.write_put.new.notes) 2 (with_key (map_in c.args.agent.now (seen c.args.handle.now c.args.notes.now)) c.args.put.now.key.now c.args.put.now.value.now)) (λ s. serves-then g.S.Store.tells c.args.agent.now c.cut.new.agent c.write_put.new.agent (seen c.args.handle.now c.args.notes.now) (seen c.cut.new.handle c.cut.new.notes) (seen c.write_put.new.handle c.write_put.new.notes) 1 1 (λ (m : Map). with_key m c.args.put.now.key.now c.args.put.now.value.now) c.in-Ok.ensures.serves s) c.write_put.ensures.put

pub returns-in-Ok-clause-left : goal.returns-in-Ok-clause-left
returns-in-Ok-clause-left g c =
    on-err c.write_put.result _ (Serves g.S.Store.tells c.args.agent.now c.write_put.new.agent (seen c.args.handle.now c.args.notes.now) (seen c.write_put.new.handle c.write_put.new.notes) 2 (map_in c.args.agent.now (seen c.args.handle.now c.args.notes.now))) (λ s. serves-then g.S.Store.tells c.args.agent.now c.cut.new.agent c.write_put.new.agent (seen c.args.handle.now c.args.notes.now) (seen c.cut.new.handle c.cut.new.notes) (seen c.write_put.new.handle c.write_put.new.notes) 1 1 (λ m. m) c.in-Ok.ensures.serves s) c.write_put.ensures.left

pub returns-in-Ok-clause-cause : goal.returns-in-Ok-clause-cause
returns-in-Ok-clause-cause g c =
    later-caused c.args.agent.now c.cut.new.agent c.write_put.new.agent (IsAppend (seen c.cut.new.handle c.cut.new.notes) (spelled_by c.args.put.now.key.now (Some c.args.put.now.value.now))) (IsCutOr (seen c.args.handle.now c.args.notes.now) (IsAppend (seen c.args.handle.now c.args.notes.now) (spelled_by c.args.put.now.key.now (Some c.args.put.now.value.now)))) 1 c.write_put.result
    (append-later (seen c.args.handle.now c.args.notes.now) (seen c.cut.new.handle c.cut.new.notes) c.in-Ok.ensures.serves.row (spelled_by c.args.put.now.key.now (Some c.args.put.now.value.now)) c.in-Ok.ensures.same.1) c.in-Ok.ensures.serves.goes c.write_put.ensures.cause

pub returns-in-Err-clause-cause : goal.returns-in-Err-clause-cause
returns-in-Err-clause-cause g c =
    caused-may c.args.agent.now c.cut.new.agent (IsCut (seen c.args.handle.now c.args.notes.now)) (IsCutOr (seen c.args.handle.now c.args.notes.now) (IsAppend (seen c.args.handle.now c.args.notes.now) (spelled_by c.args.put.now.key.now (Some c.args.put.now.value.now)))) c.in-Err.stop (cut-first (seen c.args.handle.now c.args.notes.now) (IsAppend (seen c.args.handle.now c.args.notes.now) (spelled_by c.args.put.now.key.now (Some c.args.put.now.value.now)))) c.in-Err.ensures.cause

pub returns-in-Err-clause-left : goal.returns-in-Err-clause-left
returns-in-Err-clause-left g c = serves-most g.S.Store.tells c.args.agent.now c.cut.new.agent (seen c.args.handle.now c.args.notes.now) (seen c.cut.new.handle c.cut.new.notes) 1 2 (map_in c.args.agent.now (seen c.args.handle.now c.args.notes.now)) (omega arith) c.in-Err.ensures.serves
