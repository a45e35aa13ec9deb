use Rattle.std.proofs.Common.{◌∙◌, arith}
use Rattle.opfs_kv.specs.Asked.{IsCutOr, IsFlush, IsRepack, IsTidyFlush}
use Rattle.opfs_kv.specs.Records.Maps.{Map}
use Rattle.opfs_kv.specs.Seen.{Flushes, Serves, map_in, seen}
use Rattle.opfs_kv.proofs.Asking.{flush-behind, repack-before}
use Rattle.opfs_kv.proofs.Flushing.{flushes-after}
use Rattle.opfs_kv.proofs.Results.{on-always, on-err, on-ok, plain-later, plain-may}
use Rattle.opfs_kv.proofs.Rooms.{room-after}
use Rattle.opfs_kv.proofs.Serving.{serves-most, serves-then}
use Rattle.opfs_kv.proofs.tidy_flush.compact_and_flush.Goals as goal

pub flush_file-requires-clause-own : goal.flush_file-requires-clause-own
flush_file-requires-clause-own g c = c.in-Ok.ensures.serves.goes.hall ∙ c.requires.own

pub flush_file-requires-clause-room : goal.flush_file-requires-clause-room
flush_file-requires-clause-room g c = room-after c.args.agent.now c.compact_file.new.agent 4 c.requires.few c.in-Ok.ensures.serves.goes (omega arith)

pub flush_file-requires-clause-more : goal.flush_file-requires-clause-more
flush_file-requires-clause-more g c = omega (arith, c.requires.few.entries, c.in-Ok.ensures.serves.goes.entries)

pub flush_file-requires-clause-stands : goal.flush_file-requires-clause-stands
flush_file-requires-clause-stands g c = c.in-Ok.ensures.serves.stands

pub returns-in-Ok-clause-flushed : goal.returns-in-Ok-clause-flushed
returns-in-Ok-clause-flushed g c =
    on-ok c.flush_file.result _ (Flushes g.S.Store.tells c.args.agent.now c.flush_file.new.agent (seen c.args.handle.now c.args.notes.now) (seen c.flush_file.new.handle c.flush_file.new.notes) 6 (map_in c.args.agent.now (seen c.args.handle.now c.args.notes.now))) (λ f. flushes-after g.S.Store.tells c.args.agent.now c.compact_file.new.agent c.flush_file.new.agent (seen c.args.handle.now c.args.notes.now) (seen c.compact_file.new.handle c.compact_file.new.notes) (seen c.flush_file.new.handle c.flush_file.new.notes) 4 2 c.in-Ok.ensures.serves f) c.flush_file.ensures.flushed

pub returns-in-Ok-clause-left : goal.returns-in-Ok-clause-left
returns-in-Ok-clause-left g c =
    on-err c.flush_file.result _ (Serves g.S.Store.tells c.args.agent.now c.flush_file.new.agent (seen c.args.handle.now c.args.notes.now) (seen c.flush_file.new.handle c.flush_file.new.notes) 6 (map_in c.args.agent.now (seen c.args.handle.now c.args.notes.now))) (λ s. serves-then g.S.Store.tells c.args.agent.now c.compact_file.new.agent c.flush_file.new.agent (seen c.args.handle.now c.args.notes.now) (seen c.compact_file.new.handle c.compact_file.new.notes) (seen c.flush_file.new.handle c.flush_file.new.notes) 4 2 (λ (m : Map). m) c.in-Ok.ensures.serves s) c.flush_file.ensures.left

pub returns-in-Ok-clause-packed : goal.returns-in-Ok-clause-packed
returns-in-Ok-clause-packed g c = on-always c.flush_file.result _ (λ tell. c.flush_file.ensures.same c.in-Ok.ensures.whole ∙ c.in-Ok.ensures.packed tell)

pub returns-in-Ok-clause-cause : goal.returns-in-Ok-clause-cause
returns-in-Ok-clause-cause g c =
    plain-later c.args.agent.now c.compact_file.new.agent c.flush_file.new.agent (IsCutOr (seen c.compact_file.new.handle c.compact_file.new.notes) (IsFlush (seen c.compact_file.new.handle c.compact_file.new.notes))) (IsCutOr (seen c.args.handle.now c.args.notes.now) (IsTidyFlush g.S.Store.tells (seen c.args.handle.now c.args.notes.now) (map_in c.args.agent.now (seen c.args.handle.now c.args.notes.now)))) 4 c.flush_file.result
    (flush-behind (seen c.args.handle.now c.args.notes.now) (seen c.compact_file.new.handle c.compact_file.new.notes) c.in-Ok.ensures.serves.row g.S.Store.tells (map_in c.args.agent.now (seen c.args.handle.now c.args.notes.now)) c.in-Ok.ensures.whole) c.in-Ok.ensures.serves.goes c.flush_file.ensures.cause

pub returns-in-Err-clause-left : goal.returns-in-Err-clause-left
returns-in-Err-clause-left g c = serves-most g.S.Store.tells c.args.agent.now c.compact_file.new.agent (seen c.args.handle.now c.args.notes.now) (seen c.compact_file.new.handle c.compact_file.new.notes) 4 6 (map_in c.args.agent.now (seen c.args.handle.now c.args.notes.now)) (omega arith) c.in-Err.ensures.serves

pub returns-in-Err-clause-cause : goal.returns-in-Err-clause-cause
returns-in-Err-clause-cause g c =
    plain-may c.args.agent.now c.compact_file.new.agent (IsCutOr (seen c.args.handle.now c.args.notes.now) (IsRepack g.S.Store.tells (seen c.args.handle.now c.args.notes.now) (map_in c.args.agent.now (seen c.args.handle.now c.args.notes.now)))) (IsCutOr (seen c.args.handle.now c.args.notes.now) (IsTidyFlush g.S.Store.tells (seen c.args.handle.now c.args.notes.now) (map_in c.args.agent.now (seen c.args.handle.now c.args.notes.now)))) c.in-Err.stop
    (repack-before (seen c.args.handle.now c.args.notes.now) g.S.Store.tells (map_in c.args.agent.now (seen c.args.handle.now c.args.notes.now)) c.requires.tidied) c.in-Err.ensures.cause
