use Rattle.std.proofs.Common.{◌∙◌, arith}
use Rattle.opfs_turns.specs.declared.asking.stop.Stop.{Stop}
use Rattle.opfs_agent.specs.declared.handle_calls.handle.ClosedSync.{ClosedSync}
use Rattle.opfs_kv.specs.Records.Maps.{Map}
use Rattle.opfs_sync_files.specs.Entries.{IsCaused}
use Rattle.opfs_kv.specs.Asked.{IsClose, IsCut, IsCutOr}
use Rattle.opfs_kv.proofs.Asking.{close-later, cut-first}
use Rattle.opfs_sync_files.proofs.Knowing.{caused-may}
use Rattle.opfs_kv.specs.Seen.{Closes, KvSeen, Serves, map_in, seen}
use Rattle.opfs_kv.proofs.Flushing.{closes-later}
use Rattle.opfs_kv.proofs.Results.{if-err, if-ok, later-may}
use Rattle.opfs_kv.proofs.Rooms.{places-room, room-after}
use Rattle.opfs_kv.proofs.Serving.{serves-most, serves-then}
use Rattle.opfs_kv.proofs.kv.cut_and_end.Goals as goal

pub cut-requires-clause-room : goal.cut-requires-clause-room
cut-requires-clause-room g c = places-room c.args.agent.now c.requires.few

pub end-requires-clause-own : goal.end-requires-clause-own
end-requires-clause-own g c = c.in-Ok.ensures.serves.goes.hall ∙ c.requires.own

pub end-requires-clause-room : goal.end-requires-clause-room
end-requires-clause-room g c = room-after c.args.agent.now c.cut.new.agent 1 c.requires.few c.in-Ok.ensures.serves.goes (omega arith)

pub end-requires-clause-stands : goal.end-requires-clause-stands
end-requires-clause-stands g c = c.in-Ok.ensures.serves.stands

pub end-requires-clause-none : goal.end-requires-clause-none
end-requires-clause-none g c = c.in-Ok.ensures.none

pub returns-in-Ok-clause-closed : goal.returns-in-Ok-clause-closed
returns-in-Ok-clause-closed g c =
    if-ok c.end.result (λ (x : ClosedSync). Closes g.S.Store.tells c.cut.new.agent c.end.new.agent (seen c.cut.new.handle c.cut.new.notes) (x.row) 1 (map_in c.cut.new.agent (seen c.cut.new.handle c.cut.new.notes))) (λ (x : ClosedSync). Closes g.S.Store.tells c.args.agent.now c.end.new.agent (seen c.args.handle c.args.notes) (x.row) 2 (map_in c.args.agent.now (seen c.args.handle c.args.notes))) (λ x h. closes-later g.S.Store.tells c.args.agent.now c.cut.new.agent c.end.new.agent (seen c.args.handle c.args.notes) (seen c.cut.new.handle c.cut.new.notes) x.row c.in-Ok.ensures.serves h) c.end.ensures.closed

pub returns-in-Ok-clause-back : goal.returns-in-Ok-clause-back
returns-in-Ok-clause-back g c =
    if-err c.end.result (λ (e : KvSeen × Stop). Serves g.S.Store.tells c.cut.new.agent c.end.new.agent (seen c.cut.new.handle c.cut.new.notes) e.0 1 (map_in c.cut.new.agent (seen c.cut.new.handle c.cut.new.notes))) (λ (e : KvSeen × Stop). Serves g.S.Store.tells c.args.agent.now c.end.new.agent (seen c.args.handle c.args.notes) e.0 2 (map_in c.args.agent.now (seen c.args.handle c.args.notes))) (λ e h. serves-then g.S.Store.tells c.args.agent.now c.cut.new.agent c.end.new.agent (seen c.args.handle c.args.notes) (seen c.cut.new.handle c.cut.new.notes) e.0 1 1 (λ (m : Map). m) c.in-Ok.ensures.serves h) c.end.ensures.back

pub returns-in-Ok-clause-cause : goal.returns-in-Ok-clause-cause
returns-in-Ok-clause-cause g c =
    if-err c.end.result (λ (e : KvSeen × Stop). IsCaused c.cut.new.agent c.end.new.agent (IsClose (seen c.cut.new.handle c.cut.new.notes)) e.1) (λ (e : KvSeen × Stop). IsCaused c.args.agent.now c.end.new.agent (IsCutOr (seen c.args.handle c.args.notes) (IsClose (seen c.args.handle c.args.notes))) e.1)
    (λ e h. later-may c.args.agent.now c.cut.new.agent c.end.new.agent (IsClose (seen c.cut.new.handle c.cut.new.notes)) (IsCutOr (seen c.args.handle c.args.notes) (IsClose (seen c.args.handle c.args.notes))) 1 e.1 (close-later (seen c.args.handle c.args.notes) (seen c.cut.new.handle c.cut.new.notes) c.in-Ok.ensures.serves.row) c.in-Ok.ensures.serves.goes h) c.end.ensures.cause

pub returns-in-Err-clause-cause : goal.returns-in-Err-clause-cause
returns-in-Err-clause-cause g c =
    caused-may c.args.agent.now c.cut.new.agent (IsCut (seen c.args.handle c.args.notes)) (IsCutOr (seen c.args.handle c.args.notes) (IsClose (seen c.args.handle c.args.notes))) c.in-Err.stop (cut-first (seen c.args.handle c.args.notes) (IsClose (seen c.args.handle c.args.notes))) c.in-Err.ensures.cause

pub returns-in-Err-clause-back : goal.returns-in-Err-clause-back
returns-in-Err-clause-back g c = serves-most g.S.Store.tells c.args.agent.now c.cut.new.agent (seen c.args.handle c.args.notes) (seen c.cut.new.handle c.cut.new.notes) 1 2 (map_in c.args.agent.now (seen c.args.handle c.args.notes)) (omega arith) c.in-Err.ensures.serves
