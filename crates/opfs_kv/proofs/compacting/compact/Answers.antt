use Rattle.std.proofs.Common.{◌≡◌, inl, inr, map, ap, ◌∙◌, arith}
use Rattle.opfs_kv.specs.Asked.{IsCut, IsCutOr, IsRepack}
use Rattle.opfs_kv.proofs.Asking.{repack-later}
use Rattle.opfs_sync_files.proofs.Knowing.{caused-may}
use Rattle.opfs_kv.specs.Records.Maps.{Map}
use Rattle.opfs_kv.specs.Records.Records.{log_of, put_of}
use Rattle.opfs_sync_files.specs.Files.{file_bytes}
use Rattle.opfs_kv.specs.Seen.{map_in, seen}
use Rattle.opfs_kv.proofs.Results.{later-caused, on-ok}
use Rattle.opfs_kv.proofs.Rooms.{places-room, room-after}
use Rattle.opfs_kv.proofs.Serving.{serves-most, serves-then}
use Rattle.opfs_kv.proofs.compacting.compact.Goals as goal

pub cut-requires-clause-room : goal.cut-requires-clause-room
cut-requires-clause-room g c = places-room c.args.agent.now c.requires.few

pub pack_in-requires-clause-own : goal.pack_in-requires-clause-own
pack_in-requires-clause-own g c = c.in-Ok.ensures.serves.goes.hall ∙ c.requires.own

pub pack_in-requires-clause-room : goal.pack_in-requires-clause-room
pack_in-requires-clause-room g c = room-after c.args.agent.now c.cut.new.agent 1 c.requires.few c.in-Ok.ensures.serves.goes (omega arith)

pub pack_in-requires-clause-more : goal.pack_in-requires-clause-more
pack_in-requires-clause-more g c = omega (arith, c.requires.few.entries, c.in-Ok.ensures.serves.goes.entries)

pub pack_in-requires-clause-stands : goal.pack_in-requires-clause-stands
pack_in-requires-clause-stands g c = c.in-Ok.ensures.serves.stands

pub pack_in-requires-clause-none : goal.pack_in-requires-clause-none
pack_in-requires-clause-none g c = c.in-Ok.ensures.none

pub returns-in-Ok-clause-serves : goal.returns-in-Ok-clause-serves
returns-in-Ok-clause-serves g c = serves-then g.S.Store.tells c.args.agent.now c.cut.new.agent c.pack_in.new.agent (seen c.args.handle.now c.args.notes.now) (seen c.cut.new.handle c.cut.new.notes) (seen c.pack_in.new.handle c.pack_in.new.notes) 1 3 (λ (m : Map). m) c.in-Ok.ensures.serves c.pack_in.ensures.serves

pub returns-in-Ok-clause-packed : goal.returns-in-Ok-clause-packed
returns-in-Ok-clause-packed g c =
    on-ok c.pack_in.result _ (g.S.Store.tells → file_bytes c.pack_in.new.agent c.pack_in.new.handle ≡ log_of (map put_of (map_in c.args.agent.now (seen c.args.handle.now c.args.notes.now)))) (λ f tell. f tell ∙ ap (λ (m : Map). log_of (map put_of m)) (c.in-Ok.ensures.serves.map tell)) c.pack_in.ensures.packed

pub returns-in-Ok-clause-cause : goal.returns-in-Ok-clause-cause
returns-in-Ok-clause-cause g c =
    later-caused c.args.agent.now c.cut.new.agent c.pack_in.new.agent (IsRepack g.S.Store.tells (seen c.cut.new.handle c.cut.new.notes) (map_in c.cut.new.agent (seen c.cut.new.handle c.cut.new.notes))) (IsCutOr (seen c.args.handle.now c.args.notes.now) (IsRepack g.S.Store.tells (seen c.args.handle.now c.args.notes.now) (map_in c.args.agent.now (seen c.args.handle.now c.args.notes.now)))) 1 c.pack_in.result
    (λ o h. inr (repack-later (seen c.args.handle.now c.args.notes.now) (seen c.cut.new.handle c.cut.new.notes) c.in-Ok.ensures.serves.row g.S.Store.tells (map_in c.args.agent.now (seen c.args.handle.now c.args.notes.now)) (map_in c.cut.new.agent (seen c.cut.new.handle c.cut.new.notes)) c.in-Ok.ensures.serves.map c.in-Ok.ensures.same.1 o h)) c.in-Ok.ensures.serves.goes c.pack_in.ensures.cause

pub returns-in-Err-clause-cause : goal.returns-in-Err-clause-cause
returns-in-Err-clause-cause g c =
    caused-may c.args.agent.now c.cut.new.agent (IsCut (seen c.args.handle.now c.args.notes.now)) (IsCutOr (seen c.args.handle.now c.args.notes.now) (IsRepack g.S.Store.tells (seen c.args.handle.now c.args.notes.now) (map_in c.args.agent.now (seen c.args.handle.now c.args.notes.now)))) c.in-Err.stop (λ o h. inl h) c.in-Err.ensures.cause

pub returns-in-Err-clause-serves : goal.returns-in-Err-clause-serves
returns-in-Err-clause-serves g c = serves-most g.S.Store.tells c.args.agent.now c.cut.new.agent (seen c.args.handle.now c.args.notes.now) (seen c.cut.new.handle c.cut.new.notes) 1 4 (map_in c.args.agent.now (seen c.args.handle.now c.args.notes.now)) (omega arith) c.in-Err.ensures.serves
