use Rattle.std.proofs.Common.{◌≡◌, map, ap, subst, sym, ◌∙◌, arith, take, inl, inr}
use Rattle.opfs_base.specs.Texts.{Text}
use Rattle.opfs_kv.specs.Records.Maps.{Map}
use Rattle.opfs_kv.specs.Records.Records.{log_of, put_of}
use Rattle.opfs_sync_files.specs.Files.{file_bytes}
use Rattle.opfs_kv.specs.Asked.{IsReadAll, IsRepack, IsRewrite}
use Rattle.opfs_kv.proofs.Asking.{rewrite-later}
use Rattle.opfs_sync_files.proofs.Knowing.{caused-may}
use Rattle.opfs_kv.specs.Packing.{IsAnewFor}
use Rattle.opfs_kv.specs.Seen.{map_in, seen}
use Rattle.opfs_kv.proofs.Results.{later-caused, on-ok}
use Rattle.opfs_kv.proofs.Rooms.{room-next}
use Rattle.opfs_kv.proofs.Serving.{serves-most, serves-then}
use Rattle.opfs_kv.proofs.compacting.rewrite.Goals as goal

pub write_anew-requires-clause-own : goal.write_anew-requires-clause-own
write_anew-requires-clause-own g c = c.in-Ok.ensures.serves.goes.hall ∙ c.requires.own

pub write_anew-requires-clause-room : goal.write_anew-requires-clause-room
write_anew-requires-clause-room g c = room-next c.args.agent.now c.read_anew.new.agent c.requires.room c.requires.more c.in-Ok.ensures.serves.goes

pub write_anew-requires-clause-stands : goal.write_anew-requires-clause-stands
write_anew-requires-clause-stands g c = c.in-Ok.ensures.serves.stands

pub write_anew-requires-clause-anew : goal.write_anew-requires-clause-anew
write_anew-requires-clause-anew g c = subst (λ (t : Text). IsAnewFor g.S.Store.tells t c.args.notes.now.index c.in-Ok.anew.bytes c.in-Ok.anew.len c.in-Ok.anew.index) (sym c.in-Ok.ensures.same) c.in-Ok.ensures.anew

pub returns-in-Ok-clause-serves : goal.returns-in-Ok-clause-serves
returns-in-Ok-clause-serves g c = serves-then g.S.Store.tells c.args.agent.now c.read_anew.new.agent c.write_anew.new.agent (seen c.args.handle.now c.args.notes.now) (seen c.read_anew.new.handle c.args.notes.now) (seen c.write_anew.new.handle c.write_anew.new.notes) 1 1 (λ (m : Map). m) c.in-Ok.ensures.serves c.write_anew.ensures.serves

pub returns-in-Ok-clause-front : goal.returns-in-Ok-clause-front
returns-in-Ok-clause-front g c =
    on-ok c.write_anew.result _ (g.S.Store.tells → take c.write_anew.new.notes.live (file_bytes c.write_anew.new.agent c.write_anew.new.handle) ≡ log_of (map put_of (map_in c.args.agent.now (seen c.args.handle.now c.args.notes.now)))) (λ f tell. f tell ∙ ap (λ (m : Map). log_of (map put_of m)) (c.in-Ok.ensures.serves.map tell)) c.write_anew.ensures.front

pub returns-in-Ok-clause-cause : goal.returns-in-Ok-clause-cause
returns-in-Ok-clause-cause g c =
    later-caused c.args.agent.now c.read_anew.new.agent c.write_anew.new.agent (IsRewrite g.S.Store.tells c.read_anew.new.handle.row (map_in c.read_anew.new.agent (seen c.read_anew.new.handle c.args.notes.now))) (IsRepack g.S.Store.tells (seen c.args.handle.now c.args.notes.now) (map_in c.args.agent.now (seen c.args.handle.now c.args.notes.now))) 1 c.write_anew.result
    (λ o h. inr (inl (rewrite-later (seen c.args.handle.now c.args.notes.now) (seen c.read_anew.new.handle c.args.notes.now) c.in-Ok.ensures.serves.row g.S.Store.tells (map_in c.args.agent.now (seen c.args.handle.now c.args.notes.now)) (map_in c.read_anew.new.agent (seen c.read_anew.new.handle c.args.notes.now)) c.in-Ok.ensures.serves.map o h))) c.in-Ok.ensures.serves.goes c.write_anew.ensures.cause

pub returns-in-Err-clause-cause : goal.returns-in-Err-clause-cause
returns-in-Err-clause-cause g c =
    caused-may c.args.agent.now c.read_anew.new.agent (IsReadAll (seen c.args.handle.now c.args.notes.now)) (IsRepack g.S.Store.tells (seen c.args.handle.now c.args.notes.now) (map_in c.args.agent.now (seen c.args.handle.now c.args.notes.now))) c.in-Err.stop (λ o h. inl h) c.in-Err.ensures.cause

pub returns-in-Err-clause-serves : goal.returns-in-Err-clause-serves
returns-in-Err-clause-serves g c = serves-most g.S.Store.tells c.args.agent.now c.read_anew.new.agent (seen c.args.handle.now c.args.notes.now) (seen c.read_anew.new.handle c.args.notes.now) 1 2 (map_in c.args.agent.now (seen c.args.handle.now c.args.notes.now)) (omega arith) c.in-Err.ensures.serves
