use Rattle.std.proofs.Common.{◌≡◌, inr, map, ◌∙◌, arith}
use Rattle.std.proofs.lemmas.List.{length-take}
use Rattle.opfs_kv.specs.Asked.{IsCut, IsRepack}
use Rattle.opfs_kv.proofs.Asking.{end-asked}
use Rattle.opfs_kv.specs.Records.Maps.{Map}
use Rattle.opfs_kv.specs.Records.Records.{log_of, put_of}
use Rattle.opfs_sync_files.specs.Files.{file_bytes}
use Rattle.opfs_kv.specs.Seen.{map_in, seen}
use Rattle.opfs_kv.proofs.Results.{later-caused, on-ok}
use Rattle.opfs_kv.proofs.Rooms.{room-more}
use Rattle.opfs_kv.proofs.Serving.{all-cut, serves-most, serves-then}
use Rattle.opfs_kv.proofs.compacting.pack_in.Goals as goal

pub cut-requires-clause-own : goal.cut-requires-clause-own
cut-requires-clause-own g c = c.in-Ok.ensures.serves.goes.hall ∙ c.requires.own

pub cut-requires-clause-room : goal.cut-requires-clause-room
cut-requires-clause-room g c = room-more c.args.agent.now c.rewrite.new.agent 2 c.requires.room c.requires.more c.in-Ok.ensures.serves.goes

pub cut-requires-clause-stands : goal.cut-requires-clause-stands
cut-requires-clause-stands g c = c.in-Ok.ensures.serves.stands

pub returns-in-Ok-clause-serves : goal.returns-in-Ok-clause-serves
returns-in-Ok-clause-serves g c = serves-then g.S.Store.tells c.args.agent.now c.rewrite.new.agent c.cut.new.agent (seen c.args.handle.now c.args.notes.now) (seen c.rewrite.new.handle c.rewrite.new.notes) (seen c.cut.new.handle c.cut.new.notes) 2 1 (λ (m : Map). m) c.in-Ok.ensures.serves c.cut.ensures.serves

pub returns-in-Ok-clause-packed : goal.returns-in-Ok-clause-packed
returns-in-Ok-clause-packed g c =
    on-ok c.cut.result _ (g.S.Store.tells → file_bytes c.cut.new.agent c.cut.new.handle ≡ log_of (map put_of (map_in c.args.agent.now (seen c.args.handle.now c.args.notes.now)))) (λ none tell. all-cut g.S.Store.tells c.cut.new.agent (seen c.cut.new.handle c.cut.new.notes) c.cut.ensures.serves.stands none _ c.cut.ensures.same.1 ∙ c.cut.ensures.front ∙ c.in-Ok.ensures.front tell) c.cut.ensures.none

pub returns-in-Ok-clause-cause : goal.returns-in-Ok-clause-cause
returns-in-Ok-clause-cause g c =
    later-caused c.args.agent.now c.rewrite.new.agent c.cut.new.agent (IsCut (seen c.rewrite.new.handle c.rewrite.new.notes)) (IsRepack g.S.Store.tells (seen c.args.handle.now c.args.notes.now) (map_in c.args.agent.now (seen c.args.handle.now c.args.notes.now))) 2 c.cut.result
    (λ o h. inr (inr (end-asked g.S.Store.tells (seen c.args.handle.now c.args.notes.now) (seen c.rewrite.new.handle c.rewrite.new.notes) (map_in c.args.agent.now (seen c.args.handle.now c.args.notes.now)) (file_bytes c.rewrite.new.agent c.rewrite.new.handle) c.in-Ok.ensures.serves.row
    (length-take c.rewrite.new.notes.live (file_bytes c.rewrite.new.agent c.rewrite.new.handle) ∙ omega (arith, c.in-Ok.ensures.serves.stands.keeps.inside)) c.in-Ok.ensures.front o h))) c.in-Ok.ensures.serves.goes c.cut.ensures.cause

pub returns-in-Err-clause-serves : goal.returns-in-Err-clause-serves
returns-in-Err-clause-serves g c = serves-most g.S.Store.tells c.args.agent.now c.rewrite.new.agent (seen c.args.handle.now c.args.notes.now) (seen c.rewrite.new.handle c.rewrite.new.notes) 2 3 (map_in c.args.agent.now (seen c.args.handle.now c.args.notes.now)) (omega arith) c.in-Err.ensures.serves
