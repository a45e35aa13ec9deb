use Rattle.std.proofs.Common.{◌≡◌, Bool, true, refl, sym, ap, subst, ◌∙◌}
use Rattle.std.specs.Prelude.{is_some}
use Rattle.opfs_kv.specs.Records.Maps.{Map, found}
use Rattle.opfs_sync_files.specs.Files.{file_bytes}
use Rattle.opfs_kv.specs.Seen.{Serves, map_in, seen}
use Rattle.opfs_kv.proofs.Kept.{found-none, found-some, no-place, out-none}
use Rattle.opfs_kv.proofs.Results.{if-ok}
use Rattle.opfs_kv.proofs.Serving.{serves-none}
use Rattle.opfs_kv.proofs.changing.delete.Goals as goal

pub returns-in-Some-clause-was : goal.returns-in-Some-clause-was
returns-in-Some-clause-was g c =
    if-ok c.take_out.result (λ (w : Bool). w ≡ true) (λ (w : Bool). w ≡ is_some (found (map_in c.args.agent.now (seen c.args.handle.now c.args.notes.now)) c.args.key.now)) (λ w h. h ∙ sym (found-some (file_bytes c.args.agent.now c.args.handle.now) c.args.notes.now.index c.args.key.now ∙ ap is_some (sym c.in-Some.ensures))) c.take_out.ensures.was

pub returns-in-Some-clause-none : goal.returns-in-Some-clause-none
returns-in-Some-clause-none g c = λ is. absurd (no-place _ (c.in-Some.ensures ∙ is))

pub returns-in-None-clause-was : goal.returns-in-None-clause-was
returns-in-None-clause-was g c = sym (found-some (file_bytes c.args.agent.now c.args.handle.now) c.args.notes.now.index c.args.key.now ∙ ap is_some (sym c.in-None.ensures))

pub returns-in-None-clause-gone : goal.returns-in-None-clause-gone
returns-in-None-clause-gone g c = subst (λ (m : Map). Serves g.S.Store.tells c.args.agent.now c.args.agent.now (seen c.args.handle.now c.args.notes.now) (seen c.args.handle.now c.args.notes.now) 2 m) (sym (out-none (map_in c.args.agent.now (seen c.args.handle.now c.args.notes.now)) c.args.key.now (found-none (file_bytes c.args.agent.now c.args.handle.now) c.args.notes.now.index c.args.key.now (sym c.in-None.ensures)))) (serves-none g.S.Store.tells c.args.agent.now (seen c.args.handle.now c.args.notes.now) 2 c.requires.stands)

pub returns-in-None-clause-none : goal.returns-in-None-clause-none
returns-in-None-clause-none g c = λ is. (refl, refl)

pub returns-in-None-clause-full : goal.returns-in-None-clause-full
returns-in-None-clause-full g c = λ some. absurd (some (sym c.in-None.ensures))
