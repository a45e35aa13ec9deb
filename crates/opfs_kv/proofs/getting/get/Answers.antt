use Rattle.std.proofs.Common.{◌≡◌, Option, Some, None, Ok, IfErr, refl, sym, subst}
use Rattle.opfs_base.specs.Texts.{Text}
use Rattle.opfs_kv.specs.Records.Maps.{found}
use Rattle.opfs_kv.specs.declared.records.place.Place.{Place}
use Rattle.opfs_splice.specs.Splicing.{window}
use Rattle.opfs_sync_files.specs.Files.{file_bytes}
use Rattle.opfs_kv.specs.Calls.{HasPlainCause, IsGotten}
use Rattle.opfs_kv.specs.Asked.{IsGet}
use Rattle.opfs_kv.specs.Seen.{map_in, seen}
use Rattle.opfs_kv.proofs.Kept.{found-here, found-none}
use Rattle.opfs_kv.proofs.Results.{if-ok}
use Rattle.opfs_kv.proofs.Serving.{serves-none}
use Rattle.std.proofs.Common.{◌∙◌}
use Rattle.opfs_kv.proofs.getting.get.Goals as goal

pub returns-in-Some-clause-value : goal.returns-in-Some-clause-value
returns-in-Some-clause-value g c =
    if-ok c.value_at.result (λ (v : Option Text). g.S.Store.tells → v ≡ Some (window (file_bytes c.args.agent.now c.args.handle.now) c.in-Some.place.at c.in-Some.place.len)) (λ (v : Option Text). g.S.Store.tells → v ≡ found (map_in c.args.agent.now (seen c.args.handle.now c.args.notes.now)) c.args.key.now) (λ v h tell. h tell ∙ sym (found-here (file_bytes c.args.agent.now c.args.handle.now) c.args.notes.now.index c.args.key.now c.in-Some.place (sym c.in-Some.ensures))) c.value_at.ensures.value

pub returns-in-Some-clause-once : goal.returns-in-Some-clause-once
returns-in-Some-clause-once g c = subst (λ (o : Option Place). IsGotten g.S.Store.tells c.args.agent.now c.value_at.new.agent c.args.handle.now.row o c.value_at.result) c.in-Some.ensures c.value_at.ensures.read

pub returns-in-None-clause-serves : goal.returns-in-None-clause-serves
returns-in-None-clause-serves g c = serves-none g.S.Store.tells c.args.agent.now (seen c.args.handle.now c.args.notes.now) 1 c.requires.stands

pub returns-in-None-clause-value : goal.returns-in-None-clause-value
returns-in-None-clause-value g c = λ tell. sym (found-none (file_bytes c.args.agent.now c.args.handle.now) c.args.notes.now.index c.args.key.now (sym c.in-None.ensures))

pub returns-in-None-clause-once : goal.returns-in-None-clause-once
returns-in-None-clause-once g c = subst (λ (o : Option Place). IsGotten g.S.Store.tells c.args.agent.now c.args.agent.now c.args.handle.now.row o (Ok None)) c.in-None.ensures (refl, refl)

pub returns-in-Some-clause-cause : goal.returns-in-Some-clause-cause
returns-in-Some-clause-cause g c = subst (λ (o : Option Place). IfErr c.value_at.result (HasPlainCause c.args.agent.now c.value_at.new.agent (IsGet c.args.handle.now.row o))) c.in-Some.ensures c.value_at.ensures.cause
