use Rattle.std.proofs.Common.{◌∙◌, arith}
use Rattle.opfs_sync_files.specs.Files.{file_bytes}
use Rattle.opfs_kv.specs.Asked.{IsReadAll}
use Rattle.opfs_kv.specs.Packing.{IsAnew, IsAnewFor}
use Rattle.opfs_kv.specs.Seen.{seen}
use Rattle.opfs_kv.specs.declared.compacting.Anew.{Anew}
use Rattle.opfs_kv.proofs.Results.{if-ok, memory-caused}
use Rattle.opfs_kv.proofs.Serving.{read-whole, still-serves}
use Rattle.opfs_kv.proofs.compacting.read_anew.Goals as goal

pub read-requires-clause-len : goal.read-requires-clause-len
read-requires-clause-len g c = omega (arith, c.requires.stands.keeps.small)

pub read-requires-clause-handle : goal.read-requires-clause-handle
read-requires-clause-handle g c = c.requires.stands.has

pub anew_of-requires-clause-good : goal.anew_of-requires-clause-good
anew_of-requires-clause-good g c = c.requires.stands.keeps.fitting.good

pub anew_of-requires-clause-small : goal.anew_of-requires-clause-small
anew_of-requires-clause-small g c = omega (arith, c.requires.stands.keeps.fitting.fits, c.requires.stands.keeps.small)

pub returns-in-Ok-clause-serves : goal.returns-in-Ok-clause-serves
returns-in-Ok-clause-serves g c = still-serves g.S.Store.tells c.args.agent.now c.read.new.agent (seen c.args.handle.now c.args.notes.now) c.requires.stands c.read.new.handle c.in-Ok.ensures.still c.in-Ok.ensures.stored c.in-Ok.ensures.same

pub returns-in-Ok-clause-anew : goal.returns-in-Ok-clause-anew
returns-in-Ok-clause-anew g c =
    if-ok c.anew_of.result (λ (x : Anew). IsAnew c.as_slice.result.now c.args.notes.now.index x.bytes x.len x.index) (λ (x : Anew). IsAnewFor g.S.Store.tells (file_bytes c.args.agent.now c.args.handle.now) c.args.notes.now.index x.bytes x.len x.index)
    (λ x h. record { read = c.as_slice.result.now; told = λ tell. c.as_slice.ensures ∙ c.in-Ok.ensures.read tell ∙ read-whole g.S.Store.tells c.args.agent.now (seen c.args.handle.now c.args.notes.now) c.requires.stands c.requires.none; anew = h }) c.anew_of.ensures.anew

pub returns-in-Ok-clause-cause : goal.returns-in-Ok-clause-cause
returns-in-Ok-clause-cause g c = memory-caused c.args.agent.now c.read.new.agent (IsReadAll (seen c.args.handle.now c.args.notes.now)) c.anew_of.result c.anew_of.ensures.why

pub returns-in-Err-clause-serves : goal.returns-in-Err-clause-serves
returns-in-Err-clause-serves g c = still-serves g.S.Store.tells c.args.agent.now c.read.new.agent (seen c.args.handle.now c.args.notes.now) c.requires.stands c.read.new.handle c.in-Err.ensures.still c.in-Err.ensures.stored c.in-Err.ensures.same
