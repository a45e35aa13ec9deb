use Rattle.std.proofs.Common.{ap, arith, rules, take}
use Rattle.opfs_base.specs.Texts.{Text}
use Rattle.opfs_kv.specs.Asked.{IsCut}
use Rattle.opfs_hist.specs.declared.op.Op.TheVariants as op
use Rattle.opfs_sync_files.specs.Entries.{TheCall}
use Rattle.opfs_sync_files.proofs.Knowing.{caused-may}
use Rattle.opfs_kv.specs.Seen.{seen}
use Rattle.opfs_kv.proofs.Serving.{cut-front, cut-serves, still-serves}
use Rattle.opfs_kv.proofs.storing.cut.Goals as goal

pub truncate-requires-clause-size : goal.truncate-requires-clause-size
truncate-requires-clause-size g c = omega (arith, c.requires.stands.keeps.small)

pub returns-in-Ok-clause-serves : goal.returns-in-Ok-clause-serves
returns-in-Ok-clause-serves g c = cut-serves g.S.Store.tells c.args.agent.now c.truncate.new.agent (seen c.args.handle.now c.args.notes.now) c.requires.stands c.truncate.new.handle c.in-Ok.ensures.still c.in-Ok.ensures.stored c.in-Ok.ensures.cut

pub returns-in-Ok-clause-front : goal.returns-in-Ok-clause-front
returns-in-Ok-clause-front g c = cut-front g.S.Store.tells c.args.agent.now c.truncate.new.agent (seen c.args.handle.now c.args.notes.now) c.requires.stands c.truncate.new.handle c.in-Ok.ensures.still c.in-Ok.ensures.stored c.in-Ok.ensures.cut

pub returns-in-Err-clause-serves : goal.returns-in-Err-clause-serves
returns-in-Err-clause-serves g c = still-serves g.S.Store.tells c.args.agent.now c.truncate.new.agent (seen c.args.handle.now c.args.notes.now) c.requires.stands c.truncate.new.handle c.in-Err.ensures.still c.in-Err.ensures.stored c.in-Err.ensures.same

pub returns-in-Err-clause-front : goal.returns-in-Err-clause-front
returns-in-Err-clause-front g c = ap (λ (t : Text). take c.args.notes.now.live t) c.in-Err.ensures.same

pub returns-in-Err-clause-cause : goal.returns-in-Err-clause-cause
returns-in-Err-clause-cause g c =
    caused-may c.args.agent.now c.truncate.new.agent (TheCall (op.SyncTruncate c.args.handle.now.row c.args.notes.now.live)) (IsCut (seen c.args.handle.now c.args.notes.now)) c.in-Err.stop
    (λ o is. (search rules, is)) c.in-Err.ensures.cause
