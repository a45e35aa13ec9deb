use Rattle.opfs_kv.specs.Seen.{seen}
use Rattle.opfs_kv.proofs.Flushing.{flushed-goes}
use Rattle.opfs_kv.proofs.tidy_flush.flush.Goals as goal

pub returns-clause-plain : goal.returns-clause-plain
returns-clause-plain g c = λ not.
    flushed-goes g.S.Store.tells c.args.agent.now c.flush_file.new.agent (seen c.args.handle.now c.args.notes.now) (seen c.flush_file.new.handle c.flush_file.new.notes) 2 _ _ c.flush_file.result c.flush_file.ensures.flushed c.flush_file.ensures.left
