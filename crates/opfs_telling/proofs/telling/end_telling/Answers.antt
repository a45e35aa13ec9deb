use Rattle.opfs_telling.proofs.Fronts.{told-ended}
use Rattle.opfs_telling.proofs.telling.end_telling.Goals as goal

pub returns-clause-put : goal.returns-clause-put
returns-clause-put g c = λ begun h told. told-ended g.K.Sink begun c.put_out.new.sink c.put_out.new.progress h c.put_out.ensures.none (c.put_out.ensures.told begun h told)

pub returns-clause-later : goal.returns-clause-later
returns-clause-later g c = λ begun h told. (c.put_out.ensures.told begun h told).later
