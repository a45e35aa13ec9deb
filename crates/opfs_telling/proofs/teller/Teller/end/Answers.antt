use Rattle.std.proofs.Common.{subst}
use Rattle.opfs_outside.specs.Turns.{of_sink}
use Rattle.opfs_telling.specs.Telling.{HasPut}
use Rattle.opfs_telling.proofs.teller.Teller.end.Goals as goal

pub returns-clause-put : goal.returns-clause-put
returns-clause-put g c =
    subst (λ s. HasPut (of_sink g.K.Sink c.args.self.begun c.end_telling-state.new.sink) (g.S.Chronicle.entries s) c.end_telling-state.result) c.into_parts-store.ensures.store
    (c.end_telling-state.ensures.put c.args.self.begun (g.S.Chronicle.entries c.into_parts-store.result.store) c.into_parts-store.ensures.told)

pub returns-clause-later : goal.returns-clause-later
returns-clause-later g c = c.end_telling-state.ensures.later c.args.self.begun (g.S.Chronicle.entries c.into_parts-store.result.store) c.into_parts-store.ensures.told
