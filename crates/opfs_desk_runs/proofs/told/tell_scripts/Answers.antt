use Rattle.std.proofs.Common.{rules, ◌∙◌, ap, subst}
use Rattle.opfs_outside.specs.Turns.{of_sink}
use Rattle.opfs_telling.specs.Telling.{HasPut}
use Rattle.opfs_desk_runs.proofs.told.tell_scripts.Goals as goal

pub returns-in-Ok-clause-opening : goal.returns-in-Ok-clause-opening
returns-in-Ok-clause-opening g c =
    let of = ap (λ o. o.of) c.in-Ok.ensures.opening in
    rw (c.end-store.ensures.store) (of ∙ ap g.S.Chronicle.opening c.make-teller.ensures.store)

pub returns-in-Ok-clause-cut : goal.returns-in-Ok-clause-cut
returns-in-Ok-clause-cut g c = rw (c.end-store.ensures.store) c.in-Ok.ensures.cut

pub returns-in-Ok-clause-put : goal.returns-in-Ok-clause-put
returns-in-Ok-clause-put g c =
    let name = ap (λ o. o.name) c.in-Ok.ensures.opening in
    let begun = ap (λ o. o.begun) c.in-Ok.ensures.opening ∙ c.make-teller.ensures.begun in
    let end = c.end-store in
    let put = subst (λ b. HasPut (of_sink g.K.Sink b end.result.sink.now) (g.S.Chronicle.entries c.in-Ok.field-0.store.store) end.result.state) begun end.ensures.put in
    subst (λ k. HasPut (of_sink g.K.Sink c.args.sink.now k) (g.S.Chronicle.entries end.result.store) end.result.state) {x = end.result.sink.now} (search rules) (rw (end.ensures.store) put)

pub returns-in-Ok-clause-later : goal.returns-in-Ok-clause-later
returns-in-Ok-clause-later g c =
    let name = ap (λ o. o.name) c.in-Ok.ensures.opening in
    let begun = ap (λ o. g.K.Sink.faults o.begun) c.in-Ok.ensures.opening in
    let later = c.end-store.ensures.later in
    let was = c.make-teller.ensures.begun in
    search rules
