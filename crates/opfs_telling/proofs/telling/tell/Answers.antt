use Rattle.std.proofs.Common.{rules, ◌≡◌, ◌++◌, ◌∙◌, subst}
use Rattle.opfs_telling.proofs.Fronts.{rest-is, told-count, told-off, told-short}
use Rattle.opfs_telling.specs.Telling.{IsTold}
use Rattle.opfs_telling.specs.declared.telling.State.TheVariants as state
use Rattle.opfs_telling.proofs.telling.tell.Goals as goal

pub returns-then-ne : goal.returns-then-ne
returns-then-ne g c = record {
  told = λ begun before more given whole told.
      let off : c.args.progress.now.state ≡ state.On → ⊥ = search rules in
      told-off g.K.Sink begun c.args.sink.now c.args.progress.now before more off told;
}

pub returns-then-given-progress : goal.returns-then-given-progress
returns-then-given-progress g c = record { told = λ begun before more given whole told. told-short g.K.Sink begun c.args.sink.now c.args.progress.now _ _ before more told }

pub returns-then-len-most : goal.returns-then-len-most
returns-then-len-most g c = record {
  told = λ begun before more given whole told.
      let on : c.args.progress.now.state ≡ state.On = search rules in
      let at = c.if-given-progress.false ∙ told-count g.K.Sink begun c.args.sink.now c.args.progress.now before on told in
      let same = rest-is before more c.args.given.entries c.args.given.place given at in
      c.put_out.ensures.told begun (before ++ more)
      (subst (λ x. IsTold g.K.Sink begun c.tell_entries.new.sink c.tell_entries.new.progress (before ++ x)) same (c.tell_entries.ensures.told begun before told));
}

pub returns : goal.returns
returns g c = record {
  told = λ begun before more given whole told.
      let on : c.args.progress.now.state ≡ state.On = search rules in
      let at = c.if-given-progress.false ∙ told-count g.K.Sink begun c.args.sink.now c.args.progress.now before on told in
      let same = rest-is before more c.args.given.entries c.args.given.place given at in
      subst (λ x. IsTold g.K.Sink begun c.tell_entries.new.sink c.tell_entries.new.progress (before ++ x)) same (c.tell_entries.ensures.told begun before told);
}
