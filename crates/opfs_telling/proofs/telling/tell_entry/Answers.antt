use Rattle.std.proofs.Common.{rules, ◌≡◌, ◌++◌, ◌+◌, ◌∷◌, [], refl, sym, ap, ◌∙◌, append-nil}
use Rattle.opfs_print.specs.Lines.{line_of}
use Rattle.opfs_telling.proofs.Fronts.{told-more, told-off, told-short}
use Rattle.opfs_telling.specs.declared.telling.Progress.{Progress}
use Rattle.opfs_telling.specs.declared.telling.State.TheVariants as state
use Rattle.opfs_telling.proofs.telling.tell_entry.Goals as goal

pub returns-then-ne-clause-told : goal.returns-then-ne-clause-told
returns-then-ne-clause-told g c = λ begun before told.
    let off : c.args.progress.now.state ≡ state.On → ⊥ = search rules in
    told-off g.K.Sink begun c.args.sink.now c.args.progress.now before _ off told

pub returns-then-is_err-clause-told : goal.returns-then-is_err-clause-told
returns-then-is_err-clause-told g c = λ begun before told. told-short g.K.Sink begun c.args.sink.now c.args.progress.now _ _ before _ told

pub returns-then-len-ge-FULL-clause-told : goal.returns-then-len-ge-FULL-clause-told
returns-then-len-ge-FULL-clause-told g c = λ begun before told.
    let on : c.args.progress.now.state ≡ state.On = search rules in
    let grown : c.line.new.into.items ≡ c.args.progress.now.lines.items ++ line_of c.args.entry.now = search rules in
    let after : Progress = record { count = c.args.progress.now.count + 1; lines = c.line.new.into; state = c.args.progress.now.state } in
    c.put_out.ensures.told begun (before ++ c.args.entry.now ∷ [])
    (told-more g.K.Sink begun c.args.sink.now c.args.progress.now after before (c.args.entry.now ∷ []) on on told refl
    (grown ∙ ap (λ x. c.args.progress.now.lines.items ++ x) (sym (append-nil (line_of c.args.entry.now)))))
