use Rattle.std.proofs.Common.{rules, ◌≡◌, List, ℕ, refl, subst}
use Rattle.opfs_outside.specs.Turns.{of_sink, Took, TookFront}
use Rattle.opfs_telling.proofs.Fronts.{told-failed, told-put}
use Rattle.opfs_telling.specs.declared.telling.Progress.{Progress}
use Rattle.opfs_telling.specs.declared.telling.State.TheVariants as state
use Rattle.opfs_telling.proofs.telling.put_out.Goals as goal

pub returns-in-Ok-clause-told : goal.returns-in-Ok-clause-told
returns-in-Ok-clause-told g c = λ begun h told.
    let on : c.args.progress.now.state ≡ state.On = search rules in
    let after : Progress = record { count = c.args.progress.now.count; lines = c.clear.new.self; state = c.args.progress.now.state } in
    told-put g.K.Sink begun c.args.sink.now c.put_all.new.sink c.args.progress.now after h on on refl told c.in-Ok.ensures.later
    (subst (λ bytes. Took (of_sink g.K.Sink c.args.sink.now c.put_all.new.sink) bytes) c.as_slice.ensures.value c.in-Ok.ensures.ok) c.clear.ensures.items

pub returns-in-Err-clause-told : goal.returns-in-Err-clause-told
returns-in-Err-clause-told g c = λ begun h told.
    let on : c.args.progress.now.state ≡ state.On = search rules in
    let after : Progress = record { count = c.args.progress.now.count; lines = c.args.progress.now.lines; state = state.Failed } in
    told-failed g.K.Sink begun c.args.sink.now c.put_all.new.sink c.args.progress.now after h on refl told c.in-Err.ensures.later c.in-Err.ensures.cause
    (subst (λ bytes. (left : List ℕ) × TookFront (of_sink g.K.Sink c.args.sink.now c.put_all.new.sink) bytes left) c.as_slice.ensures.value c.in-Err.ensures.err)
