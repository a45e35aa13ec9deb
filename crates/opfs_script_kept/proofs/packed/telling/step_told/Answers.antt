use Rattle.std.proofs.Common.{◌≡◌, sym, ap, ◌∙◌, subst, rules}
use Rattle.std.specs.Prelude.{IfOk}
use Rattle.opfs_script.proofs.JsonLemmas.{json_of-text, json_of-other}
use Rattle.opfs_script_kept.specs.Packed.Telling.{step_told, told_by}
use Rattle.opfs_script_kept.proofs.packed.telling.step_told.Goals as goal

pub returns-in_default : goal.returns-in_default
unfolding step_told
returns-in_default c = sym (ap told_by (json_of-other c.args.text.now c.in_default.ensures.cases.0))

pub returns-in-Ok-from_str : goal.returns-in-Ok-from_str
unfolding step_told
returns-in-Ok-from_str c =
    let read = json_of-text c.args.text.now c.in-Ok.ensures.cases.1 ∙ (rw c.in-Ok.ensures.cases.0 at c.in-Ok-from_str.ensures.ok) in
    subst (λ value. IfOk c.step_in.result (λ step. step ≡ told_by value)) (sym read) c.step_in.ensures

pub returns-in-Err-2 : goal.returns-in-Err-2
unfolding step_told
returns-in-Err-2 c =
    let read = json_of-text c.args.text.now c.in-Ok.ensures.cases.1 ∙ (rw c.in-Ok.ensures.cases.0 at c.in-Err-2.ensures.err (search rules)) in
    sym (ap told_by read)
