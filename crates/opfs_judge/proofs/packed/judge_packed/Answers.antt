use Rattle.std.proofs.Common.{◌∙◌, sym, subst}
use Rattle.opfs_judge.specs.Verdicts.{IsJudged}
use Rattle.opfs_judge.proofs.Finding.{judged}
use Rattle.opfs_judge.proofs.packed.judge_packed.Goals as goal

pub returns : goal.returns
returns c =
    let script = c.args.script.now in
    let text = c.args.transcript.now in
    subst (IsJudged script text) (sym c.verdict_of.ensures)
    (judged script c.in_ok-found.ensures.keys c.in_ok-found.ensures.few text c.in_ok-found.found (sym c.in_ok-unsettled.ensures ∙ c.if-unsettled.false) c.in_ok-found.ensures.read)
