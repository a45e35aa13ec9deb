use Rattle.std.proofs.Common.{sym, subst}
use Rattle.opfs_judge.specs.Verdicts.{IsJudged}
use Rattle.opfs_judge.proofs.Finding.{judged}
use Rattle.opfs_judge.proofs.judging.judge.Goals as goal

pub returns : goal.returns
returns c =
    let script = c.args.script.now in
    let text = c.args.transcript.now in
    subst (IsJudged script text) (sym c.verdict_of.ensures)
    (judged script c.in_ok-found.ensures.keys c.in_ok-found.ensures.few text c.in_ok-found.found (sym c.if-is_unsettled.ensures) c.in_ok-found.ensures.read)
