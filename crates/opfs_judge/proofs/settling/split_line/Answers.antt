use Rattle.std.proofs.Common.{◌∙◌, take, drop, length, ap}
use Rattle.opfs_judge.specs.Fronts.{first_line}
use Rattle.opfs_judge.proofs.Lining.{line-taken, behind-line}
use Rattle.opfs_judge.proofs.settling.split_line.Goals as goal

pub returns-in-empty-clause-line : goal.returns-in-empty-clause-line
returns-in-empty-clause-line c =
    let text = c.args.text.now in
    c.split_at.ensures.front ∙ ap (λ n. take n text) c.line_length.ensures.line ∙ line-taken text

pub returns-in-len1-up-clause-line : goal.returns-in-len1-up-clause-line
returns-in-len1-up-clause-line c =
    let text = c.args.text.now in
    c.split_at.ensures.front ∙ ap (λ n. take n text) c.line_length.ensures.line ∙ line-taken text

pub returns-in-len1-up-clause-rest : goal.returns-in-len1-up-clause-rest
returns-in-len1-up-clause-rest c =
    let text = c.args.text.now in
    behind-line (length (first_line text)) text c.split_at.result.1.now (c.split_at.ensures.back ∙ ap (λ n. drop n text) c.line_length.ensures.line)
