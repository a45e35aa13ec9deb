use Rattle.std.proofs.Common.{◌∙◌, take, drop, length, ap}
use Rattle.opfs_top.specs.Doing.{script_part}
use Rattle.opfs_top.proofs.Parting.{script-taken, behind-script}
use Rattle.opfs_top.proofs.parts.parts.Goals as goal

pub returns-in-empty-clause-script : goal.returns-in-empty-clause-script
returns-in-empty-clause-script c =
    let bytes = c.args.bytes.now in
    c.split_at.ensures.front ∙ ap (λ n. take n bytes) c.script_length.ensures.front ∙ script-taken bytes

pub returns-in-len1-up-clause-script : goal.returns-in-len1-up-clause-script
returns-in-len1-up-clause-script c =
    let bytes = c.args.bytes.now in
    c.split_at.ensures.front ∙ ap (λ n. take n bytes) c.script_length.ensures.front ∙ script-taken bytes

pub returns-in-len1-up-clause-transcript : goal.returns-in-len1-up-clause-transcript
returns-in-len1-up-clause-transcript c =
    let bytes = c.args.bytes.now in
    behind-script (length (script_part bytes)) bytes c.split_at.result.1.now (c.split_at.ensures.back ∙ ap (λ n. drop n bytes) c.script_length.ensures.front)
