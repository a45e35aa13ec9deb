use Rattle.std.proofs.Common.{◌∙◌, ap}
use Rattle.opfs_transcripts.specs.Told.Reading.{ends}
use Rattle.opfs_judge.proofs.Lining.{bytes-end}
use Rattle.opfs_judge.proofs.settling.is_stuck_line.Goals as goal

pub returns : goal.returns
returns c =
    let line = c.args.line.now in
    bytes-end c.ends_with.result c.as_bytes.result.now line c.ends_with.ensures.value ∙ ap (λ end. ends end line) c.as_bytes.ensures.value
