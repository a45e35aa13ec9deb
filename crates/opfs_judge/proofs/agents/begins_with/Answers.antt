use Rattle.std.proofs.Common.{◌∙◌, ap}
use Rattle.opfs_transcripts.specs.Told.Reading.{begins}
use Rattle.opfs_judge.proofs.Texts.{bytes-begin}
use Rattle.opfs_judge.proofs.agents.begins_with.Goals as goal

pub returns : goal.returns
returns c = bytes-begin c.starts_with.result c.as_slice.result.now c.args.text.now c.starts_with.ensures.value ∙ ap (λ front. begins front c.args.text.now) c.as_slice.ensures
