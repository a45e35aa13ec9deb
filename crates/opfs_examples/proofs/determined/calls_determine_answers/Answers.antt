use Rattle.std.proofs.Common.{[], sym, ap, ◌∙◌}
use Rattle.opfs_machine.specs.Openings.{begun}
use Rattle.opfs_machine.specs.Runs.{run}
use Rattle.opfs_examples.proofs.Made.{made}
use Rattle.opfs_examples.proofs.determined.calls_determine_answers.Goals as goal

pub returns : goal.returns
returns c o es fs legal_es legal_fs sound_es sound_fs same =
    made (begun o) [] es legal_es sound_es
    ∙ ap (λ calls. run (begun o) calls) same
    ∙ sym (made (begun o) [] fs legal_fs sound_fs)
