use Rattle.opfs_examples.proofs.script_runs.a_run_has_its_end.Goals as goal

pub returns : goal.returns
returns c = λ h. h.1.1.1.1.2.2
