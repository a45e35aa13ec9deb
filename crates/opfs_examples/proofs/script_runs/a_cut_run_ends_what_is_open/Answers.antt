use Rattle.std.proofs.Common.{refl}
use Rattle.opfs_examples.proofs.script_runs.a_cut_run_ends_what_is_open.Goals as goal

pub returns : goal.returns
returns c = (3, ((refl, refl), ((refl, refl), ((refl, refl), (refl, refl, (refl, refl, refl))))))
