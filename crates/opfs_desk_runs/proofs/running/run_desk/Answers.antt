use Rattle.std.proofs.Common.{ap}
use Rattle.opfs_desk_runs.proofs.running.run_desk.Goals as goal

pub returns-clause-fixed : goal.returns-clause-fixed
returns-clause-fixed g c = ap (λ o. o.fixed) c.in_ok-ran.ensures.opening
