use Rattle.std.proofs.Common.{rules}
use Rattle.opfs_hall_tests.proofs.RunLemmas.{has_run_joined}
use Rattle.opfs_hall_tests.proofs.agents.+fn-run_all-join+arg3+run_all.Goals as goal

pub returns-in-Some-clause-run : goal.returns-in-Some-clause-run
returns-in-Some-clause-run g t c =
    let mine = c.join-mine.result.0 in
    let others = c.in-Some.others in
    rw (c.join_runs.ensures.pass, c.join_runs.ensures.complete)
    (has_run_joined c.args.hall.now c.args.turns c.in_ok-pass.pass mine.pass mine.complete (search rules) (search rules) (search rules)
    c.args.passes.items c.pop.new.self.items others.pass others.complete (search rules) (search rules))
