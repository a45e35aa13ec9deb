use Rattle.std.proofs.Common.{rules}
use Rattle.std.specs.Prelude.{is_ok}
use Rattle.opfs_hall.proofs.Owned.{adds_if}
use Rattle.opfs_hall_tests.specs.declared.marks.Mark.{Mark}
use Rattle.opfs_hall_tests.specs.Runs.{mark}
use Rattle.opfs_hall_tests.proofs.RunLemmas.{own_marks-turn}
use Rattle.opfs_hall_tests.proofs.agents.leave_mark.Goals as goal

pub leave-requires-clause-adds : goal.leave-requires-clause-adds
leave-requires-clause-adds g c =
    rw c.enter-turn.ensures.pass
    (adds_if (λ (m : Mark). m.agent) c.args.pass.now.agent (is_ok c.push.result) _ _ (mark c.agent-agent.result c.args.count) c.agent-agent.ensures c.push.ensures.items)

pub returns-clause-own : goal.returns-clause-own
returns-clause-own g c = own_marks-turn _ _ _ _ _ _ c.requires.agent c.enter-turn.ensures.grows (search rules)
