use Rattle.std.proofs.Common.{arith, refl}
use Rattle.opfs_port.proofs.Talks.{nothing_said, more_said, later_broke, on_err}
use Rattle.opfs_port.proofs.conversing.converse.Goals as goal

pub loop-init : goal.loop-init
loop-init g c = record { talk = λ t. nothing_said _ _ _ _ _ _ refl refl; later = omega arith }

pub loop-preserved : goal.loop-preserved
loop-preserved g c = record {
  talk = λ t. more_said _ _ _ _ _ _ _ _ _ _ (c.loop.invariant.talk t) (c.in_ok-turn.ensures.talk t);
  later = omega (arith, c.loop.invariant.later, c.turn.ensures.later);
}

pub returns-then-not-branch-clause-talk : goal.returns-then-not-branch-clause-talk
returns-then-not-branch-clause-talk g c = λ t. more_said _ _ _ _ _ _ _ _ _ _ (c.loop.invariant.talk t) (c.in_ok-turn.ensures.talk t)

pub returns-in_err-turn-clause-broke : goal.returns-in_err-turn-clause-broke
returns-in_err-turn-clause-broke g c = on_err _ g.P.Port.tells _ (λ t. later_broke _ _ _ _ _ _ _ _ _ _ _ (c.loop.invariant.talk t) (c.in_err-turn.ensures.broke t))
