use Rattle.std.proofs.Common.{◌∙◌, ◌++◌, ◌+◌, ◌-◌, ap}
use Rattle.opfs_gen.specs.Drawing.{round_after, round_of}
use Rattle.opfs_gen.specs.Rounds.{gen_steps, round_steps, rounds_steps}
use Rattle.opfs_gen.proofs.Looping.{one-less, part-next}
use Rattle.opfs_gen.proofs.making.steps_of.Goals as goal

pub loop-preserved : goal.loop-preserved
loop-preserved c =
    let x = c.loop.x in
    let left = c.args.rounds - (c.loop.counter + 1) in
    ap (λ y. c.add_round.new.steps.items ++ rounds_steps y left) c.draw_round-after.ensures.after
    ∙ part-next c.loop.steps.items c.add_round.new.steps.items (round_steps (round_of x)) (rounds_steps (round_after x) left) (rounds_steps x (c.args.rounds - c.loop.counter)) (gen_steps c.args.start c.args.rounds)
    (c.in_ok-add_round.ensures ∙ ap (λ r. c.loop.steps.items ++ round_steps r) c.draw_round-after.ensures.round)
    (ap (rounds_steps x) (one-less c.args.rounds c.loop.counter c.loop-test.true)) c.loop.invariant
