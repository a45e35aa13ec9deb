use Rattle.std.proofs.Common.{◌≡◌, ◌∙◌, ◌+◌, ap, true, false, Some, sym, subst, arith}
use Rattle.opfs_script.specs.Limits.{keeps_limits}
use Rattle.opfs_script.specs.Scripts.{Asked}
use Rattle.opfs_gen.specs.Making.{gen_asked}
use Rattle.opfs_gen.specs.Rounds.{gen_steps}
use Rattle.opfs_gen.proofs.Limits.{agent-limits}
use Rattle.opfs_gen.proofs.making.agent_script.Goals as goal

pub make-requires : goal.make-requires
make-requires c =
    let seed = c.args.seed in
    let rounds = c.args.rounds in
    let k = c.args.agent in
    let fits = c.requires.seed in
    let steps = c.in_ok-steps.ensures ∙ ap (λ n. gen_steps (seed + n) rounds) c.from.ensures in
    let made : ◌≡◌ {A = Asked} (record { key = Some c.in_ok-key.key; grant = false; steps = c.in_ok-steps.steps.items }) (gen_asked seed rounds k) =
    λ i. record { key = Some (c.in_ok-key.ensures i); grant = false; steps = steps i } in
    subst (λ a. keeps_limits a ≡ true) (sym made) (agent-limits seed rounds k c.requires.rounds (omega (arith, fits)))
