use Rattle.std.proofs.Common.{◌≡◌, refl, length, sym, ap, ◌∙◌, subst, arith}
use Rattle.opfs_hall.specs.Seen.{HasAll}
use Rattle.opfs_runner.proofs.run.running.run_scripts.Goals as goal

pub close-store-requires-clause-all : goal.close-store-requires-clause-all
close-store-requires-clause-all g c =
    let none : length c.args.scripts.now ≡ 0 = sym c.in_ok-court.ensures.count ∙ ap length (c.in-None.ensures.none.0 refl) in
    let agents = c.in_ok-court.ensures.agents in
    subst HasAll (sym c.in_ok-court.ensures.owner) (λ k most other. absurd (other (omega (arith, most, agents, none))))
