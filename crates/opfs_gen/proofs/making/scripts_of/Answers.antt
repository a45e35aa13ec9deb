use Rattle.std.proofs.Common.{◌∷◌, [], ◌+◌, ◌-◌, ap}
use Rattle.opfs_gen.specs.Making.{agents_from, gen_asked, gen_script}
use Rattle.opfs_gen.proofs.Looping.{one-less, part-next}
use Rattle.opfs_gen.proofs.making.scripts_of.Goals as goal

pub loop-index-preserved : goal.loop-index-preserved
loop-index-preserved c =
    let seed = c.args.seed in
    let rounds = c.args.rounds in
    let i = c.loop-index.index in
    part-next c.loop-index.scripts.items c.add_agent.new.scripts.items (gen_asked seed rounds (i + 1) ∷ []) (agents_from seed rounds (i + 1 + 1) (c.args.agents - (i + 1)))
    (agents_from seed rounds (i + 1) (c.args.agents - i)) (gen_script seed c.args.agents rounds)
    c.in_ok-add_agent.ensures (ap (agents_from seed rounds (i + 1)) (one-less c.args.agents i c.loop-index-test.true)) c.loop-index.invariant
