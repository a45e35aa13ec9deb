use Rattle.std.proofs.Common.{arith, sym, ◌∙◌}
use Rattle.opfs_commands.proofs.Numbers.{not_generated}
use Rattle.opfs_commands.proofs.words.numbers_of.Goals as goal

pub returns-then-not-is_in_range-clause-none : goal.returns-then-not-is_in_range-clause-none
returns-then-not-is_in_range-clause-none c = λ g are.
    not_generated g (record { seed = c.in_ok-seed.seed; agents = c.in_ok-agents.agents; rounds = c.in_ok-rounds.rounds }) c.args.seed.now c.args.agents.now c.args.rounds.now are c.in_ok-seed.ensures.some c.in_ok-agents.ensures.some c.in_ok-rounds.ensures.some
    (omega arith) (omega arith) (omega arith) (sym c.is_in_range.ensures ∙ c.if-not-is_in_range.true)
