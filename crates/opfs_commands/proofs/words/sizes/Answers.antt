use Rattle.std.proofs.Common.{arith, sym, ◌∙◌}
use Rattle.opfs_commands.proofs.Numbers.{not_in_range}
use Rattle.opfs_commands.proofs.words.sizes.Goals as goal

pub returns-then-not-is_in_range-clause-none : goal.returns-then-not-is_in_range-clause-none
returns-then-not-is_in_range-clause-none c = λ g are.
    not_in_range g (record { areas = c.in_ok-areas.areas; blocks = c.in_ok-blocks.blocks; quota = c.in_ok-quota.quota }) c.args.blocks.now c.args.areas.now c.args.quota.now are c.in_ok-blocks.ensures.some c.in_ok-areas.ensures.some c.in_ok-quota.ensures.some
    (omega arith) (omega arith) (omega arith) (sym c.is_in_range.ensures ∙ c.if-not-is_in_range.true)
