use Rattle.std.proofs.Common.{rules}
use Rattle.opfs_commands.proofs.Numbers.{generation_parts}
use Rattle.opfs_gen.specs.Making.{IsGenRange}
use Rattle.opfs_top.proofs.answer.answer_large_run.Goals as goal

pub generate-requires : goal.generate-requires
generate-requires g c =
    let p = generation_parts c.args.numbers c.requires in
    let range : IsGenRange c.args.numbers.seed c.args.numbers.agents c.args.numbers.rounds = record { seed_fits = p.seed_fits; some_agents = p.some_agents; few_agents = p.few_agents; some_rounds = p.some_rounds; few_rounds = p.few_rounds } in
    record { 0 = search rules; 1 = record { 0 = search rules; 1 = range } }
