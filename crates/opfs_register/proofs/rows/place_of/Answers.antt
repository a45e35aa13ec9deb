use Rattle.std.proofs.Common.{◌∙◌}
use Rattle.std.proofs.lemmas.List.Sorted.{searched}
use Rattle.opfs_register.proofs.Numbers.{in_order, place-searched}
use Rattle.opfs_register.proofs.rows.place_of.Goals as goal

pub returns : goal.returns
returns c =
    c.ok.ensures.value ∙ place-searched c.args.numbers.now c.args.below c.args.n c.binary_search.result c.requires
    (searched c.args.numbers.now c.args.n c.binary_search.result c.binary_search.ensures.position (λ i j le lt. in_order c.args.numbers.now 0 c.args.below i j c.requires le lt))
