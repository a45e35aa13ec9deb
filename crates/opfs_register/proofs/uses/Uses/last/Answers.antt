use Rattle.std.proofs.Common.{ℕ, Option, unwrap_or, ap, ◌∙◌}
use Rattle.std.specs.Map.{keys_of}
use Rattle.std.specs.List.Sorted.{IsStrictlySortedBy}
use Rattle.opfs_register.specs.LastUses.{text_cmp}
use Rattle.opfs_register.proofs.Used.{last-used}
use Rattle.opfs_register.proofs.uses.Uses.last.Goals as goal

pub returns : goal.returns
returns c =
    let es = c.self.inside.items.entries in
    let sorted : IsStrictlySortedBy text_cmp (keys_of es) = rw (← c.self.view_is) at c.know_order.ensures in
    rw (← c.self.view_is)
    (c.unwrap_or.ensures ∙ ap (λ (o : Option ℕ). unwrap_or o 0) (c.copied.ensures ∙ c.get.ensures.value) ∙ last-used c.args.origin.now es sorted)
