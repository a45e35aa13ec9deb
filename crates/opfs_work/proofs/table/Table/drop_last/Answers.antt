use Rattle.std.proofs.Common.{◌≡◌, ◌++◌, ◌∷◌, [], arith}
use Rattle.opfs_work.proofs.Counts.{kept_drop, near_last}
use Rattle.opfs_work.proofs.table.Table.drop_last.Goals as goal

pub overflow_sub-self : goal.overflow_sub-self
overflow_sub-self c =
    let parts : c.self.inside.pages.items ≡ c.pop.new.self.items ++ c.unwrap-last.result ∷ [] = rw c.unwrap-last.ensures at c.pop.ensures.items in
    omega (arith, c.one_near.ensures, near_last c.self.inside.pages.items c.pop.new.self.items c.unwrap-last.result c.self.inside.near parts c.self.invariant.counted)

pub give_back-requires : goal.give_back-requires
give_back-requires c =
    let parts : c.self.inside.pages.items ≡ c.pop.new.self.items ++ c.unwrap-last.result ∷ [] = rw c.unwrap-last.ensures at c.pop.ensures.items in
    omega (arith, c.self.invariant.returned, near_last c.self.inside.pages.items c.pop.new.self.items c.unwrap-last.result c.self.inside.near parts c.self.invariant.counted)

pub invariant_of-self : goal.invariant_of-self
invariant_of-self c =
    let parts : c.self.inside.pages.items ≡ c.pop.new.self.items ++ c.unwrap-last.result ∷ [] = rw c.unwrap-last.ensures at c.pop.ensures.items in
    rw (c.one_near.ensures, c.pop.ensures.capacity) (kept_drop _ _ _ _ _ _ _ _ _ _ c.self.invariant parts c.give_back.ensures.spare c.give_back.ensures.kept)
