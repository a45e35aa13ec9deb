use Rattle.std.proofs.Common.{◌≡◌, ◌++◌, ◌∷◌, []}
use Rattle.opfs_work.proofs.Counts.{kept_push}
use Rattle.opfs_work.proofs.table.Table.push.Goals as goal

pub invariant_of-self : goal.invariant_of-self
invariant_of-self c =
    let items : c.push.new.self.items ≡ c.self.inside.pages.items ++ c.args.page ∷ [] = rw c.unwrap.ensures at c.push.ensures.items in
    kept_push c.self.inside.pages.items _ c.args.page _ _ _ _ _ _ c.self.invariant items c.requires.away (rw (← c.self.view_is) at c.requires.room) c.push.ensures.capacity
