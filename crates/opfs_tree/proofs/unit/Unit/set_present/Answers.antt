use Rattle.std.proofs.Common.{ap}
use Rattle.opfs_tree.proofs.Changes.{changed_here, missing_here}
use Rattle.opfs_tree.proofs.unit.Unit.set_present.Goals as goal

pub returns-in_default : goal.returns-in_default
returns-in_default c =
    missing_here _ _ _ _ _ c.self.view_is c.in_default.ensures.value (ap (λ m. m.entries) c.get_mut.follows.holds-at-none)

pub returns : goal.returns
returns c =
    changed_here _ _ _ _ _ _ _ c.self.view_is c.in-Some.ensures.value (c.get_mut.follows.holds _).0 c.set_present.ensures
