use Rattle.std.proofs.Common.{◌≡◌, true, false, sym, ap, ◌∙◌}
use Rattle.opfs_tree.specs.Units.{holds_of}
use Rattle.opfs_tree.proofs.Changes.{found_here, changed_here, written_here}
use Rattle.opfs_tree.proofs.unit.Unit.release.Goals as goal

pub unreachable-requires : goal.unreachable-requires
unreachable-requires c =
    let found = found_here _ _ _ _ c.self.view_is c.in_default.ensures.value in
    let there : false ≡ true = rw found at c.requires.there in cc

pub release-requires-clause-there : goal.release-requires-clause-there
release-requires-clause-there c =
    let found = found_here _ _ _ _ c.self.view_is c.in-Some.ensures.value in rw found at c.requires.there

pub release-requires-clause-taken : goal.release-requires-clause-taken
release-requires-clause-taken c =
    let found = found_here _ _ _ _ c.self.view_is c.in-Some.ensures.value in rw found at c.requires.taken

pub returns-clause-rows : goal.returns-clause-rows
returns-clause-rows c =
    changed_here _ _ _ _ _ _ _ c.self.view_is c.in-Some.ensures.value (c.get_mut.follows.holds _).0 c.release.ensures.row

pub returns-clause-before : goal.returns-clause-before
returns-clause-before c = c.holds-before.ensures ∙ sym (ap holds_of (found_here _ _ _ _ c.self.view_is c.in-Some.ensures.value))

pub returns-clause-after : goal.returns-clause-after
returns-clause-after c = c.holds-after.ensures ∙ sym (ap holds_of (written_here _ _ _ _ _ c.in-Some.ensures.value (c.get_mut.follows.holds _).0))
