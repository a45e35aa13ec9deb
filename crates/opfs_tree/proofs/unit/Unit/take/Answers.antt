use Rattle.std.proofs.Common.{sym, ap, ◌∙◌}
use Rattle.opfs_tree.specs.Units.{holds_of}
use Rattle.opfs_tree.proofs.Changes.{found_here, changed_here, missing_here, written_here}
use Rattle.opfs_tree.proofs.unit.Unit.take.Goals as goal

pub returns-in_default-clause-rows : goal.returns-in_default-clause-rows
returns-in_default-clause-rows c =
    missing_here _ _ _ _ _ c.self.view_is c.in_default.ensures.value (ap (λ m. m.entries) c.get_mut.follows.holds-at-none)

pub returns-in_default-clause-given : goal.returns-in_default-clause-given
returns-in_default-clause-given c =
    let found = found_here _ _ _ _ c.self.view_is c.in_default.ensures.value in rw found tt

pub returns-in_default-clause-before : goal.returns-in_default-clause-before
returns-in_default-clause-before c = sym (ap holds_of (found_here _ _ _ _ c.self.view_is c.in_default.ensures.value))

pub returns-in_default-clause-after : goal.returns-in_default-clause-after
returns-in_default-clause-after c =
    sym (ap holds_of (found_here _ _ _ _ (sym (ap (λ m. m.entries) c.get_mut.follows.holds-at-none)) c.in_default.ensures.value))

pub take-held-requires : goal.take-held-requires
take-held-requires c =
    let found = found_here _ _ _ _ c.self.view_is c.in-Some.ensures.value in rw found at c.requires

pub returns-clause-rows : goal.returns-clause-rows
returns-clause-rows c =
    changed_here _ _ _ _ _ _ _ c.self.view_is c.in-Some.ensures.value (c.get_mut.follows.holds _).0 c.take-held.ensures.row

pub returns-clause-given : goal.returns-clause-given
returns-clause-given c =
    let found = found_here _ _ _ _ c.self.view_is c.in-Some.ensures.value in rw found c.take-held.ensures.given

pub returns-clause-before : goal.returns-clause-before
returns-clause-before c = c.holds-before.ensures ∙ sym (ap holds_of (found_here _ _ _ _ c.self.view_is c.in-Some.ensures.value))

pub returns-clause-after : goal.returns-clause-after
returns-clause-after c = c.holds-after.ensures ∙ sym (ap holds_of (written_here _ _ _ _ _ c.in-Some.ensures.value (c.get_mut.follows.holds _).0))
