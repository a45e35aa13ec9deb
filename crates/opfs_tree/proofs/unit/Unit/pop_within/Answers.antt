use Rattle.opfs_tree.proofs.Removals.{nothing_within, popped_row, popped_rest, popped_some, popped_keys}
use Rattle.opfs_tree.proofs.unit.Unit.pop_within.Goals as goal

pub returns-in_err-at-clause-none : goal.returns-in_err-at-clause-none
returns-in_err-at-clause-none c =
    let none = nothing_within _ _ _ _ c.self.invariant c.self.view_is c.in_err-at.ensures.ordered c.in_err-at.ensures.first in rw c.from_residual.ensures none

pub returns-in_err-path-clause-none : goal.returns-in_err-path-clause-none
returns-in_err-path-clause-none c =
    absurd (popped_some _ _ _ _ c.self.invariant c.self.view_is c.in_ok-at.ensures.ordered _ c.in_ok-at.ensures.first c.in_err-path.ensures.value)

pub invariant_of-self-2 : goal.invariant_of-self-2
invariant_of-self-2 c =
    popped_keys _ _ _ _ c.self.invariant c.self.view_is c.in_ok-at.ensures.ordered _ c.in_ok-at.ensures.first _ _ _ c.in_ok-path.ensures.same_key c.remove.ensures.keys c.in_ok-path.ensures.entries

pub returns-clause-rest : goal.returns-clause-rest
returns-clause-rest c =
    popped_rest _ _ _ _ c.self.invariant c.self.view_is c.in_ok-at.ensures.ordered _ c.in_ok-at.ensures.first _ c.in_ok-path.ensures.entries

pub returns-clause-row : goal.returns-clause-row
returns-clause-row c =
    popped_row _ _ _ _ c.self.invariant c.self.view_is c.in_ok-at.ensures.ordered _ c.in_ok-at.ensures.first _ _ c.in_ok-path.ensures.value c.in_ok-path.ensures.entries
