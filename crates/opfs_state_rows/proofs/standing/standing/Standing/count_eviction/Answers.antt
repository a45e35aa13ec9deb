use Rattle.std.proofs.Common.{List, sym, ap, subst}
use Rattle.opfs_machine.specs.declared.own.Outline.{Outline}
use Rattle.opfs_machine.specs.declared.state.Agent.{Agent}
use Rattle.opfs_register.specs.Registers.{Registered}
use Rattle.opfs_state_rows.proofs.standing.AgentMoves.{KeepsAll, same-agents, rest-tied}
use Rattle.opfs_state_rows.proofs.standing.standing.Standing.count_eviction.Goals as goal

pub invariant_of-self : goal.invariant_of-self
invariant_of-self c =
    let is = c.count_eviction.ensures in
    rest-tied c.self.inside.tree.rows c.self.inside.shed c.self.inside.pool c.self.inside.register c.count_eviction.new.self c.self.inside.fixed c.self.inside.root c.self.invariant (ap (λ (r : Registered). r.limits) is)
    (subst (λ (xs : List (Agent Outline)). KeepsAll c.self.inside.register.agents xs) (sym (ap (λ (r : Registered). r.agents) is)) (same-agents c.self.inside.register.agents))
