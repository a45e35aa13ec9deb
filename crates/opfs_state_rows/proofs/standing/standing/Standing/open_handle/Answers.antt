use Rattle.std.proofs.Common.{◌≡◌, ℕ, Bool, true, false, cond, ◌<◌, List, length, refl, sym, ap, subst}
use Rattle.opfs_machine.specs.declared.own.Outline.{Outline}
use Rattle.opfs_machine.specs.declared.state.Agent.{Agent}
use Rattle.opfs_register.specs.Registers.{Registered}
use Rattle.opfs_machine.specs.declared.own.Outline.TheVariants as outline
use Rattle.opfs_state_rows.proofs.standing.AgentMoves.{KeepsAll, bare-kept, rest-tied}
use Rattle.opfs_state_rows.proofs.standing.standing.Standing.open_handle.Goals as goal

none : (t : Bool) (n : ℕ) → n ≡ 0 → ◌≡◌ {A = ℕ} (cond t n 0) 0
none true n is = is
none false n is = refl

pub invariant_of-self : goal.invariant_of-self
invariant_of-self c =
    let inside : c.args.at < length c.self.inside.register.agents = rw (← c.self.view_is) at c.requires.inside in
    let is = c.add_handle.ensures in
    rest-tied c.self.inside.tree.rows c.self.inside.shed c.self.inside.pool c.self.inside.register c.add_handle.new.self c.self.inside.fixed c.self.inside.root c.self.invariant (ap (λ (r : Registered). r.limits) is)
    (subst (λ (xs : List (Agent Outline)). KeepsAll c.self.inside.register.agents xs) (sym (ap (λ (r : Registered). r.agents) is)) (bare-kept c.self.inside.register.agents c.args.at _ inside (outline.Handle c.args.handle) (λ p. refl) (λ p. none (p c.args.handle.file.0) c.args.handle.reserve c.requires.reserve) refl))
