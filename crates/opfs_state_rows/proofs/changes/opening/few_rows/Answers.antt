use Rattle.std.proofs.Common.{◌≡◌, ℕ, suc, ◌+◌, ◌<◌, ◌≤◌, length, inl, inr, sym, ap, subst, ◌∙◌, arith}
use Rattle.opfs_machine.specs.Agents.{agent_of}
use Rattle.opfs_register.specs.Slots.{most_rows}
use Rattle.opfs_state_rows.proofs.changes.Fewer.{below-or-last}
use Rattle.opfs_state_rows.proofs.changes.opening.few_rows.Goals as goal

pub loop-at-preserved : goal.loop-at-preserved
loop-at-preserved c = λ k inside. elim (below-or-last k c.loop-at.at inside) [
  | inl less ↦ c.loop-at.invariant k less
  | inr same ↦
      subst (λ n. length (agent_of c.args.store.now.machine (suc n)).own ≤ most_rows) (sym same) (let few = c.rows-rows.ensures.few in let count = rw c.register-in-loop-at.ensures at c.rows-rows.ensures.count in omega (arith, few, count))
]

pub returns-clause-rows : goal.returns-clause-rows
returns-clause-rows c = λ at inside.
    let count = rw c.register.ensures at c.agents-at-end.ensures.count in
    c.loop-at.invariant at (omega (arith, inside, c.loop-at-test.false, count))
