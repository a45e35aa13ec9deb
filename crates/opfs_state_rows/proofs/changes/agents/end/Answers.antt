use Rattle.std.proofs.Common.{◌≡◌, ℕ, suc, ◌+◌, ◌-◌, ◌<◌, ◌≤◌, ◌^◌, Some, None, Option, List, length, refl, sym, ap, ◌∙◌, subst, arith}
use Rattle.opfs_hist.specs.declared.op.Op.TheVariants as op
use Rattle.opfs_state_rows.specs.Standing.Seen.{Machine, Seen}
use Rattle.opfs_state_rows.proofs.changes.Found.{place-number}
use Rattle.opfs_state_rows.specs.Changes.Changed.{IsDone}
use Rattle.opfs_state_rows.proofs.changes.Plainly.{end-done}
use Rattle.opfs_state_rows.proofs.changes.agents.end.Goals as goal

pub returns-clause-done : goal.returns-clause-done
returns-clause-done c = λ z extents.
    subst (λ k. IsDone c.args.store.now c.count.new.self z k op.End extents) (place-number c.args.agent c.requires.may.above)
    (end-done c.args.store.now c.end_agent.new.self c.count.new.self z (c.args.agent - 1) extents c.count.ensures (ap (λ (x : Seen). x.tree) c.end_agent.ensures) (ap (λ (x : Seen). x.machine) c.end_agent.ensures))
