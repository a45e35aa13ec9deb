use Rattle.std.proofs.Common.{suc, ◌-◌, subst}
use Rattle.opfs_state_rows.proofs.changes.Found.{place-number}
use Rattle.opfs_state_rows.proofs.changes.Silent.{quiet-done}
use Rattle.opfs_state_rows.specs.Changes.Changed.{IsDone}
use Rattle.opfs_state_rows.proofs.changes.agents.tell.Goals as goal

pub returns-clause-done : goal.returns-clause-done
returns-clause-done c = λ z extents.
    subst (λ k. IsDone c.args.store.now c.count.new.self z k c.args.op.now extents) (place-number c.args.agent c.requires.may.above)
    (quiet-done c.args.store.now c.count.new.self z (suc (c.args.agent - 1)) c.args.op.now extents c.requires.quiet c.count.ensures)
