use Rattle.std.proofs.Common.{sym, subst}
use Rattle.opfs_turns.specs.Asking.Rows.{HandleSeen}
use Rattle.opfs_notebook.specs.Ready.{Holds}
use Rattle.opfs_notebook.proofs.Going.{given-back}
use Rattle.opfs_notebook.proofs.notes.give_up.Goals as goal

pub discard-requires-clause-holds : goal.discard-requires-clause-holds
discard-requires-clause-holds g c = subst (λ (h : HandleSeen). Holds g.S.Store.tells c.args.court.now c.args.agent.now h) (sym c.give_back-handle.ensures) (given-back g.S.Store.tells c.args.court.now c.args.agent.now c.args.kv c.requires.holds)
