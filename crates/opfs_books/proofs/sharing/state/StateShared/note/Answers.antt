use Rattle.std.proofs.Common.{ap, ◌∙◌}
use Rattle.opfs_books.proofs.sharing.Pending.{sum-noted}
use Rattle.opfs_books.proofs.sharing.state.StateShared.note.Goals as goal

pub returns-clause-machine : goal.returns-clause-machine
returns-clause-machine c es is notes =
    ap (λ s. s.store.machine) c.note.ensures ∙ sum-noted c.args.self.now.store.machine c.args.agent c.args.sum es c.requires.agent.above c.requires.agent.within is notes
