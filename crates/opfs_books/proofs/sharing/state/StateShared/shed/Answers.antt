use Rattle.std.proofs.Common.{◌∙◌}
use Rattle.opfs_books.proofs.sharing.Modes.{modes-alike}
use Rattle.opfs_books.proofs.sharing.state.StateShared.shed.Goals as goal

pub returns : goal.returns
returns c = modes-alike c.shed-shed.result.now.buckets c.know_order.ensures ∙ c.shed-shed.ensures.modes
