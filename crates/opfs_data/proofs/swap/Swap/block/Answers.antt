use Rattle.std.proofs.Common.{subst, ◌<◌, length}
use Rattle.opfs_data.specs.Pages.{RowSeen}
use Rattle.opfs_data.proofs.SwapLemmas.{row_there}
use Rattle.opfs_data.proofs.swap.Swap.block.Goals as goal

pub block-requires : goal.block-requires
block-requires c = subst (λ (r : RowSeen). c.args.page < length r.pages) (row_there c.args.agent c.args.row _ _ _ c.in-Some.ensures.value c.self.view_is) c.requires
