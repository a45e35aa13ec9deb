use Rattle.std.proofs.Common.{◌∙◌}
use Rattle.opfs_data.proofs.Behind.{next_is, next_pages, none_behind}
use Rattle.opfs_data.proofs.swap.Swap.next_row.Goals as goal

pub returns-in_err-key-clause-end : goal.returns-in_err-key-clause-end
returns-in_err-key-clause-end c = rw c.from_residual.ensures (none_behind _ c.in_err-key.ensures.first)

pub returns-clause-next : goal.returns-clause-next
returns-clause-next c = next_is c.args.after c.args.self.now c.in_ok-key.key.now.0 c.in_ok-key.key.now.1 c.in_ok-key.row.now c.in_ok-key.ensures.order c.in_ok-key.ensures.first

pub returns-clause-pages : goal.returns-clause-pages
returns-clause-pages c = c.len-pages.ensures ∙ next_pages c.args.after c.args.self.now c.in_ok-key.key.now.0 c.in_ok-key.key.now.1 c.in_ok-key.row.now c.in_ok-key.ensures.order c.in_ok-key.ensures.first
