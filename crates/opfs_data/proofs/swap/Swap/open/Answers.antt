use Rattle.std.proofs.Common.{ap, ◌∙◌}
use Rattle.std.specs.Map.{lookup}
use Rattle.std.specs.BTreeMap.{is_at}
use Rattle.opfs_data.specs.Rows.{Rows, row_cmp}
use Rattle.opfs_data.proofs.KeptLemmas.{count_open}
use Rattle.opfs_data.proofs.SwapLemmas.{others_stay}
use Rattle.opfs_data.proofs.swap.Swap.open.Goals as goal

pub returns-clause-others : goal.returns-clause-others
returns-clause-others c = others_stay c.args.agent c.args.row _ _ (λ q apart. c.in_ok-insert.ensures.updates.2 q apart ∙ ap (λ (es : Rows). lookup (is_at (row_cmp q)) es) c.self.view_is)

pub returns-clause-kept : goal.returns-clause-kept
returns-clause-kept c = count_open c.args.agent c.args.row _ _ _ c.in_ok-pages.pages c.args.extents.now c.self.view_is c.requires.absent c.insert.ensures.was_ordered c.in_ok-insert.ensures.entries c.in_ok-pages.ensures.pages
