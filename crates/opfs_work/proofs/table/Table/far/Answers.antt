use Rattle.std.proofs.Common.{ap, ◌∙◌}
use Rattle.opfs_work.specs.Pages.{Table, near_count}
use Rattle.opfs_work.proofs.Counts.{near_count-none}
use Rattle.opfs_work.proofs.table.Table.far.Goals as goal

pub returns-clause-none : goal.returns-clause-none
returns-clause-none c =
    c.fill_far.ensures.near ∙ ap near_count c.in_ok-prepare.ensures.same ∙ ap (λ (t : Table). near_count t.pages) c.fresh-table.ensures ∙ near_count-none
