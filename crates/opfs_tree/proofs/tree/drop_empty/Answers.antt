use Rattle.std.proofs.Common.{ap, ◌∙◌}
use Rattle.opfs_tree.specs.Units.{all_rows}
use Rattle.opfs_tree.proofs.Writes.{empty_gone}
use Rattle.opfs_tree.proofs.tree.drop_empty.Goals as goal

pub returns-then-has_no_rows-clause-rows : goal.returns-then-has_no_rows-clause-rows
returns-then-has_no_rows-clause-rows c =
    ap all_rows c.remove.ensures.entries ∙ empty_gone c.args.key.now _ (c.has_no_rows.ensures c.if-has_no_rows.true)
