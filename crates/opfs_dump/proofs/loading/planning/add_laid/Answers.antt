use Rattle.std.proofs.Common.{ap, ◌∙◌}
use Rattle.std.specs.FinMap.Entries.{put}
use Rattle.opfs_base.specs.Places.{place_cmp}
use Rattle.opfs_tree.specs.declared.row.Row.{Row}
use Rattle.opfs_dump.specs.Text.Seen.{stored_of}
use Rattle.opfs_dump.proofs.loading.Orders.{standing}
use Rattle.opfs_dump.proofs.loading.planning.add_laid.Goals as goal

pub add-requires-clause-free : goal.add-requires-clause-free
add-requires-clause-free c = (standing c.args.tree.now c.args.row.now.place (stored_of c.args.row.now.file) c.requires.stands).0

pub add-requires-clause-parent : goal.add-requires-clause-parent
add-requires-clause-parent c = (standing c.args.tree.now c.args.row.now.place (stored_of c.args.row.now.file) c.requires.stands).1

pub returns-clause-tree : goal.returns-clause-tree
returns-clause-tree c = c.in_ok-add.ensures.ok ∙ ap (λ (x : Row). put place_cmp c.args.row.now.place x c.args.tree.now) c.in_ok-made.ensures
