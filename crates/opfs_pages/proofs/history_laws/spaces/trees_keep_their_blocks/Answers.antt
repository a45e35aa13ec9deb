use Rattle.opfs_pages.proofs.history_laws.Forests.{same-blocks, change-has, put-has}
use Rattle.opfs_pages.proofs.history_laws.spaces.trees_keep_their_blocks.Goals as goal

pub returns : goal.returns
returns c = record { same = same-blocks; changed = change-has; made = put-has }
