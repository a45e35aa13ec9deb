use Rattle.opfs_space.proofs.FileBlocks.{has_named, named_has, has_once, all_counted}
use Rattle.opfs_space.proofs.files.files_have_the_named_blocks.Goals as goal

pub returns-clause-named : goal.returns-clause-named
returns-clause-named c = has_named

pub returns-clause-some : goal.returns-clause-some
returns-clause-some c = named_has

pub returns-clause-once : goal.returns-clause-once
returns-clause-once c = has_once

pub returns-clause-count : goal.returns-clause-count
returns-clause-count c = all_counted
