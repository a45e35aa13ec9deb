use Rattle.opfs_pages.proofs.history_laws.Opened.{opened-begun, opened-length}
use Rattle.opfs_pages.proofs.history_laws.spaces.blocks_tell_a_file.Goals as goal

pub returns : goal.returns
returns c = record { begun = opened-begun; count = opened-length }
