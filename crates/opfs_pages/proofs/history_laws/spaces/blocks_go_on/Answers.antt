use Rattle.opfs_pages.proofs.history_laws.Spacing.{spaced-stays, spaced-dropped, spaced-written, spaced-opened}
use Rattle.opfs_pages.proofs.history_laws.Stored.{spaced-stored}
use Rattle.opfs_pages.proofs.history_laws.Fewer.{spaced-fewer}
use Rattle.opfs_pages.proofs.history_laws.spaces.blocks_go_on.Goals as goal

pub returns : goal.returns
returns c = record {
  stays = spaced-stays;
  dropped = spaced-dropped;
  written = spaced-written;
  opened = spaced-opened;
  stored = λ m t s r agent row place extents old new is now was. spaced-stored m t s r agent row place extents is old new now was;
  fewer = λ m t s r space is was. spaced-fewer m t s r is space was;
}
