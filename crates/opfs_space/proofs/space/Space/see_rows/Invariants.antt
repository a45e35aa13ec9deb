use Rattle.std.proofs.Common.{◌≡◌, length}
use Rattle.opfs_data.specs.Rows.{AreInOrder}
use Rattle.opfs_space.specs.Spaces.{pages_seen}
use Rattle.opfs_space.specs.Holders.{all_pages}
use Rattle.opfs_space.proofs.Rest.{rest_rows, IsNext}
use Rattle.opfs_space.proofs.space.Space.see_rows.Given as goal

abbrev pub invariant-loop-next : goal.invariant-loop-next
invariant-loop-next l = record {
  seen : pages_seen (all_pages (rest_rows l.next l.swap)) l.self ≡ pages_seen (all_pages l.swap) l.fn.self;
  used : length l.self.used ≡ length l.fn.self.used;
  there : IsNext l.next l.swap;
  order : AreInOrder l.swap;
}

abbrev pub decreases-loop-next : goal.decreases-loop-next
decreases-loop-next l = length (rest_rows l.next l.swap)
