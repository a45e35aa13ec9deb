use Rattle.std.proofs.Common.{◌≡◌, length, drop}
use Rattle.opfs_data.specs.Rows.{pages_at}
use Rattle.opfs_space.specs.Spaces.{pages_seen}
use Rattle.opfs_space.proofs.space.Space.see_row.Given as goal

abbrev pub invariant-loop-page : goal.invariant-loop-page
invariant-loop-page l = record {
  seen : pages_seen (drop l.page (pages_at l.agent l.row l.swap)) l.self ≡ pages_seen (pages_at l.agent l.row l.swap) l.fn.self;
  size : length l.self.used ≡ length l.fn.self.used;
}
