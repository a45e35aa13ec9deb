use Rattle.std.proofs.Common.{◌≡◌, ◌++◌, take, drop}
use Rattle.std.specs.FinMap.Entries.{put}
use Rattle.opfs_rulings.proofs.ordered.first_key.Given as goal

abbrev pub invariant-loop-at : goal.invariant-loop-at
invariant-loop-at g l = put g.K.Ord.cmp l.key l.fn.value l.entries ≡ take l.at l.entries ++ put g.K.Ord.cmp l.key l.fn.value (drop l.at l.entries)
