use Rattle.std.proofs.Common.{◌≡◌, ℕ, ◌+◌, ◌<◌, ◌≤◌, ◌^◌, ◌-◌, Some}
use Rattle.opfs_space.specs.Plans.{own_block, AreAlike}
use Rattle.opfs_space.proofs.space.Space.alike.Given as goal

abbrev pub invariant-loop-count : goal.invariant-loop-count
invariant-loop-count l = record {
  some : 0 < l.count;
  most : l.count ≤ l.most;
  alike : AreAlike l.self.own l.swap l.agent l.row l.page l.count;
  blocks : (b : ℕ) → own_block l.self.own l.swap l.agent l.row l.page ≡ Some b → b + l.count ≤ 2 ^ 32;
}

abbrev pub decreases-loop-count : goal.decreases-loop-count
decreases-loop-count l = l.most - l.count
