use Rattle.std.proofs.Common.{◌≡◌, fold, filter}
use Rattle.opfs_pool.specs.Victims.{is_candidate, with_candidate, candidates}
use Rattle.opfs_pool.proofs.victims.candidates.Given as goal

abbrev pub invariant-loop-unit : goal.invariant-loop-unit
invariant-loop-unit l = fold (with_candidate l.uses) l.sorted.entries (filter (is_candidate l.caller) l.unit-iterator) ≡ candidates l.caller l.uses l.shares.entries
