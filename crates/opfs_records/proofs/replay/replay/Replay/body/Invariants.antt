use Rattle.std.proofs.Common.{◌-◌, length, drop}
use Rattle.opfs_records.specs.Replay.Applying.{built_by}
use Rattle.opfs_records.proofs.replay.Bodies.{IsBegun}
use Rattle.opfs_records.proofs.replay.replay.Replay.body.Given as goal

abbrev pub invariant-loop-at : goal.invariant-loop-at
invariant-loop-at l = IsBegun l.format l.fn.self.size (drop l.at l.bytes) l.built.built (built_by l.format l.fn.self.size l.bytes l.fn.self.built) l.built.size l.fn.self.quota l.built.quota

abbrev pub decreases-loop-at : goal.decreases-loop-at
decreases-loop-at l = length l.bytes - l.at
