use Rattle.std.proofs.Common.{◌≡◌, ◌-◌}
use Rattle.opfs_codec.specs.Reading.{items_at, extent_at}
use Rattle.opfs_codec.proofs.Loop.{with_front}
use Rattle.opfs_codec.proofs.fields.runs_of.Given as goal

abbrev pub invariant-loop : goal.invariant-loop
invariant-loop l = with_front l.runs.items (items_at extent_at (l.count - l.counter) l.rest) ≡ items_at extent_at l.count l.bytes
