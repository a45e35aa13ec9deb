use Rattle.std.proofs.Common.{◌≡◌, ◌-◌}
use Rattle.opfs_codec.specs.Reading.{items_at, name_at}
use Rattle.opfs_codec.proofs.Loop.{with_front}
use Rattle.opfs_codec.proofs.fields.names_of.Given as goal

abbrev pub invariant-loop : goal.invariant-loop
invariant-loop l = with_front l.names.items (items_at name_at (l.count - l.counter) l.rest) ≡ items_at name_at l.count l.bytes
