use Rattle.opfs_kv.proofs.records.Writing.{IsPacked}
use Rattle.opfs_kv.proofs.records.packing.pack_map.Given as goal

abbrev pub invariant-loop-key : goal.invariant-loop-key
invariant-loop-key l = IsPacked l.bytes l.places.entries l.key-iterator l.made.items l.index
