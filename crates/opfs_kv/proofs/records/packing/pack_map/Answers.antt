use Rattle.std.proofs.Common.{subst}
use Rattle.opfs_kv.specs.Records.Indexes.{Places}
use Rattle.opfs_kv.proofs.records.Writing.{IsPacked, packed-next}
use Rattle.opfs_kv.proofs.records.packing.pack_map.Goals as goal

pub loop-key-preserved : goal.loop-key-preserved
loop-key-preserved c =
    packed-next c.args.bytes.now c.args.places.now.entries c.in-Some.key.now c.in-Some.place.now c.next.new.self c.loop-key.made.items c.loop-key.index c.add.new.made.items c.add.new.index
    (subst (λ (rest : Places). IsPacked c.args.bytes.now c.args.places.now.entries rest c.loop-key.made.items c.loop-key.index) c.in-Some.ensures.steps c.loop-key.invariant)
    c.in_ok-add.ensures.bytes c.in_ok-add.ensures.index
