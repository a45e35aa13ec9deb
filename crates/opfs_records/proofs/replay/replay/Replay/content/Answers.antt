use Rattle.std.proofs.Common.{◌≡◌, ◌+◌, ◌≤◌, refl, arith, length, is_some, true}
use Rattle.opfs_tree.specs.Rows.{file_at, change_at, stored}
use Rattle.opfs_records.specs.Replay.Built.{named, named_beside}
use Rattle.opfs_records.specs.Replay.Kept.{AreMarked, extent_count}
use Rattle.opfs_records.proofs.replay.Keeping.{kept_stored, can_hold_of}
use Rattle.opfs_records.proofs.replay.replay.Replay.content.Goals as goal

pub invariant_of-result : goal.invariant_of-result
invariant_of-result c =
    let stores = c.if-not-store.ensures in
    let marked : AreMarked c.store.new.map (named (change_at (c.args.unit, c.args.path) (stored c.args.bytes c.args.stamp c.args.extents) c.self.inside.tree)) = rw (← stores.rows) stores.marked in
    let few : extent_count (change_at (c.args.unit, c.args.path) (stored c.args.bytes c.args.stamp c.args.extents) c.self.inside.tree) ≤ extent_count c.self.inside.tree + length c.args.extents = rw (← stores.rows) stores.few in
    let most : c.in_ok-most.most ≡ c.self.inside.most + length c.args.extents = omega (arith, c.in_ok-most.ensures, c.len.ensures) in
    let others = named_beside (c.args.unit, c.args.path) c.self.inside.tree in
    rw stores.rows (kept_stored c.self.inside.tree c.self.inside.map c.self.inside.shed.buckets c.self.inside.most c.self.inside.charge (c.args.unit, c.args.path) c.args.bytes c.args.stamp c.args.extents c.store.new.map others c.in_ok-most.most
    c.self.invariant (can_hold_of (length c.self.inside.map) others c.args.bytes c.args.extents (is_some (file_at (c.args.unit, c.args.path) c.self.inside.tree)) true stores.exact refl) marked stores.size few most (omega arith) (omega arith) c.requires)
