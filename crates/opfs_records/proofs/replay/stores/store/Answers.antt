use Rattle.std.proofs.Common.{◌≡◌, true, false, length, is_some, sym, ◌∙◌, arith}
use Rattle.std.proofs.lemmas.Bool.{and_right, and_from, false≢true}
use Rattle.opfs_base.specs.Blocks.{blocks}
use Rattle.opfs_blocks.specs.Sets.{blocks_of, CanAdopt}
use Rattle.opfs_tree.specs.Rows.{file_at, change_at, stored}
use Rattle.opfs_records.specs.Replay.Built.{named, named_beside}
use Rattle.opfs_records.specs.Replay.Kept.{has_blocks}
use Rattle.opfs_records.proofs.replay.Counts.{marked_more}
use Rattle.opfs_records.proofs.replay.Holding.{hold_blocks, hold_adopt, hold_from, hold_false}
use Rattle.opfs_records.proofs.replay.Rows.{store_times, store_few}
use Rattle.opfs_records.proofs.replay.stores.store.Goals as goal

pub returns-then-not-has_blocks-clause-exact : goal.returns-then-not-has_blocks-clause-exact
returns-then-not-has_blocks-clause-exact c =
    let others = named_beside (c.args.unit.now, c.args.path.now) c.args.tree.now in
    let ceil : c.div_ceil.result ≡ blocks c.args.bytes = omega arith in
    let told : has_blocks c.args.extents (blocks c.args.bytes) ≡ false = rw (← c.as_slice.ensures, ← ceil) (sym c.has_blocks.ensures ∙ c.if-not-has_blocks.true) in
    sym (and_right _ _ (hold_false (length c.args.map.now) others c.args.bytes c.args.extents (λ h. false≢true (sym told ∙ hold_blocks (length c.args.map.now) others c.args.bytes c.args.extents h))))

pub returns-then-not-adopt-clause-exact : goal.returns-then-not-adopt-clause-exact
returns-then-not-adopt-clause-exact c =
    let others = named_beside (c.args.unit.now, c.args.path.now) c.args.tree.now in
    sym (and_right _ _ (hold_false (length c.args.map.now) others c.args.bytes c.args.extents (λ h.
    false≢true (sym c.if-not-adopt.true ∙ c.adopt.ensures.exact.1 (rw c.as_slice-2.ensures
    (hold_adopt c.release.new.map others c.args.bytes c.args.extents c.if-not-release.ensures.marked (rw c.release.ensures.size h)))))))

pub returns-clause-exact : goal.returns-clause-exact
returns-clause-exact c =
    let others = named_beside (c.args.unit.now, c.args.path.now) c.args.tree.now in
    let ceil : c.div_ceil.result ≡ blocks c.args.bytes = omega arith in
    let told : has_blocks c.args.extents (blocks c.args.bytes) ≡ true = rw (← c.as_slice.ensures, ← ceil) (sym c.has_blocks.ensures ∙ c.if-not-has_blocks.false) in
    let can : CanAdopt c.release.new.map (blocks_of c.args.extents) = rw (← c.as_slice-2.ensures) (c.adopt.ensures.exact.0 c.if-not-adopt.false) in
    sym (and_from _ _ (sym c.release.ensures.found ∙ c.if-not-release.false) (rw (← c.release.ensures.size) (hold_from c.release.new.map others c.args.bytes c.args.extents c.if-not-release.ensures.marked told can)))

pub returns-clause-marked : goal.returns-clause-marked
returns-clause-marked c k =
    let others = named_beside (c.args.unit.now, c.args.path.now) c.args.tree.now in
    let can : CanAdopt c.release.new.map (blocks_of c.args.extents) = rw (← c.as_slice-2.ensures) (c.adopt.ensures.exact.0 c.if-not-adopt.false) in
    let there : is_some (file_at (c.args.unit.now, c.args.path.now) c.args.tree.now) ≡ true = sym c.release.ensures.found ∙ c.if-not-release.false in
    rw (c.if-not-adopt.ensures.used, c.as_slice-2.ensures, c.set_file-old.ensures.rows)
    (marked_more c.release.new.map (blocks_of c.args.extents) others (named (change_at (c.args.unit.now, c.args.path.now) (stored c.args.bytes c.args.stamp c.args.extents) c.args.tree.now)) c.if-not-release.ensures.marked can
    (store_times (c.args.unit.now, c.args.path.now) c.args.bytes c.args.stamp c.args.extents c.args.tree.now c.if-not-release.ensures.order there) k)

pub returns-clause-few : goal.returns-clause-few
returns-clause-few c =
    let there : is_some (file_at (c.args.unit.now, c.args.path.now) c.args.tree.now) ≡ true = sym c.release.ensures.found ∙ c.if-not-release.false in
    rw c.set_file-old.ensures.rows (store_few (c.args.unit.now, c.args.path.now) c.args.bytes c.args.stamp c.args.extents c.args.tree.now c.if-not-release.ensures.order there)
