use Rattle.std.proofs.Common.{◌≡◌, ◌+◌, ◌<◌, ◌≤◌, ◌^◌, [], Some, option_map, sym, ap, ◌∙◌, arith}
use Rattle.opfs_base.specs.Blocks.{blocks}
use Rattle.opfs_base.specs.Units.{origin_of}
use Rattle.opfs_machine.specs.Contents.{in_lengths}
use Rattle.opfs_machine.specs.Effects.{replaced}
use Rattle.opfs_machine.specs.Rows.{with_file}
use Rattle.opfs_machine.specs.Sums.{usage, pool}
use Rattle.opfs_state_rows.specs.Standing.Seen.{Machine}
use Rattle.opfs_state_rows.proofs.changes.Twice.{row-here, one-file, some-file, if-file, of-file, stored-again, replaced-again}
use Rattle.opfs_tree.specs.declared.row.FileRow.{FileRow}
use Rattle.opfs_tree.specs.Rows.{Rows, file_at, change_at, stored}
use Rattle.opfs_state_rows.proofs.changes.storing.store_again.Goals as goal

pub store-none-requires-clause-there : goal.store-none-requires-clause-there
store-none-requires-clause-there c =
    let f = one-file _ c.requires.there in
    some-file (ap (file_at c.args.place.now) c.store-kept.ensures.tree ∙ row-here c.args.place.now (stored c.args.size c.args.stamp _) c.args.store.now.tree ∙ ap (option_map (stored c.args.size c.args.stamp _)) f.1)

pub store-none-requires-clause-quota : goal.store-none-requires-clause-quota
store-none-requires-clause-quota c =
    let f = one-file _ c.requires.there in
    if-file (λ x. usage in_lengths c.store-kept.new.self.machine (origin_of c.args.place.now.0) + blocks c.args.size < 2 ^ 64 + blocks x.present) _ _
    (ap (file_at c.args.place.now) c.store-kept.ensures.tree ∙ row-here c.args.place.now (stored c.args.size c.args.stamp _) c.args.store.now.tree ∙ ap (option_map (stored c.args.size c.args.stamp _)) f.1)
    (let used = c.usage-used.ensures in omega (arith, used, c.usage-used.type_inv))

pub store-none-requires-clause-room : goal.store-none-requires-clause-room
store-none-requires-clause-room c =
    let f = one-file _ c.requires.there in
    if-file (λ x. pool in_lengths c.store-kept.new.self.machine + blocks c.args.size ≤ c.store-kept.new.self.machine.limits.blocks + blocks x.length) _ _
    (ap (file_at c.args.place.now) c.store-kept.ensures.tree ∙ row-here c.args.place.now (stored c.args.size c.args.stamp _) c.args.store.now.tree ∙ ap (option_map (stored c.args.size c.args.stamp _)) f.1)
    (omega (arith, c.held-held.ensures.held, c.held-held.ensures.within))

pub returns-clause-machine : goal.returns-clause-machine
returns-clause-machine c =
    c.store-none.ensures.machine ∙ ap (λ (m : Machine). with_file m c.args.place.now (replaced c.args.size c.args.stamp)) c.store-kept.ensures.machine ∙ replaced-again c.args.store.now.machine c.args.place.now c.args.size c.args.stamp

pub returns-clause-tree : goal.returns-clause-tree
returns-clause-tree c =
    let f = one-file _ c.requires.there in
    c.store-none.ensures.tree
    ∙ ap (λ (t : Rows). change_at c.args.place.now (stored c.args.size c.args.stamp c.store-kept.result) t) c.store-kept.ensures.tree
    ∙ ap (λ e. change_at c.args.place.now (stored c.args.size c.args.stamp c.store-kept.result) (change_at c.args.place.now (stored c.args.size c.args.stamp e) c.args.store.now.tree)) c.none.ensures
    ∙ stored-again c.args.place.now c.args.size c.args.stamp c.store-kept.result f.0 c.args.store.now.tree f.1 (of-file (λ (x : FileRow). c.store-kept.result ≡ x.extents) _ f.0 f.1 c.store-kept.ensures.old)
