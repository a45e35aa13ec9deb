use Rattle.std.proofs.Common.{◌≡◌, ℕ, suc, ◌+◌, ◌-◌, ◌<◌, ◌≤◌, Some, None, Option, List, refl, sym, ap, ◌∙◌, subst, arith}
use Rattle.opfs_base.specs.declared.extents.Extent.{Extent}
use Rattle.opfs_hist.specs.declared.op.Op.TheVariants as op
use Rattle.opfs_locks.specs.Holding.{IsTakenAs}
use Rattle.opfs_locks.specs.declared.Want.{Want}
use Rattle.opfs_locks.specs.declared.Want.TheVariants as want
use Rattle.opfs_machine.specs.declared.own.StreamOutline.{StreamOutline}
use Rattle.opfs_register.specs.Slots.{stream_at}
use Rattle.opfs_state_rows.proofs.changes.Ended.{opened-stream, aborted}
use Rattle.opfs_state_rows.proofs.changes.Found.{numbered, place-number, stream-above, is-stream-at, stream-held, held-in}
use Rattle.opfs_state_rows.proofs.changes.Told.{stream-told}
use Rattle.opfs_state_rows.proofs.changes.Twice.{some-file, if-file}
use Rattle.opfs_state_rows.specs.Changes.Changed.{IsDone}
use Rattle.opfs_tree.specs.declared.row.FileRow.{FileRow}
use Rattle.opfs_tree.specs.Rows.{file_at}
use Rattle.opfs_machine.specs.Rulings.{ruling}
use Rattle.opfs_state_rows.proofs.changes.streams.abort.Goals as goal

pub overflow_sub-row : goal.overflow_sub-row
unfolding ruling
overflow_sub-row c =
    let w = stream-told c.args.store.now.machine c.args.agent c.args.row c.requires.may.may.need c.requires.may.may.ruled in
    stream-above c.args.store.now.machine c.args.agent c.args.row w.0 w.1

pub close_stream-stream-requires : goal.close_stream-stream-requires
unfolding ruling
close_stream-stream-requires c =
    let w = stream-told c.args.store.now.machine c.args.agent c.args.row c.requires.may.may.need c.requires.may.may.ruled in
    record {
      stream = is-stream-at c.args.store.now.machine c.args.agent (c.args.agent - 1) c.args.row (c.args.row - 1) w.0 c.requires.may.kept (place-number c.args.agent c.requires.may.above)
          (place-number c.args.row (stream-above c.args.store.now.machine c.args.agent c.args.row w.0 w.1)) w.1;
    }

pub unlock-requires-clause-there : goal.unlock-requires-clause-there
unlock-requires-clause-there c =
    let v = c.into_parts-outline.result.0 in
    let found : stream_at c.args.store.now.machine.agents (c.args.agent - 1) (c.args.row - 1) ≡ Some v = c.close_stream-stream.ensures.stream ∙ ap Some (sym c.into_parts-outline.ensures.outline) in
    let held = held-in c.args.store.now.machine c.args.store.now.tree v.file want.Shared c.know_rows_match_tree.ensures (stream-held c.args.store.now.machine (suc (c.args.agent - 1)) (suc (c.args.row - 1)) v c.requires.may.kept (opened-stream c.args.store.now.machine (c.args.agent - 1) (c.args.row - 1) v found)) in
    some-file (ap (file_at v.file) c.close_stream-stream.ensures.tree ∙ held.found)

pub unlock-requires-clause-taken : goal.unlock-requires-clause-taken
unlock-requires-clause-taken c =
    let v = c.into_parts-outline.result.0 in
    let found : stream_at c.args.store.now.machine.agents (c.args.agent - 1) (c.args.row - 1) ≡ Some v = c.close_stream-stream.ensures.stream ∙ ap Some (sym c.into_parts-outline.ensures.outline) in
    let held = held-in c.args.store.now.machine c.args.store.now.tree v.file want.Shared c.know_rows_match_tree.ensures (stream-held c.args.store.now.machine (suc (c.args.agent - 1)) (suc (c.args.row - 1)) v c.requires.may.kept (opened-stream c.args.store.now.machine (c.args.agent - 1) (c.args.row - 1) v found)) in
    if-file _ _ held.row (ap (file_at v.file) c.close_stream-stream.ensures.tree ∙ held.found) (subst (λ (x : Want). IsTakenAs x held.row.lock) (sym c.into_parts-outline.ensures.held) held.taken)

pub returns-clause-done : goal.returns-clause-done
unfolding ruling
returns-clause-done c = λ extents.
    let w = stream-told c.args.store.now.machine c.args.agent c.args.row c.requires.may.may.need c.requires.may.may.ruled in
    let v = c.into_parts-outline.result.0 in
    let found : stream_at c.args.store.now.machine.agents (c.args.agent - 1) (c.args.row - 1) ≡ Some v = c.close_stream-stream.ensures.stream ∙ ap Some (sym c.into_parts-outline.ensures.outline) in
    numbered (λ k row. IsDone c.args.store.now c.count.new.self c.args.sizes k (op.Abort row) extents) c.args.agent (c.args.agent - 1) c.args.row (c.args.row - 1) (place-number c.args.agent c.requires.may.above)
    (place-number c.args.row (stream-above c.args.store.now.machine c.args.agent c.args.row w.0 w.1))
    (aborted c.args.store.now c.close_stream-stream.new.self c.unlock.new.self c.count.new.self c.args.sizes (c.args.agent - 1) (c.args.row - 1) v found c.close_stream-stream.ensures.machine c.close_stream-stream.ensures.tree
    c.unlock.ensures.machine c.unlock.ensures.tree c.count.ensures extents)
