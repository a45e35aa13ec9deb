use Rattle.std.proofs.Common.{◌≡◌, ℕ, suc, ◌+◌, ◌-◌, ◌<◌, ◌≤◌, ◌^◌, ◌++◌, Some, None, Option, List, length, vec_capacity, refl, sym, ap, ◌∙◌, subst, arith}
use Rattle.opfs_base.specs.Blocks.{blocks}
use Rattle.opfs_base.specs.Units.{origin_of}
use Rattle.opfs_state_rows.specs.Standing.Contents.{undone_row}
use Rattle.opfs_hist.specs.declared.op.Op.TheVariants as op
use Rattle.opfs_locks.specs.Holding.{IsTakenAs}
use Rattle.opfs_locks.specs.declared.Want.{Want}
use Rattle.opfs_machine.specs.declared.own.HandleOutline.{HandleOutline}
use Rattle.opfs_machine.specs.declared.own.Outline.TheVariants as outline
use Rattle.opfs_machine.specs.Agents.{open_handle}
use Rattle.opfs_machine.specs.Contents.{in_lengths}
use Rattle.opfs_machine.specs.Rulings.{want_of}
use Rattle.opfs_machine.specs.Sums.{usage}
use Rattle.opfs_register.specs.Slots.{handle_at}
use Rattle.opfs_state_rows.proofs.standing.SlotMoves.{closed-handle-row}
use Rattle.opfs_state_rows.proofs.changes.Covering.{undo-room}
use Rattle.opfs_state_rows.proofs.changes.Found.{numbered, place-number, handle-above, is-handle-at, handle-held, held-in, none-open, some-open}
use Rattle.opfs_state_rows.proofs.changes.Settled.{opened-handle, changed-there, discarded-done, none-discarded}
use Rattle.opfs_state_rows.proofs.changes.Twice.{some-file, if-file}
use Rattle.opfs_state_rows.specs.Changes.Changed.{IsDone, changed_by}
use Rattle.opfs_tree.specs.declared.row.FileRow.{FileRow}
use Rattle.opfs_tree.specs.Rows.{Rows, file_at}
use Rattle.opfs_state_rows.proofs.changes.handles.discard.Goals as goal

pub returns-then-not-has_handle-clause-done : goal.returns-then-not-has_handle-clause-done
returns-then-not-has_handle-clause-done c = λ extents.
    let s = c.args.store.now in
    subst (λ k. IsDone s c.count.new.self c.args.sizes k (op.Discard c.args.row) extents) (place-number c.args.agent c.requires.may.above)
    (none-discarded s c.count.new.self c.args.sizes (suc (c.args.agent - 1)) c.args.row extents
    (subst (λ k. open_handle in_lengths s.machine k c.args.row ≡ None) (sym (place-number c.args.agent c.requires.may.above)) (none-open _ c.has_handle.result c.has_handle.ensures c.if-not-has_handle.true)) c.count.ensures)

pub close_handle-handle-requires : goal.close_handle-handle-requires
close_handle-handle-requires c =
    let m = c.args.store.now.machine in
    let h = some-open (open_handle in_lengths m c.args.agent c.args.row) c.has_handle.result c.has_handle.ensures c.if-not-has_handle.false in
    record {
      handle =
          is-handle-at m c.args.agent (c.args.agent - 1) c.args.row (c.args.row - 1) h.0 c.requires.may.kept (place-number c.args.agent c.requires.may.above)
          (place-number c.args.row (handle-above m c.args.agent c.args.row h.0 h.1)) h.1;
    }

pub undo_by-requires-clause-there : goal.undo_by-requires-clause-there
undo_by-requires-clause-there c =
    let m = c.args.store.now.machine in
    let v = c.into_parts-outline.result.0 in
    let found : handle_at m.agents (c.args.agent - 1) (c.args.row - 1) ≡ Some v = c.close_handle-handle.ensures.handle ∙ ap Some (sym c.into_parts-outline.ensures.outline) in
    let held = held-in m c.args.store.now.tree v.file (want_of v.mode) c.know_rows_match_tree.ensures (handle-held m (suc (c.args.agent - 1)) (suc (c.args.row - 1)) v c.requires.may.kept (opened-handle m (c.args.agent - 1) (c.args.row - 1) v found)) in
    some-file (ap (file_at v.file) c.close_handle-handle.ensures.tree ∙ held.found)

pub undo_by-requires-clause-quota : goal.undo_by-requires-clause-quota
undo_by-requires-clause-quota c = λ writes.
    let m = c.args.store.now.machine in
    let v = c.into_parts-outline.result.0 in
    let found : handle_at m.agents (c.args.agent - 1) (c.args.row - 1) ≡ Some v = c.close_handle-handle.ensures.handle ∙ ap Some (sym c.into_parts-outline.ensures.outline) in
    let held = held-in m c.args.store.now.tree v.file (want_of v.mode) c.know_rows_match_tree.ensures (handle-held m (suc (c.args.agent - 1)) (suc (c.args.row - 1)) v c.requires.may.kept (opened-handle m (c.args.agent - 1) (c.args.row - 1) v found)) in
    let room =
    undo-room m c.close_handle-handle.new.self.machine (c.args.agent - 1) (c.args.row - 1) v outline.ClosedHandle found c.close_handle-handle.ensures.machine (closed-handle-row v.file.0) refl refl c.requires.may.kept c.area_bytes-area.result held.file
    c.area_bytes-area.ensures c.area_bytes-area.type_inv held.there in
    let present = ap (λ f. blocks f.present) held.same in
    let durable = ap (λ f. blocks f.durable) held.same in
    if-file (λ f. usage in_lengths c.close_handle-handle.new.self.machine (origin_of v.file.0) + blocks f.length < 2 ^ 64 + blocks f.present) _ held.row (ap (file_at v.file) c.close_handle-handle.ensures.tree ∙ held.found)
    (omega (arith, room, present, durable))

pub unlock-requires-clause-there : goal.unlock-requires-clause-there
unlock-requires-clause-there c =
    let m = c.args.store.now.machine in
    let v = c.into_parts-outline.result.0 in
    let found : handle_at m.agents (c.args.agent - 1) (c.args.row - 1) ≡ Some v = c.close_handle-handle.ensures.handle ∙ ap Some (sym c.into_parts-outline.ensures.outline) in
    let held = held-in m c.args.store.now.tree v.file (want_of v.mode) c.know_rows_match_tree.ensures (handle-held m (suc (c.args.agent - 1)) (suc (c.args.row - 1)) v c.requires.may.kept (opened-handle m (c.args.agent - 1) (c.args.row - 1) v found)) in
    let there = changed-there c.args.store.now.tree v.mode v.file undone_row held.row (λ f. refl) held.found in
    some-file (ap (file_at v.file) (c.undo_by.ensures.tree ∙ ap (λ (t : Rows). changed_by t v.mode v.file undone_row) c.close_handle-handle.ensures.tree) ∙ there.1)

pub unlock-requires-clause-taken : goal.unlock-requires-clause-taken
unlock-requires-clause-taken c =
    let m = c.args.store.now.machine in
    let v = c.into_parts-outline.result.0 in
    let found : handle_at m.agents (c.args.agent - 1) (c.args.row - 1) ≡ Some v = c.close_handle-handle.ensures.handle ∙ ap Some (sym c.into_parts-outline.ensures.outline) in
    let held = held-in m c.args.store.now.tree v.file (want_of v.mode) c.know_rows_match_tree.ensures (handle-held m (suc (c.args.agent - 1)) (suc (c.args.row - 1)) v c.requires.may.kept (opened-handle m (c.args.agent - 1) (c.args.row - 1) v found)) in
    let there = changed-there c.args.store.now.tree v.mode v.file undone_row held.row (λ f. refl) held.found in
    let want : c.into_parts-outline.result.1 ≡ want_of v.mode = c.into_parts-outline.ensures.held ∙ ap (λ (x : HandleOutline). want_of x.mode) (sym c.into_parts-outline.ensures.outline) in
    if-file _ _ there.0 (ap (file_at v.file) (c.undo_by.ensures.tree ∙ ap (λ (t : Rows). changed_by t v.mode v.file undone_row) c.close_handle-handle.ensures.tree) ∙ there.1)
    (subst (λ (x : Want). IsTakenAs x there.0.lock) (sym want) (subst (IsTakenAs (want_of v.mode)) (sym there.2) held.taken))

pub returns-clause-done : goal.returns-clause-done
returns-clause-done c = λ extents.
    let m = c.args.store.now.machine in
    let h = some-open (open_handle in_lengths m c.args.agent c.args.row) c.has_handle.result c.has_handle.ensures c.if-not-has_handle.false in
    let v = c.into_parts-outline.result.0 in
    let found : handle_at m.agents (c.args.agent - 1) (c.args.row - 1) ≡ Some v = c.close_handle-handle.ensures.handle ∙ ap Some (sym c.into_parts-outline.ensures.outline) in
    numbered (λ k row. IsDone c.args.store.now c.count-2.new.self c.args.sizes k (op.Discard row) extents) c.args.agent (c.args.agent - 1) c.args.row (c.args.row - 1) (place-number c.args.agent c.requires.may.above)
    (place-number c.args.row (handle-above m c.args.agent c.args.row h.0 h.1))
    (discarded-done c.args.store.now c.close_handle-handle.new.self c.undo_by.new.store c.count-2.new.self c.args.sizes (c.args.agent - 1) (c.args.row - 1) v extents found c.close_handle-handle.ensures.tree c.unlock.new.self
    c.close_handle-handle.ensures.machine c.unlock.ensures.machine c.unlock.ensures.tree c.count-2.ensures c.undo_by.ensures.machine c.undo_by.ensures.tree)
