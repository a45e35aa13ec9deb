use Rattle.std.proofs.Common.{◌≡◌, ℕ, suc, ◌+◌, ◌-◌, ◌<◌, ◌≤◌, ◌^◌, ◌++◌, Some, None, Option, List, length, option_map, vec_capacity, refl, sym, ap, ◌∙◌, subst, arith}
use Rattle.opfs_base.specs.Blocks.{blocks}
use Rattle.opfs_base.specs.Units.{origin_of}
use Rattle.opfs_base.specs.declared.extents.Extent.{Extent}
use Rattle.opfs_hist.specs.declared.op.Op.TheVariants as op
use Rattle.opfs_locks.specs.Holding.{IsTakenAs}
use Rattle.opfs_locks.specs.declared.Want.{Want}
use Rattle.opfs_locks.specs.declared.Want.TheVariants as want
use Rattle.opfs_machine.specs.declared.own.StreamOutline.{StreamOutline}
use Rattle.opfs_machine.specs.Contents.{in_lengths}
use Rattle.opfs_machine.specs.Sums.{usage, pool}
use Rattle.opfs_register.specs.Slots.{stream_at}
use Rattle.opfs_state_rows.proofs.changes.Ended.{opened-stream, stored-closed, sized-as, frees-as, close-quota, close-room}
use Rattle.opfs_state_rows.proofs.changes.Found.{numbered, place-number, stream-above, is-stream-at, stream-held, held-in}
use Rattle.opfs_state_rows.proofs.changes.Told.{stream-told}
use Rattle.opfs_state_rows.proofs.changes.Twice.{some-file, if-file, row-here}
use Rattle.opfs_state_rows.specs.Changes.Allowed.{IsSized}
use Rattle.opfs_state_rows.specs.Changes.Changed.{IsDone, freed_in, replaced_at, stored_in}
use Rattle.opfs_tree.specs.declared.row.FileRow.{FileRow}
use Rattle.opfs_tree.specs.Rows.{Rows, file_at}
use Rattle.opfs_machine.specs.Rulings.{ruling}
use Rattle.opfs_state_rows.proofs.changes.streams.close.Goals as goal

pub overflow_sub-row : goal.overflow_sub-row
unfolding ruling
overflow_sub-row c =
    let w = stream-told c.args.store.now.machine c.args.agent c.args.row c.requires.may.may.need c.requires.may.may.ruled in
    stream-above c.args.store.now.machine c.args.agent c.args.row w.0 w.1

pub close_stream-stream-requires : goal.close_stream-stream-requires
unfolding ruling
close_stream-stream-requires c =
    let w = stream-told c.args.store.now.machine c.args.agent c.args.row c.requires.may.may.need c.requires.may.may.ruled in
    record {
      stream =
          is-stream-at c.args.store.now.machine c.args.agent (c.args.agent - 1) c.args.row (c.args.row - 1) w.0 c.requires.may.kept (place-number c.args.agent c.requires.may.above)
          (place-number c.args.row (stream-above c.args.store.now.machine c.args.agent c.args.row w.0 w.1)) w.1;
    }

pub store_as-requires-clause-there : goal.store_as-requires-clause-there
store_as-requires-clause-there c =
    let v = c.into_parts-outline.result.0 in
    let found : stream_at c.args.store.now.machine.agents (c.args.agent - 1) (c.args.row - 1) ≡ Some v = c.close_stream-stream.ensures.stream ∙ ap Some (sym c.into_parts-outline.ensures.outline) in
    let held = held-in c.args.store.now.machine c.args.store.now.tree v.file want.Shared c.know_rows_match_tree.ensures (stream-held c.args.store.now.machine (suc (c.args.agent - 1)) (suc (c.args.row - 1)) v c.requires.may.kept (opened-stream c.args.store.now.machine (c.args.agent - 1) (c.args.row - 1) v found)) in
    some-file (ap (file_at v.file) c.close_stream-stream.ensures.tree ∙ held.found)

pub store_as-requires-clause-quota : goal.store_as-requires-clause-quota
unfolding ruling IsSized
store_as-requires-clause-quota c =
    let w = stream-told c.args.store.now.machine c.args.agent c.args.row c.requires.may.may.need c.requires.may.may.ruled in
    let v = c.into_parts-outline.result.0 in
    let found : stream_at c.args.store.now.machine.agents (c.args.agent - 1) (c.args.row - 1) ≡ Some v = c.close_stream-stream.ensures.stream ∙ ap Some (sym c.into_parts-outline.ensures.outline) in
    let covers : blocks c.args.sizes.size ≤ v.reserve = sized-as c.args.store.now.machine c.args.sizes c.args.agent (c.args.agent - 1) c.args.row (c.args.row - 1) v (place-number c.args.agent c.requires.may.above) (place-number c.args.row (stream-above c.args.store.now.machine c.args.agent c.args.row w.0 w.1)) found c.requires.may.sized in
    let held = held-in c.args.store.now.machine c.args.store.now.tree v.file want.Shared c.know_rows_match_tree.ensures (stream-held c.args.store.now.machine (suc (c.args.agent - 1)) (suc (c.args.row - 1)) v c.requires.may.kept (opened-stream c.args.store.now.machine (c.args.agent - 1) (c.args.row - 1) v found)) in
    if-file (λ f. usage in_lengths c.close_stream-stream.new.self.machine (origin_of v.file.0) + blocks c.args.sizes.size < 2 ^ 64 + blocks f.present) _ held.row (ap (file_at v.file) c.close_stream-stream.ensures.tree ∙ held.found)
    (close-quota c.args.store.now.machine c.close_stream-stream.new.self.machine (c.args.agent - 1) (c.args.row - 1) c.args.sizes.size v found c.close_stream-stream.ensures.machine c.requires.may.kept covers c.held-held.result (blocks held.row.present) c.held-held.ensures.held c.held-held.type_inv)

pub store_as-requires-clause-room : goal.store_as-requires-clause-room
unfolding ruling IsSized
store_as-requires-clause-room c =
    let w = stream-told c.args.store.now.machine c.args.agent c.args.row c.requires.may.may.need c.requires.may.may.ruled in
    let v = c.into_parts-outline.result.0 in
    let found : stream_at c.args.store.now.machine.agents (c.args.agent - 1) (c.args.row - 1) ≡ Some v = c.close_stream-stream.ensures.stream ∙ ap Some (sym c.into_parts-outline.ensures.outline) in
    let covers : blocks c.args.sizes.size ≤ v.reserve = sized-as c.args.store.now.machine c.args.sizes c.args.agent (c.args.agent - 1) c.args.row (c.args.row - 1) v (place-number c.args.agent c.requires.may.above) (place-number c.args.row (stream-above c.args.store.now.machine c.args.agent c.args.row w.0 w.1)) found c.requires.may.sized in
    let held = held-in c.args.store.now.machine c.args.store.now.tree v.file want.Shared c.know_rows_match_tree.ensures (stream-held c.args.store.now.machine (suc (c.args.agent - 1)) (suc (c.args.row - 1)) v c.requires.may.kept (opened-stream c.args.store.now.machine (c.args.agent - 1) (c.args.row - 1) v found)) in
    if-file (λ f. pool in_lengths c.close_stream-stream.new.self.machine + blocks c.args.sizes.size ≤ c.close_stream-stream.new.self.machine.limits.blocks + blocks f.length) _ held.row (ap (file_at v.file) c.close_stream-stream.ensures.tree ∙ held.found)
    (close-room c.args.store.now.machine c.close_stream-stream.new.self.machine (c.args.agent - 1) (c.args.row - 1) c.args.sizes.size v found c.close_stream-stream.ensures.machine c.requires.may.kept covers (blocks held.row.length))

pub store_as-requires-clause-fits : goal.store_as-requires-clause-fits
unfolding ruling
store_as-requires-clause-fits c =
    let w = stream-told c.args.store.now.machine c.args.agent c.args.row c.requires.may.may.need c.requires.may.may.ruled in
    let v = c.into_parts-outline.result.0 in
    let found : stream_at c.args.store.now.machine.agents (c.args.agent - 1) (c.args.row - 1) ≡ Some v = c.close_stream-stream.ensures.stream ∙ ap Some (sym c.into_parts-outline.ensures.outline) in
    let frees = frees-as c.args.store.now.machine c.args.store.now.tree c.args.agent (c.args.agent - 1) c.args.row (c.args.row - 1) v c.args.extents (place-number c.args.agent c.requires.may.above) (place-number c.args.row (stream-above c.args.store.now.machine c.args.agent c.args.row w.0 w.1)) found in
    subst (λ xs. length (c.args.freed.now.items ++ xs) ≤ vec_capacity c.args.freed.now) (frees ∙ ap (λ (t : Rows). replaced_at t v.file c.args.extents) (sym c.close_stream-stream.ensures.tree)) c.requires.fits

pub unlock-requires-clause-there : goal.unlock-requires-clause-there
unlock-requires-clause-there c =
    let v = c.into_parts-outline.result.0 in
    let found : stream_at c.args.store.now.machine.agents (c.args.agent - 1) (c.args.row - 1) ≡ Some v = c.close_stream-stream.ensures.stream ∙ ap Some (sym c.into_parts-outline.ensures.outline) in
    let held = held-in c.args.store.now.machine c.args.store.now.tree v.file want.Shared c.know_rows_match_tree.ensures (stream-held c.args.store.now.machine (suc (c.args.agent - 1)) (suc (c.args.row - 1)) v c.requires.may.kept (opened-stream c.args.store.now.machine (c.args.agent - 1) (c.args.row - 1) v found)) in
    some-file (ap (file_at v.file) c.store_as.ensures.tree ∙ row-here v.file (stored_in c.args.sizes.size c.moment-moment.result c.args.extents) c.close_stream-stream.new.self.tree ∙ ap (λ (t : Rows). option_map (stored_in c.args.sizes.size c.moment-moment.result c.args.extents) (file_at v.file t)) c.close_stream-stream.ensures.tree ∙ ap (option_map (stored_in c.args.sizes.size c.moment-moment.result c.args.extents)) held.found)

pub unlock-requires-clause-taken : goal.unlock-requires-clause-taken
unlock-requires-clause-taken c =
    let v = c.into_parts-outline.result.0 in
    let found : stream_at c.args.store.now.machine.agents (c.args.agent - 1) (c.args.row - 1) ≡ Some v = c.close_stream-stream.ensures.stream ∙ ap Some (sym c.into_parts-outline.ensures.outline) in
    let held = held-in c.args.store.now.machine c.args.store.now.tree v.file want.Shared c.know_rows_match_tree.ensures (stream-held c.args.store.now.machine (suc (c.args.agent - 1)) (suc (c.args.row - 1)) v c.requires.may.kept (opened-stream c.args.store.now.machine (c.args.agent - 1) (c.args.row - 1) v found)) in
    if-file _ _ (stored_in c.args.sizes.size c.moment-moment.result c.args.extents held.row)
    (ap (file_at v.file) c.store_as.ensures.tree ∙ row-here v.file (stored_in c.args.sizes.size c.moment-moment.result c.args.extents) c.close_stream-stream.new.self.tree ∙ ap (λ (t : Rows). option_map (stored_in c.args.sizes.size c.moment-moment.result c.args.extents) (file_at v.file t)) c.close_stream-stream.ensures.tree ∙ ap (option_map (stored_in c.args.sizes.size c.moment-moment.result c.args.extents)) held.found)
    (subst (λ (x : Want). IsTakenAs x held.row.lock) (sym c.into_parts-outline.ensures.held) held.taken)

pub returns-clause-done : goal.returns-clause-done
unfolding ruling
returns-clause-done c =
    let w = stream-told c.args.store.now.machine c.args.agent c.args.row c.requires.may.may.need c.requires.may.may.ruled in
    let v = c.into_parts-outline.result.0 in
    let found : stream_at c.args.store.now.machine.agents (c.args.agent - 1) (c.args.row - 1) ≡ Some v = c.close_stream-stream.ensures.stream ∙ ap Some (sym c.into_parts-outline.ensures.outline) in
    numbered (λ k row. IsDone c.args.store.now c.count.new.self c.args.sizes k (op.Close row) c.args.extents) c.args.agent (c.args.agent - 1) c.args.row (c.args.row - 1) (place-number c.args.agent c.requires.may.above)
    (place-number c.args.row (stream-above c.args.store.now.machine c.args.agent c.args.row w.0 w.1))
    (stored-closed c.args.store.now c.close_stream-stream.new.self c.store_as.new.store c.unlock.new.self c.count.new.self c.args.sizes (c.args.agent - 1) (c.args.row - 1) c.moment-moment.result v c.args.extents found c.close_stream-stream.ensures.machine c.close_stream-stream.ensures.tree
    (rw c.register.ensures at c.moment-moment.ensures) c.store_as.ensures.machine c.store_as.ensures.tree c.unlock.ensures.machine c.unlock.ensures.tree c.count.ensures)

pub returns-clause-freed : goal.returns-clause-freed
unfolding ruling
returns-clause-freed c =
    let w = stream-told c.args.store.now.machine c.args.agent c.args.row c.requires.may.may.need c.requires.may.may.ruled in
    let v = c.into_parts-outline.result.0 in
    let found : stream_at c.args.store.now.machine.agents (c.args.agent - 1) (c.args.row - 1) ≡ Some v = c.close_stream-stream.ensures.stream ∙ ap Some (sym c.into_parts-outline.ensures.outline) in
    let frees = frees-as c.args.store.now.machine c.args.store.now.tree c.args.agent (c.args.agent - 1) c.args.row (c.args.row - 1) v c.args.extents (place-number c.args.agent c.requires.may.above) (place-number c.args.row (stream-above c.args.store.now.machine c.args.agent c.args.row w.0 w.1)) found in
    c.store_as.ensures.freed ∙ ap (λ xs. c.args.freed.now.items ++ xs) (ap (λ (t : Rows). replaced_at t v.file c.args.extents) c.close_stream-stream.ensures.tree ∙ sym frees)
