use Rattle.std.proofs.Common.{◌≡◌, ℕ, suc, ◌+◌, ◌-◌, ◌<◌, ◌≤◌, ◌^◌, ◌++◌, Some, None, Option, List, length, vec_capacity, refl, sym, ap, ◌∙◌, subst, arith}
use Rattle.std.specs.Option.{option_copied}
use Rattle.opfs_base.specs.Blocks.{blocks}
use Rattle.opfs_hist.specs.declared.op.Op.TheVariants as op
use Rattle.opfs_locks.specs.Holding.{IsTakenAs}
use Rattle.opfs_machine.specs.declared.own.HandleOutline.{HandleOutline}
use Rattle.opfs_machine.specs.declared.own.Outline.TheVariants as outline
use Rattle.opfs_machine.specs.Contents.{in_lengths}
use Rattle.opfs_machine.specs.Effects.{with_written, flushed}
use Rattle.opfs_machine.specs.Rulings.{want_of}
use Rattle.opfs_machine.specs.Sums.{pool}
use Rattle.opfs_register.specs.Slots.{handle_at}
use Rattle.opfs_state_rows.proofs.standing.SlotMoves.{handle-row}
use Rattle.opfs_state_rows.specs.Standing.Seen.{Machine}
use Rattle.opfs_state_rows.proofs.changes.Covering.{flush-room}
use Rattle.opfs_state_rows.proofs.changes.Found.{numbered, place-number, handle-above, handle-place, is-handle-at, handle-held, held-in, no-thing}
use Rattle.opfs_state_rows.proofs.changes.Grown.{same-handle, as-many}
use Rattle.opfs_state_rows.proofs.changes.Settled.{opened-handle, flushed-done, flush-frees, written-many, written-entries}
use Rattle.opfs_state_rows.proofs.changes.Twice.{some-file, if-file}
use Rattle.opfs_state_rows.proofs.changes.Writing.{flush-of, no-place, one-place}
use Rattle.opfs_state_rows.specs.Changes.Changed.{IsDone, freed_in, flushed_in, handle_frees, changed_by}
use Rattle.opfs_tree.specs.declared.row.FileRow.{FileRow}
use Rattle.opfs_tree.specs.Rows.{Rows, file_at}
use Rattle.opfs_state_rows.proofs.changes.handles.sync_flush.Goals as goal

pub unreachable-requires : goal.unreachable-requires
unreachable-requires c =
    let w = flush-of c.args.store.now.machine c.args.caller.sizes c.args.caller.agent c.args.row c.args.target c.requires.may.may c.requires.target in
    no-place c.in_default.is w.2

pub overflow_sub-n : goal.overflow_sub-n
overflow_sub-n c =
    let w = flush-of c.args.store.now.machine c.args.caller.sizes c.args.caller.agent c.args.row c.args.target c.requires.may.may c.requires.target in
    handle-above c.args.store.now.machine c.args.caller.agent c.args.row w.0 w.1

pub unreachable-requires-in_default-handle : goal.unreachable-requires-in_default-handle
unreachable-requires-in_default-handle c =
    let m = c.args.store.now.machine in
    let w = flush-of m c.args.caller.sizes c.args.caller.agent c.args.row c.args.target c.requires.may.may c.requires.target in
    let number = place-number c.args.row (handle-above m c.args.caller.agent c.args.row w.0 w.1) in
    let there : handle_at m.agents (c.args.caller.agent - 1) (c.args.row - 1) ≡ Some w.0 = handle-place m c.args.caller.agent (c.args.caller.agent - 1) c.args.row (c.args.row - 1) (place-number c.args.caller.agent c.requires.may.above) number ∙ w.1 in
    no-thing (ap option_copied (sym c.in_default-handle.is) ∙ (rw c.register.ensures at c.handle.ensures)) there

pub free_handle-requires : goal.free_handle-requires
free_handle-requires c =
    let m = c.args.store.now.machine in
    let w = flush-of m c.args.caller.sizes c.args.caller.agent c.args.row c.args.target c.requires.may.may c.requires.target in
    record {
      handle =
          is-handle-at m c.args.caller.agent (c.args.caller.agent - 1) c.args.row (c.args.row - 1) w.0 c.requires.may.kept (place-number c.args.caller.agent c.requires.may.above)
          (place-number c.args.row (handle-above m c.args.caller.agent c.args.row w.0 w.1)) w.1;
    }

pub flush_by-requires-clause-there : goal.flush_by-requires-clause-there
flush_by-requires-clause-there c =
    let m = c.args.store.now.machine in
    let w = flush-of m c.args.caller.sizes c.args.caller.agent c.args.row c.args.target c.requires.may.may c.requires.target in
    let held = held-in m c.args.store.now.tree w.0.file (want_of w.0.mode) c.know_rows_match_tree.ensures (handle-held m c.args.caller.agent c.args.row w.0 c.requires.may.kept w.1) in
    some-file (ap (file_at c.in-Some.place) c.free_handle.ensures.tree ∙ ap (λ p. file_at p c.args.store.now.tree) (sym (one-place c.in-Some.is w.2)) ∙ held.found)

pub flush_by-requires-clause-room : goal.flush_by-requires-clause-room
flush_by-requires-clause-room c = λ writes.
    let m = c.args.store.now.machine in
    let v = c.in-Some-handle.handle.now in
    let found : handle_at m.agents (c.args.caller.agent - 1) (c.args.row - 1) ≡ Some v = rw c.register.ensures at (sym c.in-Some-handle.ensures) in
    let w = flush-of m c.args.caller.sizes c.args.caller.agent c.args.row c.args.target c.requires.may.may c.requires.target in
    let number = place-number c.args.row (handle-above m c.args.caller.agent c.args.row w.0 w.1) in
    let same = same-handle m c.args.caller.agent (c.args.caller.agent - 1) c.args.row (c.args.row - 1) w.0 v (place-number c.args.caller.agent c.requires.may.above) number w.1 found in
    let place : v.file ≡ c.in-Some.place = ap (λ (x : HandleOutline). x.file) (sym same) ∙ one-place c.in-Some.is w.2 in
    let held = held-in m c.args.store.now.tree v.file (want_of v.mode) c.know_rows_match_tree.ensures (handle-held m (suc (c.args.caller.agent - 1)) (suc (c.args.row - 1)) v c.requires.may.kept (opened-handle m (c.args.caller.agent - 1) (c.args.row - 1) v found)) in
    let room =
    flush-room m c.free_handle.new.self.machine (c.args.caller.agent - 1) (c.args.row - 1) v (outline.Handle (record v { reserve = 0 })) found (c.free_handle.ensures.machine v found) (handle-row (record v { reserve = 0 })) refl refl c.requires.may.kept held.file held.there
    (subst (λ f. IsTakenAs (want_of v.mode) f.lock) (sym held.same) held.taken) writes in
    let present = ap (λ f. blocks f.present) held.same in
    let durable = ap (λ f. blocks f.durable) held.same in
    if-file (λ f. pool in_lengths c.free_handle.new.self.machine + blocks f.present ≤ c.free_handle.new.self.machine.limits.blocks + blocks f.length) _ held.row
    (ap (file_at c.in-Some.place) c.free_handle.ensures.tree ∙ ap (λ p. file_at p c.args.store.now.tree) (sym place) ∙ held.found)
    (omega (arith, room, present, durable))

pub flush_by-requires-clause-fits : goal.flush_by-requires-clause-fits
flush_by-requires-clause-fits c =
    let m = c.args.store.now.machine in
    let v = c.in-Some-handle.handle.now in
    let found : handle_at m.agents (c.args.caller.agent - 1) (c.args.row - 1) ≡ Some v = rw c.register.ensures at (sym c.in-Some-handle.ensures) in
    let w = flush-of m c.args.caller.sizes c.args.caller.agent c.args.row c.args.target c.requires.may.may c.requires.target in
    let number = place-number c.args.row (handle-above m c.args.caller.agent c.args.row w.0 w.1) in
    let same = same-handle m c.args.caller.agent (c.args.caller.agent - 1) c.args.row (c.args.row - 1) w.0 v (place-number c.args.caller.agent c.requires.may.above) number w.1 found in
    let place : v.file ≡ c.in-Some.place = ap (λ (x : HandleOutline). x.file) (sym same) ∙ one-place c.in-Some.is w.2 in
    let frees = numbered (λ k row. freed_in m c.args.store.now.tree k (op.SyncFlush row) c.args.extents ≡ handle_frees c.args.store.now.tree c.args.extents (Some v)) c.args.caller.agent (c.args.caller.agent - 1) c.args.row (c.args.row - 1) (place-number c.args.caller.agent c.requires.may.above) number (flush-frees m c.args.store.now.tree (c.args.caller.agent - 1) (c.args.row - 1) v c.args.extents found) in
    subst (λ xs. length (c.args.freed.now.items ++ xs) ≤ vec_capacity c.args.freed.now) (frees ∙ (let tree = sym c.free_handle.ensures.tree in λ i. handle_frees (tree i) c.args.extents (Some (record v { file = place i })))) c.requires.fits

pub count-requires-clause-inside : goal.count-requires-clause-inside
count-requires-clause-inside c =
    let m = c.args.store.now.machine in
    let v = c.in-Some-handle.handle.now in
    let found : handle_at m.agents (c.args.caller.agent - 1) (c.args.row - 1) ≡ Some v = rw c.register.ensures at (sym c.in-Some-handle.ensures) in
    let many = as-many m c.free_handle.new.self.machine (suc (c.args.caller.agent - 1)) (suc (c.args.row - 1)) _ (c.free_handle.ensures.machine v found) in
    omega (arith, ap (λ (x : Machine). length x.agents) c.flush_by.ensures.machine, ap length (written-many c.free_handle.new.self.machine v.mode c.in-Some.place flushed), many, c.requires.may.within, c.requires.may.above)

pub count-requires-clause-entries : goal.count-requires-clause-entries
count-requires-clause-entries c =
    let m = c.args.store.now.machine in
    let v = c.in-Some-handle.handle.now in
    let found : handle_at m.agents (c.args.caller.agent - 1) (c.args.row - 1) ≡ Some v = rw c.register.ensures at (sym c.in-Some-handle.ensures) in
    omega (arith, ap (λ (x : Machine). x.entries) c.flush_by.ensures.machine, written-entries c.free_handle.new.self.machine v.mode c.in-Some.place flushed, ap (λ (x : Machine). x.entries) (c.free_handle.ensures.machine v found), c.requires.may.entries)

pub returns-clause-done : goal.returns-clause-done
returns-clause-done c =
    let m = c.args.store.now.machine in
    let v = c.in-Some-handle.handle.now in
    let found : handle_at m.agents (c.args.caller.agent - 1) (c.args.row - 1) ≡ Some v = rw c.register.ensures at (sym c.in-Some-handle.ensures) in
    let w = flush-of m c.args.caller.sizes c.args.caller.agent c.args.row c.args.target c.requires.may.may c.requires.target in
    let number = place-number c.args.row (handle-above m c.args.caller.agent c.args.row w.0 w.1) in
    let same = same-handle m c.args.caller.agent (c.args.caller.agent - 1) c.args.row (c.args.row - 1) w.0 v (place-number c.args.caller.agent c.requires.may.above) number w.1 found in
    let place : v.file ≡ c.in-Some.place = ap (λ (x : HandleOutline). x.file) (sym same) ∙ one-place c.in-Some.is w.2 in
    numbered (λ k row. IsDone c.args.store.now c.count.new.self c.args.caller.sizes k (op.SyncFlush row) c.args.extents) c.args.caller.agent (c.args.caller.agent - 1) c.args.row (c.args.row - 1) (place-number c.args.caller.agent c.requires.may.above) number
    (flushed-done c.args.store.now c.free_handle.new.self c.flush_by.new.store c.count.new.self c.args.caller.sizes (c.args.caller.agent - 1) (c.args.row - 1) v c.args.extents found c.free_handle.ensures.tree (c.free_handle.ensures.machine v found)
    (subst (λ p. c.flush_by.new.store.machine ≡ with_written c.free_handle.new.self.machine v.mode p flushed) (sym place) c.flush_by.ensures.machine)
    (subst (λ p. c.flush_by.new.store.tree ≡ changed_by c.free_handle.new.self.tree v.mode p (flushed_in c.args.extents)) (sym place) c.flush_by.ensures.tree) c.count.ensures)

pub returns-clause-freed : goal.returns-clause-freed
returns-clause-freed c =
    let m = c.args.store.now.machine in
    let v = c.in-Some-handle.handle.now in
    let found : handle_at m.agents (c.args.caller.agent - 1) (c.args.row - 1) ≡ Some v = rw c.register.ensures at (sym c.in-Some-handle.ensures) in
    let w = flush-of m c.args.caller.sizes c.args.caller.agent c.args.row c.args.target c.requires.may.may c.requires.target in
    let number = place-number c.args.row (handle-above m c.args.caller.agent c.args.row w.0 w.1) in
    let same = same-handle m c.args.caller.agent (c.args.caller.agent - 1) c.args.row (c.args.row - 1) w.0 v (place-number c.args.caller.agent c.requires.may.above) number w.1 found in
    let place : v.file ≡ c.in-Some.place = ap (λ (x : HandleOutline). x.file) (sym same) ∙ one-place c.in-Some.is w.2 in
    let frees = numbered (λ k row. freed_in m c.args.store.now.tree k (op.SyncFlush row) c.args.extents ≡ handle_frees c.args.store.now.tree c.args.extents (Some v)) c.args.caller.agent (c.args.caller.agent - 1) c.args.row (c.args.row - 1) (place-number c.args.caller.agent c.requires.may.above) number (flush-frees m c.args.store.now.tree (c.args.caller.agent - 1) (c.args.row - 1) v c.args.extents found) in
    c.flush_by.ensures.freed ∙ ap (λ xs. c.args.freed.now.items ++ xs) (sym (frees ∙ (let tree = sym c.free_handle.ensures.tree in λ i. handle_frees (tree i) c.args.extents (Some (record v { file = place i })))))
