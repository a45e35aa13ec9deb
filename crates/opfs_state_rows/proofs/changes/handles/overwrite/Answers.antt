use Rattle.std.proofs.Common.{◌≡◌, ℕ, suc, ◌+◌, ◌-◌, ◌<◌, ◌≤◌, ◌^◌, Some, length, refl, sym, ap, ◌∙◌, subst, arith}
use Rattle.opfs_base.specs.Blocks.{blocks}
use Rattle.opfs_base.specs.Units.{origin_of}
use Rattle.opfs_machine.specs.declared.own.HandleOutline.{HandleOutline}
use Rattle.opfs_machine.specs.Agents.{open_handle, counted}
use Rattle.opfs_machine.specs.Contents.{in_lengths, handle_with}
use Rattle.opfs_machine.specs.Effects.{with_changed, moment_of}
use Rattle.opfs_machine.specs.Rows.{with_file}
use Rattle.opfs_machine.specs.Rows.{file_at as file-of}
use Rattle.opfs_machine.specs.Rulings.{reserve_for, want_of}
use Rattle.opfs_machine.specs.Sums.{usage}
use Rattle.opfs_register.specs.Slots.{handle_at}
use Rattle.opfs_state_rows.specs.Standing.Contents.{showing}
use Rattle.opfs_state_rows.specs.Standing.Seen.{Machine, Seen}
use Rattle.opfs_state_rows.proofs.changes.Found.{numbered, place-number, handle-above, handle-place, is-handle-at, handle-held, held-in, some-is}
use Rattle.opfs_state_rows.proofs.changes.Grown.{same-handle}
use Rattle.opfs_state_rows.proofs.changes.Overwritten.{handle-grown, handle-many, handle-entries, handle-usage}
use Rattle.opfs_state_rows.proofs.changes.Twice.{some-file, if-file}
use Rattle.opfs_tree.specs.Rows.{Rows, file_at, change_at, written}
use Rattle.opfs_state_rows.proofs.changes.handles.overwrite.Goals as goal

pub overflow_sub-n : goal.overflow_sub-n
overflow_sub-n c = handle-above c.args.store.now.machine c.args.agent c.args.row c.requires.writes.handle c.requires.writes.is

pub grow_handle-requires-clause-handle : goal.grow_handle-requires-clause-handle
grow_handle-requires-clause-handle c =
    let m = c.args.store.now.machine in
    is-handle-at m c.args.agent (c.args.agent - 1) c.args.row (c.args.row - 1) c.requires.writes.handle c.requires.kept (place-number c.args.agent c.requires.above)
    (place-number c.args.row (handle-above m c.args.agent c.args.row c.requires.writes.handle c.requires.writes.is)) c.requires.writes.is

pub grow_handle-requires-clause-room : goal.grow_handle-requires-clause-room
grow_handle-requires-clause-room c =
    let m = c.args.store.now.machine in
    let found : handle_at m.agents (c.args.agent - 1) (c.args.row - 1) ≡ Some c.in-Some.handle.now = rw c.register-2.ensures at (sym c.in-Some.ensures) in
    let same = same-handle m c.args.agent (c.args.agent - 1) c.args.row (c.args.row - 1) c.requires.writes.handle c.in-Some.handle.now (place-number c.args.agent c.requires.above) (place-number c.args.row (handle-above m c.args.agent c.args.row c.requires.writes.handle c.requires.writes.is)) c.requires.writes.is found in
    let reserve : c.requires.writes.handle.reserve ≡ c.in-Some.handle.now.reserve = ap (λ (w : HandleOutline). w.reserve) same in
    omega (arith, c.requires.writes.room, reserve, c.max.ensures, c.blocks-2.ensures)

pub set_present-requires-clause-there : goal.set_present-requires-clause-there
set_present-requires-clause-there c =
    let m = c.args.store.now.machine in
    let held = held-in m c.args.store.now.tree c.requires.writes.handle.file (want_of c.requires.writes.handle.mode) c.know_rows_match_tree.ensures (handle-held m c.args.agent c.args.row c.requires.writes.handle c.requires.kept c.requires.writes.is) in
    some-file (ap (file_at c.args.place.now) c.grow_handle.ensures.tree ∙ ap (λ p. file_at p c.args.store.now.tree) (sym c.requires.writes.same) ∙ held.found)

pub set_present-requires-clause-quota : goal.set_present-requires-clause-quota
set_present-requires-clause-quota c =
    let m = c.args.store.now.machine in
    let held = held-in m c.args.store.now.tree c.requires.writes.handle.file (want_of c.requires.writes.handle.mode) c.know_rows_match_tree.ensures (handle-held m c.args.agent c.args.row c.requires.writes.handle c.requires.kept c.requires.writes.is) in
    let found : handle_at m.agents (c.args.agent - 1) (c.args.row - 1) ≡ Some c.in-Some.handle.now = rw c.register-2.ensures at (sym c.in-Some.ensures) in
    let same = same-handle m c.args.agent (c.args.agent - 1) c.args.row (c.args.row - 1) c.requires.writes.handle c.in-Some.handle.now (place-number c.args.agent c.requires.above) (place-number c.args.row (handle-above m c.args.agent c.args.row c.requires.writes.handle c.requires.writes.is)) c.requires.writes.is found in
    let place : c.in-Some.handle.now.file ≡ c.args.place.now = ap (λ (w : HandleOutline). w.file) (sym same) ∙ c.requires.writes.same in
    let used = handle-usage m c.grow_handle.new.self.machine (c.args.agent - 1) (c.args.row - 1) c.args.size _ c.in-Some.handle.now found (rw (c.max.ensures, c.blocks-2.ensures) refl) c.grow_handle.ensures.machine in
    let here : usage in_lengths c.grow_handle.new.self.machine (origin_of c.args.place.now.0) ≡ usage in_lengths m (origin_of c.args.place.now.0) =
    subst (λ p. usage in_lengths c.grow_handle.new.self.machine (origin_of p.0) ≡ usage in_lengths m (origin_of p.0)) place used in
    let quota = c.requires.writes.quota held.file (ap (λ p. file-of m p) (sym c.requires.writes.same) ∙ held.there) in
    let present : held.file.present ≡ held.row.present = ap (λ f. f.present) held.same in
    if-file (λ f. usage in_lengths c.grow_handle.new.self.machine (origin_of c.args.place.now.0) + blocks c.args.present < 2 ^ 64 + blocks f.present) _ held.row
    (ap (file_at c.args.place.now) c.grow_handle.ensures.tree ∙ ap (λ p. file_at p c.args.store.now.tree) (sym c.requires.writes.same) ∙ held.found)
    (omega (arith, here, quota, ap blocks present))

pub count-requires-clause-inside : goal.count-requires-clause-inside
count-requires-clause-inside c =
    let m = c.args.store.now.machine in
    let found : handle_at m.agents (c.args.agent - 1) (c.args.row - 1) ≡ Some c.in-Some.handle.now = rw c.register-2.ensures at (sym c.in-Some.ensures) in
    let many = handle-many m c.grow_handle.new.self.machine (c.args.agent - 1) (c.args.row - 1) c.args.size _ c.in-Some.handle.now found (rw (c.max.ensures, c.blocks-2.ensures) refl) c.grow_handle.ensures.machine in
    omega (arith, ap (λ (x : Machine). length x.agents) c.set_present.ensures.machine, many, c.requires.within, c.requires.above)

pub count-requires-clause-entries : goal.count-requires-clause-entries
count-requires-clause-entries c =
    let m = c.args.store.now.machine in
    let found : handle_at m.agents (c.args.agent - 1) (c.args.row - 1) ≡ Some c.in-Some.handle.now = rw c.register-2.ensures at (sym c.in-Some.ensures) in
    let same = handle-entries m c.grow_handle.new.self.machine (c.args.agent - 1) (c.args.row - 1) c.args.size _ c.in-Some.handle.now found (rw (c.max.ensures, c.blocks-2.ensures) refl) c.grow_handle.ensures.machine in
    omega (arith, ap (λ (x : Machine). x.entries) c.set_present.ensures.machine, same, c.requires.entries)

pub returns-clause-machine : goal.returns-clause-machine
returns-clause-machine c = λ h is.
    let m = c.args.store.now.machine in
    let found : handle_at m.agents (c.args.agent - 1) (c.args.row - 1) ≡ Some c.in-Some.handle.now = rw c.register-2.ensures at (sym c.in-Some.ensures) in
    let number = place-number c.args.row (handle-above m c.args.agent c.args.row c.requires.writes.handle c.requires.writes.is) in
    let same = same-handle m c.args.agent (c.args.agent - 1) c.args.row (c.args.row - 1) h c.in-Some.handle.now (place-number c.args.agent c.requires.above) number is found in
    subst (λ (x : HandleOutline). c.count.new.self.machine ≡ counted (with_changed (with_file m c.args.place.now (showing c.args.present (moment_of m c.args.agent))) c.args.agent c.args.row (λ r. handle_with r (reserve_for x.reserve c.args.size))) c.args.agent) (sym same)
    (numbered (λ k row. c.count.new.self.machine ≡ counted (with_changed (with_file m c.args.place.now (showing c.args.present (moment_of m k))) k row (λ r. handle_with r (reserve_for c.in-Some.handle.now.reserve c.args.size))) k) c.args.agent (c.args.agent - 1) c.args.row (c.args.row - 1) (place-number c.args.agent c.requires.above) number
    (ap (λ (x : Seen). x.machine) c.count.ensures
    ∙ ap (λ (x : Machine). counted x (suc (c.args.agent - 1)))
    (c.set_present.ensures.machine
    ∙ ap (λ (n : ℕ). with_file c.grow_handle.new.self.machine c.args.place.now (showing c.args.present n)) (rw c.register.ensures at c.moment-moment.ensures)
    ∙ handle-grown m c.grow_handle.new.self.machine (c.args.agent - 1) (c.args.row - 1) c.args.size _ c.in-Some.handle.now found (rw (c.max.ensures, c.blocks-2.ensures) refl) c.grow_handle.ensures.machine c.args.place.now (showing c.args.present (moment_of m (suc (c.args.agent - 1)))))))

pub returns-clause-tree : goal.returns-clause-tree
returns-clause-tree c =
    let m = c.args.store.now.machine in
    ap (λ (x : Seen). x.tree) c.count.ensures ∙ c.set_present.ensures.tree
    ∙ ap (λ (n : ℕ). change_at c.args.place.now (written c.args.present n) c.grow_handle.new.self.tree) (subst (λ k. c.moment-moment.result ≡ moment_of m k) (place-number c.args.agent c.requires.above) (rw c.register.ensures at c.moment-moment.ensures))
    ∙ ap (λ (t : Rows). change_at c.args.place.now (written c.args.present (moment_of m c.args.agent)) t) c.grow_handle.ensures.tree
