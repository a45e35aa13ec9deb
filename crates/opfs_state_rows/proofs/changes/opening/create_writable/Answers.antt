use Rattle.std.proofs.Common.{◌≡◌, suc, ◌+◌, ◌-◌, ◌<◌, ◌≤◌, ◌^◌, sym, ap, subst, ◌∙◌, arith}
use Rattle.std.specs.Prelude.{IsSome}
use Rattle.opfs_base.specs.Places.{place_of}
use Rattle.opfs_base.specs.Units.{origin_of}
use Rattle.opfs_hist.specs.declared.op.Op.TheVariants as op
use Rattle.opfs_locks.specs.declared.Want.TheVariants as want
use Rattle.opfs_machine.specs.declared.own.Outline.TheVariants as outline
use Rattle.opfs_machine.specs.declared.own.StreamOutline.{StreamOutline}
use Rattle.opfs_machine.specs.Agents.{adds_own}
use Rattle.opfs_machine.specs.Contents.{in_lengths}
use Rattle.opfs_machine.specs.Rows.{row_at}
use Rattle.opfs_machine.specs.Rulings.{first_reserve}
use Rattle.opfs_machine.specs.Sums.{usage, pool}
use Rattle.opfs_state_rows.specs.Standing.Seen.{Seen}
use Rattle.opfs_state_rows.proofs.changes.Found.{place-number}
use Rattle.opfs_state_rows.proofs.changes.Opened.{writable-given, writable-room, writable-target, locked-there, locked-usage, locked-pool, locked-limit, writable-done}
use Rattle.opfs_state_rows.proofs.changes.Writing.{no-place, one-place}
use Rattle.opfs_state_rows.specs.Changes.Changed.{IsDone}
use Rattle.opfs_state_rows.proofs.changes.opening.create_writable.Goals as goal

pub unreachable-requires : goal.unreachable-requires
unreachable-requires c = no-place c.in_default.is (writable-target c.args.store.now.machine c.args.agent c.args.file.now c.args.keep c.args.target c.requires.target)

pub take-held-requires-clause-given : goal.take-held-requires-clause-given
take-held-requires-clause-given c = writable-given c.args.store.now.machine c.args.sizes c.args.agent c.args.file.now c.args.keep c.requires.may.may

pub open_stream-requires-clause-there : goal.open_stream-requires-clause-there
open_stream-requires-clause-there c =
    let m = c.args.store.now.machine in
    let place = one-place c.in-Some.is (writable-target m c.args.agent c.args.file.now c.args.keep c.args.target c.requires.target) in
    let given = writable-given m c.args.sizes c.args.agent c.args.file.now c.args.keep c.requires.may.may in
    let file : c.make.result.file ≡ place_of c.args.file.now = ap (λ (w : StreamOutline). w.file) c.make.ensures ∙ sym place in
    subst (λ p. IsSome (row_at c.take-held.new.store.machine p)) (sym file) (locked-there m c.take-held.new.store.machine (place_of c.args.file.now) want.Shared given.file given.there c.take-held.ensures.machine)

pub open_stream-requires-clause-quota : goal.open_stream-requires-clause-quota
open_stream-requires-clause-quota c =
    let m = c.args.store.now.machine in
    let place = one-place c.in-Some.is (writable-target m c.args.agent c.args.file.now c.args.keep c.args.target c.requires.target) in
    let given = writable-given m c.args.sizes c.args.agent c.args.file.now c.args.keep c.requires.may.may in
    let file : c.make.result.file ≡ place_of c.args.file.now = ap (λ (w : StreamOutline). w.file) c.make.ensures ∙ sym place in
    let reserve : c.make.result.reserve ≡ first_reserve in_lengths m c.args.file.now c.args.keep = ap (λ (w : StreamOutline). w.reserve) c.make.ensures ∙ c.first_reserve-reserve.ensures in
    let used = ap (λ p. usage in_lengths c.take-held.new.store.machine (origin_of p.0)) file ∙ locked-usage m c.take-held.new.store.machine (place_of c.args.file.now) want.Shared given.file given.there c.take-held.ensures.machine in
    omega (arith, used, reserve, c.requires.may.kept.usage (origin_of (place_of c.args.file.now).0), writable-room m c.args.sizes c.args.agent c.args.file.now c.args.keep c.requires.may.may, c.data_blocks-blocks.ensures, c.data_blocks-blocks.type_inv)

pub open_stream-requires-clause-blocks : goal.open_stream-requires-clause-blocks
open_stream-requires-clause-blocks c =
    let m = c.args.store.now.machine in
    let given = writable-given m c.args.sizes c.args.agent c.args.file.now c.args.keep c.requires.may.may in
    let reserve : c.make.result.reserve ≡ first_reserve in_lengths m c.args.file.now c.args.keep = ap (λ (w : StreamOutline). w.reserve) c.make.ensures ∙ c.first_reserve-reserve.ensures in
    let held = locked-pool m c.take-held.new.store.machine (place_of c.args.file.now) want.Shared given.file given.there c.take-held.ensures.machine in
    let limit = locked-limit m c.take-held.new.store.machine (place_of c.args.file.now) want.Shared given.file given.there c.take-held.ensures.machine in
    omega (arith, held, limit, reserve, writable-room m c.args.sizes c.args.agent c.args.file.now c.args.keep c.requires.may.may)

pub returns-clause-done : goal.returns-clause-done
returns-clause-done c = λ extents.
    let m = c.args.store.now.machine in
    let place = one-place c.in-Some.is (writable-target m c.args.agent c.args.file.now c.args.keep c.args.target c.requires.target) in
    let given = writable-given m c.args.sizes c.args.agent c.args.file.now c.args.keep c.requires.may.may in
    let back = sym place in
    let reserve = c.first_reserve-reserve.ensures in
    let stream = c.make.ensures ∙ (λ i. record { file = back i; reserve = reserve i }) in
    subst (λ k. IsDone c.args.store.now c.count.new.self c.args.sizes k (op.CreateWritable c.args.file.now c.args.keep) extents) (place-number c.args.agent c.requires.may.above)
    (writable-done c.args.store.now c.take-held.new.store c.open_stream.new.self c.count.new.self c.args.sizes (c.args.agent - 1) c.args.file.now extents c.args.keep given.file given.there c.take-held.ensures.machine c.take-held.ensures.tree
    (c.open_stream.ensures.machine ∙ ap (λ (w : StreamOutline). adds_own c.take-held.new.store.machine (suc (c.args.agent - 1)) (outline.Stream w)) stream)
    c.open_stream.ensures.tree c.count.ensures)
