use Rattle.std.proofs.Common.{◌≡◌, ℕ, suc, ◌+◌, ◌-◌, ◌<◌, ◌≤◌, ◌^◌, Some, length, refl, sym, ap, ◌∙◌, subst, arith}
use Rattle.opfs_machine.specs.declared.own.StreamOutline.{StreamOutline}
use Rattle.opfs_machine.specs.Agents.{counted}
use Rattle.opfs_machine.specs.Contents.{stream_with}
use Rattle.opfs_machine.specs.Effects.{with_changed}
use Rattle.opfs_machine.specs.Rulings.{reserve_for}
use Rattle.opfs_machine.specs.Sums.{reserve_of}
use Rattle.opfs_register.specs.Slots.{stream_at}
use Rattle.opfs_state_rows.specs.Standing.Seen.{Machine, Seen}
use Rattle.opfs_state_rows.proofs.changes.Found.{numbered, place-number, stream-above, is-stream-at}
use Rattle.opfs_state_rows.proofs.changes.Grown.{stream-grown, stream-many, stream-entries, same-stream, fits-usage}
use Rattle.opfs_state_rows.proofs.changes.streams.grow.Goals as goal

pub grow_stream-requires-clause-stream : goal.grow_stream-requires-clause-stream
grow_stream-requires-clause-stream c =
    let m = c.args.store.now.machine in
    is-stream-at m c.args.agent (c.args.agent - 1) c.args.row (c.args.row - 1) c.requires.grows.stream c.requires.kept (place-number c.args.agent c.requires.above)
    (place-number c.args.row (stream-above m c.args.agent c.args.row c.requires.grows.stream c.requires.grows.is)) c.requires.grows.is

pub grow_stream-requires-clause-quota : goal.grow_stream-requires-clause-quota
grow_stream-requires-clause-quota c = λ v told.
    let m = c.args.store.now.machine in
    let found : stream_at m.agents (c.args.agent - 1) (c.args.row - 1) ≡ Some c.in-Some.stream.now = rw c.register.ensures at (sym c.in-Some.ensures) in
    let same = same-stream m c.args.agent (c.args.agent - 1) c.args.row (c.args.row - 1) c.requires.grows.stream c.in-Some.stream.now (place-number c.args.agent c.requires.above) (place-number c.args.row (stream-above m c.args.agent c.args.row c.requires.grows.stream c.requires.grows.is)) c.requires.grows.is found in
    let reserve : c.requires.grows.stream.reserve ≡ c.in-Some.stream.now.reserve = ap (λ (w : StreamOutline). w.reserve) same in
    fits-usage m _ _ c.data_blocks-blocks.result c.requires.kept (omega (arith, c.requires.grows.room, reserve, c.max.ensures, c.blocks-2.ensures)) c.data_blocks-blocks.ensures c.data_blocks-blocks.type_inv

pub count-requires-clause-inside : goal.count-requires-clause-inside
count-requires-clause-inside c =
    let m = c.args.store.now.machine in
    let found : stream_at m.agents (c.args.agent - 1) (c.args.row - 1) ≡ Some c.in-Some.stream.now = rw c.register.ensures at (sym c.in-Some.ensures) in
    omega (arith, stream-many m c.grow_stream.new.self.machine (c.args.agent - 1) (c.args.row - 1) c.args.size _ c.in-Some.stream.now found (rw (c.max.ensures, c.blocks-2.ensures) refl) c.grow_stream.ensures.machine, c.requires.within, c.requires.above)

pub count-requires-clause-entries : goal.count-requires-clause-entries
count-requires-clause-entries c =
    let m = c.args.store.now.machine in
    let found : stream_at m.agents (c.args.agent - 1) (c.args.row - 1) ≡ Some c.in-Some.stream.now = rw c.register.ensures at (sym c.in-Some.ensures) in
    omega (arith, stream-entries m c.grow_stream.new.self.machine (c.args.agent - 1) (c.args.row - 1) c.args.size _ c.in-Some.stream.now found (rw (c.max.ensures, c.blocks-2.ensures) refl) c.grow_stream.ensures.machine, c.requires.entries)

pub returns-clause-machine : goal.returns-clause-machine
returns-clause-machine c =
    let m = c.args.store.now.machine in
    let found : stream_at m.agents (c.args.agent - 1) (c.args.row - 1) ≡ Some c.in-Some.stream.now = rw c.register.ensures at (sym c.in-Some.ensures) in
    numbered (λ k row. c.count.new.self.machine ≡ counted (with_changed m k row (λ r. stream_with r (reserve_for (reserve_of r) c.args.size))) k) c.args.agent (c.args.agent - 1) c.args.row (c.args.row - 1) (place-number c.args.agent c.requires.above)
    (place-number c.args.row (stream-above m c.args.agent c.args.row c.requires.grows.stream c.requires.grows.is))
    (ap (λ (x : Seen). x.machine) c.count.ensures
    ∙ ap (λ (x : Machine). counted x (suc (c.args.agent - 1)))
    (stream-grown m c.grow_stream.new.self.machine (c.args.agent - 1) (c.args.row - 1) c.args.size _ c.in-Some.stream.now found (rw (c.max.ensures, c.blocks-2.ensures) refl) c.grow_stream.ensures.machine))
