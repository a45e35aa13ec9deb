use Rattle.std.proofs.Common.{◌≡◌, suc, ◌+◌, ◌-◌, ◌<◌, ◌^◌, Some, None, length, sym, ap, subst, ◌∙◌, arith}
use Rattle.opfs_machine.specs.Agents.{counted}
use Rattle.opfs_machine.specs.Contents.{in_lengths}
use Rattle.opfs_machine.specs.Effects.{moment_of, new_row}
use Rattle.opfs_machine.specs.Rows.{with_row}
use Rattle.opfs_state_rows.specs.Standing.Seen.{Machine, Seen}
use Rattle.opfs_state_rows.proofs.changes.Found.{place-number}
use Rattle.opfs_state_rows.proofs.changes.Rowed.{row-target, row-grows, row-area, in-place, no-row, none-made, row-made}
use Rattle.opfs_state_rows.specs.Changes.Asking.{place_for, row_growth}
use Rattle.opfs_state_rows.specs.Changes.Changed.{IsDone}
use Rattle.opfs_state_rows.proofs.changes.rows.make_row.Goals as goal

pub fill-requires-clause-ready : goal.fill-requires-clause-ready
fill-requires-clause-ready c =
    let m = c.args.store.now.machine in
    let here = in-place (place_for m c.args.agent c.args.op.now) c.in-Some.place (sym (c.requires.target ∙ row-target m c.args.agent c.args.op.now c.requires.makes) ∙ c.in-Some.is) in
    record { kind = here.0; is = c.requires.place ∙ here.1; charge = c.requires.growth ∙ row-grows m c.args.agent c.args.op.now c.requires.makes ∙ ap row_growth here.1 }

pub fill-requires-clause-area : goal.fill-requires-clause-area
fill-requires-clause-area c =
    row-area c.args.store.now.machine c.args.sizes c.args.agent c.args.op.now c.args.growth c.area_bytes-area.result c.requires.makes c.requires.may.may c.requires.growth c.area_bytes-area.ensures c.area_bytes-area.type_inv

pub returns-in_default-clause-done : goal.returns-in_default-clause-done
returns-in_default-clause-done c = λ extents.
    let m = c.args.store.now.machine in
    let none = no-row (place_for m c.args.agent c.args.op.now) (sym (c.requires.target ∙ row-target m c.args.agent c.args.op.now c.requires.makes) ∙ c.in_default.is) in
    none-made c.args.store.now c.count.new.self c.args.sizes c.args.agent c.args.op.now c.requires.makes extents none (subst (λ k. c.count.new.self ≡ record c.args.store.now { machine = counted c.args.store.now.machine k }) (place-number c.args.agent c.requires.may.above) c.count.ensures)

pub returns-in_default-clause-place : goal.returns-in_default-clause-place
returns-in_default-clause-place c =
    let m = c.args.store.now.machine in
    let none = no-row (place_for m c.args.agent c.args.op.now) (sym (c.requires.target ∙ row-target m c.args.agent c.args.op.now c.requires.makes) ∙ c.in_default.is) in
    ap (λ (x : Seen). x.prepared.place) c.count.ensures ∙ c.requires.place ∙ none

pub returns-clause-done : goal.returns-clause-done
returns-clause-done c = λ extents.
    let m = c.args.store.now.machine in
    let here = in-place (place_for m c.args.agent c.args.op.now) c.in-Some.place (sym (c.requires.target ∙ row-target m c.args.agent c.args.op.now c.requires.makes) ∙ c.in-Some.is) in
    let clock : c.moment-stamp.result ≡ moment_of m c.args.agent = subst (λ k. c.moment-stamp.result ≡ moment_of m k) (place-number c.args.agent c.requires.may.above) (rw c.register.ensures at c.moment-stamp.ensures) in
    row-made c.args.store.now c.count-2.new.self c.args.sizes c.args.agent c.args.op.now c.requires.makes extents c.fill.new.self c.in-Some.place here.0 here.1
    (rw clock at (c.fill.ensures.machine here.0 (c.requires.place ∙ here.1))) (rw clock at (c.fill.ensures.tree here.0 (c.requires.place ∙ here.1))) (subst (λ k. c.count-2.new.self ≡ record c.fill.new.self { machine = counted c.fill.new.self.machine k }) (place-number c.args.agent c.requires.may.above) c.count-2.ensures)

pub returns-clause-place : goal.returns-clause-place
returns-clause-place c = ap (λ (x : Seen). x.prepared.place) c.count-2.ensures ∙ ap (λ p. p.place) c.fill.ensures.prepared

pub count-requires-2-clause-inside : goal.count-requires-2-clause-inside
count-requires-2-clause-inside c =
    let m = c.args.store.now.machine in
    let here = in-place (place_for m c.args.agent c.args.op.now) c.in-Some.place (sym (c.requires.target ∙ row-target m c.args.agent c.args.op.now c.requires.makes) ∙ c.in-Some.is) in
    omega (arith, ap (λ (x : Machine). length x.agents) (c.fill.ensures.machine here.0 (c.requires.place ∙ here.1)), c.requires.may.within, c.requires.may.above)

pub count-requires-2-clause-entries : goal.count-requires-2-clause-entries
count-requires-2-clause-entries c =
    let m = c.args.store.now.machine in
    let here = in-place (place_for m c.args.agent c.args.op.now) c.in-Some.place (sym (c.requires.target ∙ row-target m c.args.agent c.args.op.now c.requires.makes) ∙ c.in-Some.is) in
    omega (arith, ap (λ (x : Machine). x.entries) (c.fill.ensures.machine here.0 (c.requires.place ∙ here.1)), c.requires.may.entries)
