use Rattle.std.proofs.Common.{◌≡◌, suc, ◌-◌, sym, ap, subst, ◌∙◌}
use Rattle.opfs_machine.specs.Agents.{counted}
use Rattle.opfs_state_rows.proofs.changes.Found.{place-number}
use Rattle.opfs_state_rows.proofs.changes.Rowed.{persist-grows, persist-area, none-persisted, persisted}
use Rattle.opfs_state_rows.specs.Changes.Asking.{mode_growth}
use Rattle.opfs_state_rows.proofs.changes.rows.persist.Goals as goal

pub persist-requires-clause-charge : goal.persist-requires-clause-charge
persist-requires-clause-charge c =
    let m = c.args.store.now.machine in
    c.requires.growth ∙ persist-grows m c.args.agent c.args.bucket.now ∙ ap (mode_growth m) (sym c.requires.target ∙ c.in-Some.is)

pub persist-requires-clause-area : goal.persist-requires-clause-area
persist-requires-clause-area c =
    persist-area c.args.store.now.machine c.args.sizes c.args.agent c.args.bucket.now c.args.growth c.area_bytes-area.result c.requires.may.may c.requires.growth c.area_bytes-area.ensures c.area_bytes-area.type_inv

pub returns-in_default-clause-done : goal.returns-in_default-clause-done
returns-in_default-clause-done c = λ extents.
    none-persisted c.args.store.now c.count.new.self c.args.sizes c.args.agent c.args.bucket.now extents (sym c.requires.target ∙ c.in_default.is) (subst (λ k. c.count.new.self ≡ record c.args.store.now { machine = counted c.args.store.now.machine k }) (place-number c.args.agent c.requires.may.above) c.count.ensures)

pub returns-clause-done : goal.returns-clause-done
returns-clause-done c = λ extents.
    persisted c.args.store.now c.count-2.new.self c.args.sizes c.args.agent c.args.bucket.now extents c.persist.new.self c.in-Some.place (sym c.requires.target ∙ c.in-Some.is) c.persist.ensures.machine c.persist.ensures.tree
    (subst (λ k. c.count-2.new.self ≡ record c.persist.new.self { machine = counted c.persist.new.self.machine k }) (place-number c.args.agent c.requires.may.above) c.count-2.ensures)
