use Rattle.std.proofs.Common.{◌≡◌, suc, ◌-◌, ◌≤◌, ◌++◌, None, length, vec_capacity, sym, ap, subst, ◌∙◌}
use Rattle.std.specs.Prelude.{IsSome}
use Rattle.opfs_hist.specs.declared.op.Op.TheVariants as op
use Rattle.opfs_machine.specs.Agents.{counted}
use Rattle.opfs_machine.specs.Rows.{without}
use Rattle.opfs_state_rows.proofs.changes.Found.{place-number}
use Rattle.opfs_state_rows.proofs.changes.Rowed.{remove-target, remove-frees, remove-there, removed}
use Rattle.opfs_state_rows.proofs.changes.Writing.{no-place, one-place}
use Rattle.opfs_state_rows.specs.Changes.Changed.{IsDone}
use Rattle.opfs_tree.specs.Rows as tree
use Rattle.opfs_state_rows.proofs.changes.rows.remove_entry.Goals as goal

pub unreachable-requires : goal.unreachable-requires
unreachable-requires c = no-place c.in_default.is (remove-target c.args.store.now.machine c.args.caller.agent c.args.dir.now c.args.name.now c.args.recursive c.args.target c.requires.target)

pub remove-requires-clause-there : goal.remove-requires-clause-there
remove-requires-clause-there c =
    let s = c.args.store.now in
    let place = one-place c.in-Some.is (remove-target s.machine c.args.caller.agent c.args.dir.now c.args.name.now c.args.recursive c.args.target c.requires.target) in
    subst (λ p. IsSome (tree.row_at p s.tree)) place (remove-there s.machine s.tree c.args.caller.sizes c.args.caller.agent c.args.dir.now c.args.name.now c.args.recursive c.requires.may.may c.know_rows_match_tree.ensures)

pub remove-requires-clause-room : goal.remove-requires-clause-room
remove-requires-clause-room c =
    let s = c.args.store.now in
    let place = one-place c.in-Some.is (remove-target s.machine c.args.caller.agent c.args.dir.now c.args.name.now c.args.recursive c.args.target c.requires.target) in
    subst (λ xs. length (c.args.freed.now.items ++ xs) ≤ vec_capacity c.args.freed.now) (remove-frees s.machine s.tree c.args.caller.agent c.args.dir.now c.args.name.now c.args.recursive None ∙ ap (λ p. tree.extents_within p s.tree) place) (c.requires.fits None)

pub returns-clause-done : goal.returns-clause-done
returns-clause-done c = λ extents.
    let s = c.args.store.now in
    let place = one-place c.in-Some.is (remove-target s.machine c.args.caller.agent c.args.dir.now c.args.name.now c.args.recursive c.args.target c.requires.target) in
    removed s c.remove.new.self c.count.new.self c.args.caller.sizes c.args.caller.agent c.args.dir.now c.args.name.now c.args.recursive extents
    (c.remove.ensures.machine ∙ ap (without s.machine) (sym place)) (c.remove.ensures.tree ∙ ap (λ p. tree.without p s.tree) (sym place)) (subst (λ k. c.count.new.self ≡ record c.remove.new.self { machine = counted c.remove.new.self.machine k }) (place-number c.args.caller.agent c.requires.may.above) c.count.ensures)

pub returns-clause-freed : goal.returns-clause-freed
returns-clause-freed c = λ extents.
    let s = c.args.store.now in
    let place = one-place c.in-Some.is (remove-target s.machine c.args.caller.agent c.args.dir.now c.args.name.now c.args.recursive c.args.target c.requires.target) in
    c.remove.ensures.freed ∙ ap (λ xs. c.args.freed.now.items ++ xs) (ap (λ p. tree.extents_within p s.tree) (sym place) ∙ sym (remove-frees s.machine s.tree c.args.caller.agent c.args.dir.now c.args.name.now c.args.recursive extents))
