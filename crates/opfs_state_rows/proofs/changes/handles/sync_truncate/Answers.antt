use Rattle.std.proofs.Common.{◌≡◌, ◌≤◌, sym, ap, ◌∙◌, subst, arith}
use Rattle.std.specs.Prelude.{max}
use Rattle.opfs_base.specs.Blocks.{blocks}
use Rattle.opfs_machine.specs.Agents.{counted}
use Rattle.opfs_machine.specs.Contents.{handle_with}
use Rattle.opfs_machine.specs.Effects.{with_changed, moment_of}
use Rattle.opfs_machine.specs.Rows.{with_file}
use Rattle.opfs_machine.specs.Rulings.{reserve_for}
use Rattle.opfs_state_rows.specs.Standing.Contents.{showing}
use Rattle.opfs_state_rows.proofs.changes.Overwritten.{sync-truncated}
use Rattle.opfs_state_rows.proofs.changes.Writing.{truncate-of, writing, no-place, one-place}
use Rattle.opfs_tree.specs.Rows.{change_at, written}
use Rattle.opfs_state_rows.proofs.changes.handles.sync_truncate.Goals as goal

pub unreachable-requires : goal.unreachable-requires
unreachable-requires c =
    let w = truncate-of c.args.store.now.machine c.args.sizes c.args.agent c.args.row c.args.size c.args.target c.requires.may.may c.requires.target in
    no-place c.in_default.is w.named

pub overwrite-requires-clause-writes : goal.overwrite-requires-clause-writes
overwrite-requires-clause-writes c =
    let w = truncate-of c.args.store.now.machine c.args.sizes c.args.agent c.args.row c.args.size c.args.target c.requires.may.may c.requires.target in
    writing c.args.store.now.machine c.args.agent c.args.row c.args.size c.args.size c.area_bytes-area.result c.args.target c.in-Some.place c.requires.may.kept w c.in-Some.is c.area_bytes-area.ensures c.area_bytes-area.type_inv
    (λ f found. omega arith)

pub returns-clause-done : goal.returns-clause-done
returns-clause-done c = λ extents.
    let m = c.args.store.now.machine in
    let w = truncate-of m c.args.sizes c.args.agent c.args.row c.args.size c.args.target c.requires.may.may c.requires.target in
    let place = one-place c.in-Some.is w.named in
    sync-truncated c.args.store.now c.overwrite.new.store c.args.sizes c.args.agent c.args.row w.handle extents w.is c.args.size
    (subst (λ p. c.overwrite.new.store.machine ≡ counted (with_changed (with_file m p (showing c.args.size (moment_of m c.args.agent))) c.args.agent c.args.row (λ r. handle_with r (reserve_for w.handle.reserve c.args.size))) c.args.agent) (sym place)
    (c.overwrite.ensures.machine w.handle w.is))
    (subst (λ p. c.overwrite.new.store.tree ≡ change_at p (written c.args.size (moment_of m c.args.agent)) c.args.store.now.tree) (sym place) c.overwrite.ensures.tree)
