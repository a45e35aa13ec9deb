use Rattle.std.proofs.Common.{◌≡◌, ◌+◌, ◌<◌, ◌≤◌, ◌^◌, length, refl, sym, ap, ◌∙◌, subst, arith}
use Rattle.std.specs.Prelude.{max, unwrap_or}
use Rattle.opfs_machine.specs.Rulings.{start_of, size_written}
use Rattle.opfs_state_rows.proofs.changes.Widened.{write-grows, write-done}
use Rattle.opfs_state_rows.specs.Changes.Allowed.{IsSized}
use Rattle.opfs_state_rows.specs.Changes.Growing.{IsGrowing}
use Rattle.opfs_state_rows.proofs.changes.streams.write.Goals as goal

pub overflow_add-end : goal.overflow_add-end
unfolding IsSized
overflow_add-end c =
    let sized : unwrap_or c.args.position c.args.sizes.position + length c.args.bytes.now < 2 ^ 64 = c.requires.may.sized in
    omega (arith, sized, c.unwrap_or.ensures, c.len.ensures)

pub grow-requires-clause-grows : goal.grow-requires-clause-grows
grow-requires-clause-grows c =
    let size : c.max.result ≡ size_written c.args.sizes c.args.position c.args.bytes.now = rw (c.max.ensures, c.unwrap_or.ensures, c.len.ensures) refl in
    subst (IsGrowing c.args.store.now.machine c.args.agent c.args.row) (sym size) (write-grows c.args.store.now.machine c.args.sizes c.args.agent c.args.row c.args.bytes.now c.args.position c.requires.may.may)

pub returns-clause-done : goal.returns-clause-done
returns-clause-done c = λ extents.
    let size : c.max.result ≡ size_written c.args.sizes c.args.position c.args.bytes.now = rw (c.max.ensures, c.unwrap_or.ensures, c.len.ensures) refl in
    write-done c.args.store.now c.grow.new.store c.args.sizes c.args.agent c.args.row extents c.grow.ensures.tree c.args.bytes.now c.args.position (rw size at c.grow.ensures.machine)
