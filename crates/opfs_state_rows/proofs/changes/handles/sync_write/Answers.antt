use Rattle.std.proofs.Common.{◌≡◌, ℕ, ◌+◌, ◌≤◌, ◌<◌, ◌^◌, Some, option_map, length, refl, sym, ap, ◌∙◌, subst, arith}
use Rattle.std.specs.Prelude.{max, unwrap_or}
use Rattle.opfs_base.specs.Blocks.{blocks}
use Rattle.opfs_machine.specs.declared.state.FileRow.{FileRow}
use Rattle.opfs_machine.specs.Agents.{counted}
use Rattle.opfs_machine.specs.Contents.{handle_with}
use Rattle.opfs_machine.specs.Effects.{with_changed, moment_of}
use Rattle.opfs_machine.specs.Rows.{with_file, file_at}
use Rattle.opfs_machine.specs.Rulings.{reserve_for, start_of, size_written, want_of}
use Rattle.opfs_state_rows.specs.Standing.Contents.{showing}
use Rattle.opfs_state_rows.proofs.changes.Found.{handle-held, held-in, some-is}
use Rattle.opfs_state_rows.proofs.changes.Overwritten.{sync-written}
use Rattle.opfs_state_rows.proofs.changes.Writing.{IsWriteOf, write-of, writing, no-place, one-place, no-size, blocks-larger, blocks-least}
use Rattle.opfs_state_rows.specs.Changes.Allowed.{IsSized}
use Rattle.opfs_tree.specs.Rows.{change_at, written}
use Rattle.opfs_state_rows.proofs.changes.handles.sync_write.Goals as goal

pub unreachable-requires : goal.unreachable-requires
unreachable-requires c =
    let w = write-of c.args.store.now.machine c.args.sizes c.args.agent c.args.row c.args.bytes.now c.args.at c.args.target c.requires.may.may c.requires.target in
    no-place c.in_default.is w.named

pub unreachable-requires-in_default-size : goal.unreachable-requires-in_default-size
unreachable-requires-in_default-size c =
    let m = c.args.store.now.machine in
    let w = write-of m c.args.sizes c.args.agent c.args.row c.args.bytes.now c.args.at c.args.target c.requires.may.may c.requires.target in
    let held = handle-held m c.args.agent c.args.row w.handle c.requires.may.kept w.is in
    no-size (file_at m c.in-Some.place) held.file (sym c.size.ensures ∙ c.in_default-size.is) (ap (file_at m) (sym (one-place c.in-Some.is w.named)) ∙ held.there)

pub overflow_add-end : goal.overflow_add-end
unfolding IsSized
overflow_add-end c =
    let sized : unwrap_or c.args.at c.args.sizes.position + length c.args.bytes.now < 2 ^ 64 = c.requires.may.sized in
    omega (arith, sized, c.unwrap_or.ensures, c.len.ensures)

pub overwrite-requires-clause-writes : goal.overwrite-requires-clause-writes
overwrite-requires-clause-writes c =
    let m = c.args.store.now.machine in
    let w = write-of m c.args.sizes c.args.agent c.args.row c.args.bytes.now c.args.at c.args.target c.requires.may.may c.requires.target in
    let size : c.max-2.result ≡ size_written c.args.sizes c.args.at c.args.bytes.now = rw (c.max-2.ensures, c.unwrap_or.ensures, c.len.ensures) refl in
    writing m c.args.agent c.args.row c.max-2.result c.max.result c.area_bytes-area.result c.args.target c.in-Some.place c.requires.may.kept (subst (λ n. IsWriteOf m c.args.agent c.args.row n c.args.target) (sym size) w) c.in-Some.is c.area_bytes-area.ensures c.area_bytes-area.type_inv
    (λ f found.
    let read : f.present ≡ c.in-Some-size.present = some-is (ap (option_map (λ (x : FileRow ℕ). x.present)) (sym found) ∙ sym c.size.ensures ∙ c.in-Some-size.is) in
    let same : blocks f.present ≡ blocks c.in-Some-size.present = ap blocks read in
    let long : c.max.result ≡ max c.in-Some-size.present (c.unwrap_or.result + c.len.result) = c.max.ensures in
    let whole : blocks c.max.result ≡ blocks (max c.in-Some-size.present (c.unwrap_or.result + c.len.result)) = ap blocks long in
    let last : c.unwrap_or.result + c.len.result ≤ c.max-2.result = omega (arith, c.max-2.ensures) in
    omega (arith, whole, same, blocks-larger c.in-Some-size.present (c.unwrap_or.result + c.len.result), blocks-least (c.unwrap_or.result + c.len.result) c.max-2.result last))

pub returns-clause-done : goal.returns-clause-done
returns-clause-done c = λ extents.
    let m = c.args.store.now.machine in
    let w = write-of m c.args.sizes c.args.agent c.args.row c.args.bytes.now c.args.at c.args.target c.requires.may.may c.requires.target in
    let place = one-place c.in-Some.is w.named in
    let held = held-in m c.args.store.now.tree w.handle.file (want_of w.handle.mode) c.know_rows_match_tree.ensures (handle-held m c.args.agent c.args.row w.handle c.requires.may.kept w.is) in
    let size : c.max-2.result ≡ size_written c.args.sizes c.args.at c.args.bytes.now = rw (c.max-2.ensures, c.unwrap_or.ensures, c.len.ensures) refl in
    let read : held.file.present ≡ c.in-Some-size.present = some-is (ap (option_map (λ (x : FileRow ℕ). x.present)) (sym (ap (file_at m) (sym place) ∙ held.there)) ∙ sym c.size.ensures ∙ c.in-Some-size.is) in
    let long : c.max.result ≡ max held.file.present (start_of c.args.sizes c.args.at + length c.args.bytes.now) = rw (c.max.ensures, c.unwrap_or.ensures, c.len.ensures) (ap (λ n. max n (start_of c.args.sizes c.args.at + length c.args.bytes.now)) (sym read)) in
    sync-written c.args.store.now c.overwrite.new.store c.args.sizes c.args.agent c.args.row w.handle extents w.is c.args.bytes.now c.args.at c.max.result held.file held.row held.there held.found held.same long
    (subst (λ p. c.overwrite.new.store.machine ≡ counted (with_changed (with_file m p (showing c.max.result (moment_of m c.args.agent))) c.args.agent c.args.row (λ r. handle_with r (reserve_for w.handle.reserve (size_written c.args.sizes c.args.at c.args.bytes.now)))) c.args.agent) (sym place)
    (rw size at (c.overwrite.ensures.machine w.handle w.is)))
    (subst (λ p. c.overwrite.new.store.tree ≡ change_at p (written c.max.result (moment_of m c.args.agent)) c.args.store.now.tree) (sym place) c.overwrite.ensures.tree)
