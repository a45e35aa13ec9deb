use Rattle.std.proofs.Common.{◌≡◌, ℕ, ◌+◌, ◌<◌, true, List, take, drop, length, refl, sym, ap, subst, ◌∙◌, arith}
use Rattle.std.specs.Prelude.{map}
use Rattle.opfs_base.specs.Places.{Place}
use Rattle.opfs_machine.specs.Openings.{Stored}
use Rattle.opfs_tree.specs.Rows.{Rows}
use Rattle.opfs_dump.specs.Text.Limits.{blocks_needed, can_stand, may_all_follow}
use Rattle.opfs_dump.specs.Text.Seen.{row_of, stored_of}
use Rattle.opfs_dump.specs.declared.text.dumped.DumpedRow.{DumpedRow}
use Rattle.std.proofs.lemmas.List.{take_all}
use Rattle.opfs_dump.specs.Loading.Laid.{laid}
use Rattle.opfs_dump.proofs.loading.InTurn.{first_follows, same_stand}
use Rattle.opfs_dump.proofs.loading.Lying.{laid_none, laid_put, needed_first, needed_more}
use Rattle.opfs_dump.proofs.loading.Orders.{drop_next, rows_next, follower}
use Rattle.opfs_dump.proofs.loading.planning.laid_tree.Goals as goal

pub loop-row-init : goal.loop-row-init
loop-row-init c = record { tree = c.make-tree.ensures ∙ sym (laid_none 0); at = refl; sum = omega arith; order = c.requires.order }

pub add_laid-requires-clause-stands : goal.add_laid-requires-clause-stands
add_laid-requires-clause-stands c =
    let rows : List DumpedRow = c.args.rows.now in
    let i : ℕ = c.loop-row.row-index in
    let r : DumpedRow = c.row-item.result in
    let done : List (Place × Stored) = map row_of (take i rows) in
    let at = c.loop-row.invariant in
    let lt : i < length rows = omega (arith, c.loop-row-test.true, c.loop-row.auto) in
    let rest = ap (map row_of) (drop_next rows i r c.row-item.is lt) in
    let may = first_follows done (row_of r) (map row_of (drop (i + 1) rows)) (ap (may_all_follow done) (sym rest) ∙ at.order) in
    ap (λ (x : Rows). can_stand x r.place (stored_of r.file)) at.tree ∙ (same_stand 0 done r.place (stored_of r.file) ∙ (follower done (row_of r) may.0).1)

pub add_laid-requires-clause-small : goal.add_laid-requires-clause-small
add_laid-requires-clause-small c =
    let rows : List DumpedRow = c.args.rows.now in
    let i : ℕ = c.loop-row.row-index in
    let r : DumpedRow = c.row-item.result in
    let lt : i < length rows = omega (arith, c.loop-row-test.true, c.loop-row.auto) in
    let rest = ap (map row_of) (drop_next rows i r c.row-item.is lt) in
    let first = ap blocks_needed rest ∙ needed_first (row_of r) (map row_of (drop (i + 1) rows)) in
    omega (arith, first, c.loop-row.invariant.sum, c.requires.few)

pub loop-row-preserved : goal.loop-row-preserved
loop-row-preserved c =
    let rows : List DumpedRow = c.args.rows.now in
    let i : ℕ = c.loop-row.row-index in
    let r : DumpedRow = c.row-item.result in
    let done : List (Place × Stored) = map row_of (take i rows) in
    let at = c.loop-row.invariant in
    let f = c.in_ok-at.ensures in
    let lt : i < length rows = omega (arith, c.loop-row-test.true, c.loop-row.auto) in
    let next = rows_next rows i r c.row-item.is lt in
    let rest = ap (map row_of) (drop_next rows i r c.row-item.is lt) in
    let first = ap blocks_needed rest ∙ needed_first (row_of r) (map row_of (drop (i + 1) rows)) in
    let more = ap blocks_needed next ∙ needed_more done (row_of r) in
    let may = first_follows done (row_of r) (map row_of (drop (i + 1) rows)) (ap (may_all_follow done) (sym rest) ∙ at.order) in
    record {
      tree = laid_put done (row_of r) c.loop-row.at c.loop-row.tree c.add_laid.new.tree at.tree at.at c.add_laid.ensures.order (follower done (row_of r) may.0).0 f.tree ∙ ap (λ xs. laid 0 xs) (sym next);
      at = omega (arith, f.next, more, at.at);
      sum = omega (arith, f.next, first, at.sum);
      order = subst (λ xs. may_all_follow xs (map row_of (drop (i + 1) rows)) ≡ true) (sym next) may.1;
    }

pub returns : goal.returns
returns c = c.loop-row.invariant.tree ∙ ap (λ (xs : List DumpedRow). laid 0 (map row_of xs)) (take_all c.loop-row.row-index c.args.rows.now c.loop-row-test.false)
