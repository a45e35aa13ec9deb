use Rattle.std.proofs.Common.{sym, subst}
use Rattle.opfs_base.specs.Places.{place_of}
use Rattle.opfs_state.proofs.Readied.{child-has}
use Rattle.opfs_tree.specs.Rows.{HasParent}
use Rattle.opfs_state.proofs.preparing.ready_child.Goals as goal

pub ready_row-requires-clause-parent : goal.ready_row-requires-clause-parent
ready_row-requires-clause-parent c = λ none.
    let s = c.args.store.now in
    subst (λ p. HasParent p s.tree) (sym c.in_ok-place.ensures) (child-has s.machine s.tree (place_of c.args.dir.now) c.args.name.now c.know_rows_match_tree.ensures c.requires.dir)
