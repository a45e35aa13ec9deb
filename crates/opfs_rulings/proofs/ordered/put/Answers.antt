use Rattle.std.proofs.Common.{arith, ap, sym, ◌∙◌, slice_set, ◌<◌, length}
use Rattle.std.specs.Ordering.{is_eq}
use Rattle.opfs_rulings.proofs.Here.{put_here, one_here}
use Rattle.opfs_rulings.proofs.ordered.put.Goals as goal

pub returns-then-is_eq-clause-ok : goal.returns-then-is_eq-clause-ok
returns-then-is_eq-clause-ok g c =
    let lt : c.first_key-at.result < length c.args.entries.now.items = omega arith in
    ap (λ e. slice_set c.args.entries.now.items c.first_key-at.result (e.0, c.args.value)) (one_here _ _ _ _ lt c.index_mut.ensures.value c.index.ensures)
    ∙ put_here g.K.Ord.cmp c.args.key c.args.value _ _ c.index.result.now lt c.index.ensures
    (ap is_eq (sym c.cmp.ensures) ∙ sym c.is_eq.ensures ∙ c.if-is_eq.true) (rw c.as_slice.ensures.value at c.first_key-at.ensures.below)
