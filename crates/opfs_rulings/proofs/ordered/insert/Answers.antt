use Rattle.std.proofs.Common.{arith, ap, sym, ◌∙◌, ◌<◌, length}
use Rattle.std.specs.Ordering.{is_eq}
use Rattle.opfs_rulings.proofs.Here.{insert_here}
use Rattle.opfs_rulings.proofs.ordered.insert.Goals as goal

pub returns-then-is_eq : goal.returns-then-is_eq
returns-then-is_eq g c =
    let lt : c.first_not_below-at.result < length c.args.items.now.items = omega arith in
    record {
      ok = insert_here g.T.Ord.cmp c.args.item _ _ c.index.result.now lt c.index.ensures
          (ap is_eq (sym c.cmp.ensures) ∙ sym c.is_eq.ensures ∙ c.if-is_eq.true) (rw c.as_slice.ensures.value at c.first_not_below-at.ensures.below);
    }
