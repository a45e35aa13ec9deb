use Rattle.std.proofs.Common.{◌≡◌}
use Rattle.std.specs.Vec.Iter.{into_iter_items}
use Rattle.opfs_books.specs.Laws.Laws.{LeavesPages}
use Rattle.opfs_desk_steps.specs.BookSteps.Clearing.{IsOnWay}
use Rattle.opfs_desk_steps.proofs.book_steps.units.clear_units.Given as goal

abbrev pub invariant-loop-next : goal.invariant-loop-next
invariant-loop-next g l = record {
  next : (goal.iterator-loop-next g).can_next l.next-iterator;
  finite : (goal.iterator-loop-next g).is_finite l.next-iterator;
  entry : l.last.entry ≡ l.fn.call.entry;
  leaves : LeavesPages g.D.Disk l.fn.ledger.journal l.ledger.journal;
  way : IsOnWay g.D.Disk l.fn.ledger l.ledger l.fn.call.entry l.fn.clearing.items (into_iter_items l.next-iterator);
}
