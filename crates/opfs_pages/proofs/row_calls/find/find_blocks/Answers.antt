use Rattle.std.proofs.Common.{◌≡◌, Bool, true, false, sym, ◌∙◌}
use Rattle.std.specs.Bool.{OnTrue}
use Rattle.std.proofs.lemmas.Bool.{false≢true}
use Rattle.opfs_pages.proofs.row_calls.Finding.{enough-blocks, swept-spaced, found-blocks}
use Rattle.opfs_pages.proofs.row_calls.Getting.{spaced-taken}
use Rattle.opfs_pages.specs.RowCalls.Plans.{shelf}
use Rattle.opfs_pages.proofs.row_calls.find.find_blocks.Goals as goal

taken-by : (t : Bool) (P : Type 0) → t ≡ true → OnTrue t P → P
taken-by true P is p = p
taken-by false P is p = absurd (false≢true is)

pub prove-unreachable-requires : goal.prove-unreachable-requires
prove-unreachable-requires c =
    let enough = enough-blocks c.args.tree.now.rows c.args.swap.now c.args.space.now c.args.agent c.args.row c.args.put.now c.sweep_anew.new.space.used c.sweep_anew.new.space.own c.requires.may c.sweep_anew.ensures.found in
    false≢true (sym c.if-prove.true ∙ c.take-found.ensures.enough.1 enough)

pub returns : goal.returns
returns c = record {
  found = record {
    spaced = λ m recorded settled was.
        spaced-taken m (shelf recorded c.args.tree.now.rows c.args.swap.now) c.sweep_anew.new.space c.take-found.new.space c.args.put.now.moves c.take-found.new.self.extents.items (taken-by c.take-found.result _ c.if-prove.false c.take-found.ensures.taken)
        (swept-spaced m recorded c.args.tree.now.rows c.args.swap.now c.args.space.now c.sweep_anew.new.space c.take-found.new.space was c.sweep_anew.ensures.size c.sweep_anew.ensures.own c.sweep_anew.ensures.found settled);
    gotten = λ m recorded given base end settled was many waits fits small.
        rw (c.take-found.ensures.writes, c.take-found.ensures.pages)
        (found-blocks m recorded c.args.tree.now.rows c.args.swap.now c.args.space.now c.sweep_anew.new.space c.take-found.new.space was c.sweep_anew.ensures.size c.sweep_anew.ensures.own c.sweep_anew.ensures.found settled
        c.args.agent c.args.row c.args.put.now.pages c.args.put.now.moves c.args.put.now.writes given c.args.put.now.extents.items c.take-found.new.self.extents.items base end waits many fits small
        (taken-by c.take-found.result _ c.if-prove.false c.take-found.ensures.taken));
    writes = c.take-found.ensures.writes;
    moves = c.take-found.ensures.moves;
    count = c.take-found.ensures.pages;
    capacity = c.take-found.ensures.capacity;
  };
}
