use Rattle.std.proofs.Common.{◌≡◌, ◌++◌, ◌∷◌, [], ◌+◌, ◌-◌, ℕ, length, ap, arith}
use Rattle.opfs_data.specs.declared.places.Left.{Left}
use Rattle.opfs_data.specs.Writes.{Run}
use Rattle.opfs_data.proofs.PlacingLemmas.{placed_step, left_after, left_with, own_part, all_pushed, within_pushed, within_part, pushed_length}
use Rattle.opfs_data.proofs.places.place_run.Goals as goal

pub loop-done-preserved : goal.loop-done-preserved
loop-done-preserved c =
    let at = c.loop-done.invariant in
    let pushed : c.push.new.self.items ≡ c.loop-done.runs.items ++ c.part.result ∷ [] = rw c.unwrap.ensures at c.push.ensures.items in
    let left' : Left = record { start = c.refill.new.left.start + c.from.result; count = c.refill.new.left.count - c.min-part.result; next = c.refill.new.left.next } in
    let left_is : left' ≡ record { start = c.refill.new.left.start + c.min-part.result; count = c.refill.new.left.count - c.min-part.result; next = c.refill.new.left.next } =
    ap (left_with c.refill.new.left c.min-part.result) c.from.ensures in
    let after = left_after c.args.extents.now c.refill.new.left left' c.min-part.result (omega (arith, c.min-part.ensures)) left_is in
    record {
      inside = omega (arith, c.min-part.ensures, c.count-count.ensures.count, c.loop-done-test.true);
      placed_are = λ own given later.
          placed_step own given c.args.run.now c.part.result c.loop-done.runs.items c.push.new.self.items c.args.extents.now c.refill.new.left left' c.loop-done.done c.min-part.result later _
          (omega (arith, c.min-part.ensures, c.count-count.ensures.count, c.loop-done-test.true)) (omega (arith, c.min-part.ensures)) pushed c.part.ensures left_is
          (rw c.refill.ensures.same (at.placed_are own given later));
      own = λ own all mine. all_pushed own c.loop-done.runs.items c.push.new.self.items c.part.result pushed (at.own own all mine)
          (own_part own c.args.run.now c.part.result c.loop-done.done c.min-part.result _ (omega (arith, c.min-part.ensures, c.count-count.ensures.count, c.loop-done-test.true)) c.part.ensures mine);
      within = λ own given all mine. within_pushed own given c.loop-done.runs.items c.push.new.self.items c.part.result pushed (at.within own given all mine)
          (within_part own given c.args.run.now c.part.result c.loop-done.done c.min-part.result _ (omega (arith, c.min-part.ensures, c.count-count.ensures.count, c.loop-done-test.true)) c.part.ensures mine);
      blocks = omega (arith, after.0, ap (length {A = ℕ}) c.refill.ensures.same, at.blocks);
      room = omega (arith, after.1, c.refill.ensures.runs, c.refill.ensures.some, at.room, c.min-part.ensures, c.count-count.ensures.count, c.loop-done-test.true, ap (length {A = Run}) pushed, pushed_length c.loop-done.runs.items c.part.result);
      capacity = omega (arith, at.capacity, c.push.ensures.capacity);
      start = omega (arith, c.refill.ensures.start, c.min-part.ensures, c.from.ensures);
      next = c.refill.ensures.next;
    }
