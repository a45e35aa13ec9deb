use Rattle.std.proofs.Common.{◌≡◌, ℕ, true, false, List, length, get_or, take, refl, sym, ap, subst, ◌∙◌}
use Rattle.opfs_base.specs.declared.extents.Extent.{Extent}
use Rattle.opfs_blocks.specs.Sets.{Used, marked, blocks_in, blocks_of, AreBelow}
use Rattle.opfs_blocks.specs.Steps.{can_adopt}
use Rattle.opfs_blocks.proofs.SetLemmas.{take_next, length-marked, marked-append, restored, adopts, adopted_below, refused_all, can_adopt-append}
use Rattle.opfs_blocks.proofs.runs.adopt_all.Goals as goal

pub mark_all-lowest-requires : goal.mark_all-lowest-requires
mark_all-lowest-requires c =
    let front = blocks_of (take c.loop-i.i c.args.extents.now) in
    subst (λ (n : ℕ). AreBelow n front) (sym (ap length c.loop-i.invariant.0 ∙ length-marked true front c.args.bits.now)) (adopted_below c.args.bits.now front c.loop-i.invariant.1)

pub returns-then-not-are_clear-clause-exact : goal.returns-then-not-are_clear-clause-exact
returns-then-not-are_clear-clause-exact c =
    let none : Extent = record { start = 0; count = 0 } in
    let here = blocks_in (get_or c.args.extents.now c.loop-i.i none) in
    sym (refused_all c.args.extents.now c.args.bits.now c.loop-i.i none c.loop-i-test.true (ap (λ (m : Used). can_adopt m here) (sym c.loop-i.invariant.0) ∙ sym c.are_clear.ensures ∙ c.if-not-are_clear.true))

pub returns-then-not-are_clear-clause-refused : goal.returns-then-not-are_clear-clause-refused
returns-then-not-are_clear-clause-refused c =
    let front = blocks_of (take c.loop-i.i c.args.extents.now) in
    c.mark_all-lowest.ensures.marked ∙ ap (marked false front) c.loop-i.invariant.0 ∙ restored c.args.bits.now front (adopts c.args.bits.now front c.loop-i.invariant.1).0

pub mark_run-requires : goal.mark_run-requires
mark_run-requires c =
    let none : Extent = record { start = 0; count = 0 } in
    adopted_below c.loop-i.bits (blocks_in (get_or c.args.extents.now c.loop-i.i none)) (sym c.are_clear.ensures ∙ c.if-not-are_clear.false)

pub loop-i-preserved : goal.loop-i-preserved
loop-i-preserved c =
    let none : Extent = record { start = 0; count = 0 } in
    let front = blocks_of (take c.loop-i.i c.args.extents.now) in
    let here = blocks_in (get_or c.args.extents.now c.loop-i.i none) in
    let next = take_next c.args.extents.now c.loop-i.i none c.loop-i-test.true in
    let clear : can_adopt (marked true front c.args.bits.now) here ≡ true = ap (λ (m : Used). can_adopt m here) (sym c.loop-i.invariant.0) ∙ sym c.are_clear.ensures ∙ c.if-not-are_clear.false in
    let before : can_adopt c.args.bits.now front ≡ true = c.loop-i.invariant.1 in (
      c.mark_run.ensures ∙ ap (marked true here) c.loop-i.invariant.0 ∙ sym (marked-append true front here c.args.bits.now) ∙ ap (λ (xs : List ℕ). marked true xs c.args.bits.now) (sym next),
      ap (can_adopt c.args.bits.now) next ∙ can_adopt-append c.args.bits.now front here ∙ rw (before, clear) refl,
    )
