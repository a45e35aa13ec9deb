use Rattle.std.proofs.Common.{ℕ, ◌+◌, ◌<◌, true, List, length, get_or, drop, sym, ap, subst, ◌∙◌, arith}
use Rattle.opfs_base.specs.declared.extents.Extent.{Extent}
use Rattle.opfs_blocks.specs.Sets.{Used, marked, blocks_in, blocks_of, AreBelow}
use Rattle.opfs_blocks.proofs.SetLemmas.{drop_next, all_front, all_back, length-marked, marked-append, marked_below}
use Rattle.opfs_blocks.proofs.runs.mark_all.Goals as goal

pub mark_run-requires : goal.mark_run-requires
mark_run-requires c =
    let es = c.args.extents.now in
    let i = c.loop-extent.extent-index in
    let none : Extent = record { start = 0; count = 0 } in
    all_front (λ b. b < length c.loop-extent.bits) (blocks_in (get_or es i none)) (blocks_of (drop (i + 1) es)) (subst (AreBelow (length c.loop-extent.bits)) (drop_next es i none c.loop-extent-test.true) c.loop-extent.invariant.1)

pub loop-extent-preserved : goal.loop-extent-preserved
loop-extent-preserved c =
    let es = c.args.extents.now in
    let i = c.loop-extent.extent-index in
    let none : Extent = record { start = 0; count = 0 } in
    let bits = c.loop-extent.bits in
    let here = blocks_in (get_or es i none) in
    let rest = blocks_of (drop (i + 1) es) in
    let next = drop_next es i none c.loop-extent-test.true in (
      ap (marked c.args.used rest) c.mark_run.ensures ∙ sym (marked-append c.args.used here rest bits) ∙ ap (λ (xs : List ℕ). marked c.args.used xs bits) (sym next) ∙ c.loop-extent.invariant.0,
      subst (λ (n : ℕ). AreBelow n rest) (sym (ap length c.mark_run.ensures ∙ length-marked c.args.used here bits)) (all_back (λ b. b < length bits) here rest (subst (AreBelow (length bits)) next c.loop-extent.invariant.1)),
      λ k lt. ap (λ (m : Used). get_or m k true) c.mark_run.ensures ∙ marked_below c.args.used (get_or es i none).start (get_or es i none).count bits k (omega arith) ∙ c.loop-extent.invariant.2 k (omega arith),
    )
