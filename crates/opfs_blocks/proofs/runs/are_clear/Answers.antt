use Rattle.std.proofs.Common.{◌+◌, true, sym, ◌∙◌, refl, arith}
use Rattle.std.proofs.lemmas.List.{get_or_past}
use Rattle.opfs_blocks.proofs.SetLemmas.{refused_run, adopt_more}
use Rattle.opfs_blocks.proofs.runs.are_clear.Goals as goal
use Rattle.opfs_blocks.proofs.runs.are_clear.Goals.{then-k-above-via-then-k-above, then-k-above-via-else-k-above+then-get}

pub returns-then-k-above : goal.returns-then-k-above
returns-then-k-above c =
    elim c.then-k-above.branch [
      | then-k-above-via-then-k-above w ↦ sym (refused_run c.args.bits.now c.args.extent.start c.args.extent.count c.loop-k.k c.loop-k-test.true (get_or_past c.args.bits.now (c.args.extent.start + c.loop-k.k) true (omega arith)))
      | then-k-above-via-else-k-above+then-get w ↦ sym (refused_run c.args.bits.now c.args.extent.start c.args.extent.count c.loop-k.k c.loop-k-test.true (sym w.get.ensures ∙ w.if-get.true))
    ]

pub loop-k-preserved : goal.loop-k-preserved
loop-k-preserved c =
    adopt_more c.args.bits.now c.args.extent.start c.loop-k.k ∙ rw (c.loop-k.invariant, sym c.get.ensures ∙ c.if-get.false) refl
