use Rattle.std.proofs.Common.{◌+◌, length, set, sym, ap, ◌∙◌, arith}
use Rattle.std.specs.List.{range_with_len}
use Rattle.opfs_blocks.specs.Sets.{Used}
use Rattle.opfs_blocks.proofs.SetLemmas.{below_at, length-marked, run_more}
use Rattle.opfs_blocks.proofs.runs.mark_run.Goals as goal

pub overflow_add-extent : goal.overflow_add-extent
overflow_add-extent c =
    omega (arith, below_at (length c.args.bits.now) c.args.extent.start c.args.extent.count c.loop-k.k c.requires c.loop-k-test.true)

pub set-requires : goal.set-requires
set-requires c =
    omega (arith, below_at (length c.args.bits.now) c.args.extent.start c.args.extent.count c.loop-k.k c.requires c.loop-k-test.true, ap length c.loop-k.invariant, length-marked c.args.used (range_with_len c.args.extent.start c.loop-k.k) c.args.bits.now)

pub loop-k-preserved : goal.loop-k-preserved
loop-k-preserved c =
    c.set.ensures ∙ ap (λ (m : Used). set m (c.args.extent.start + c.loop-k.k) c.args.used) c.loop-k.invariant ∙ sym (run_more c.args.used c.args.extent.start c.loop-k.k c.args.bits.now)
