use Rattle.std.proofs.Common.{◌<◌, length, sym, ap, arith}
use Rattle.std.proofs.lemmas.Bool.{lt-leb}
use Rattle.opfs_blocks.specs.Sets.{free_blocks}
use Rattle.opfs_blocks.proofs.SetLemmas.{skip, skip_start, first_free, none_free}
use Rattle.opfs_blocks.proofs.runs.has_clear.Goals as goal

pub loop-init : goal.loop-init
loop-init c = (c.requires.0, omega (arith, ap length (skip_start c.args.from c.args.bits.now c.requires)))

pub returns-then-block-size : goal.returns-then-block-size
returns-then-block-size c =
    let b = c.first_clear-block.result in
    let used = c.args.bits.now in
    let passed = ap length (skip c.loop.place b used c.first_clear-block.ensures.bounds.0 c.first_clear-block.ensures.bounds.1 c.first_clear-block.ensures.passed) in
    let none = ap length (none_free b used (omega arith)) in
    sym (lt-leb c.args.n (length (free_blocks used)) (omega (arith, passed, none, c.loop.invariant.1)))

pub loop-preserved : goal.loop-preserved
loop-preserved c =
    let b = c.first_clear-block.result in
    let used = c.args.bits.now in
    let inside : b < length used = omega (arith, c.first_clear-block.ensures.bounds.1) in
    let passed = ap length (skip c.loop.place b used c.first_clear-block.ensures.bounds.0 c.first_clear-block.ensures.bounds.1 c.first_clear-block.ensures.passed) in
    let head = ap length (first_free b used inside (c.first_clear-block.ensures.clear inside)) in
    (omega arith, omega (arith, passed, head, c.loop.invariant.1))
