use Rattle.std.proofs.Common.{length, sym, ap, subst, ◌∙◌, arith}
use Rattle.std.proofs.lemmas.Bool.{false≢true}
use Rattle.opfs_records.proofs.checkpoint.Left.{AllWritable, came_to}
use Rattle.opfs_records.proofs.checkpoint.checks.are_rows.Goals as goal

pub loop-row-preserved : goal.loop-row-preserved
loop-row-preserved c =
    let at = came_to c.loop-row.walk c.step.new.walk c.args.tree.now.rows c.in-Some.row.now c.key.result.now c.path.result.now c.in-Some.ensures.next c.key.ensures c.path.ensures in
    let here = c.is_writable.ensures.0 c.if-not-is_writable.false in
    (λ all. c.loop-row.invariant.0 (subst AllWritable (sym at) (here, all)), λ all. (subst AllWritable at (c.loop-row.invariant.1 all)).1)

pub loop-row-smaller : goal.loop-row-smaller
loop-row-smaller c =
    let at = came_to c.loop-row.walk c.step.new.walk c.args.tree.now.rows c.in-Some.row.now c.key.result.now c.path.result.now c.in-Some.ensures.next c.key.ensures c.path.ensures in
    omega (arith, ap length at)

pub returns-then-not-is_writable : goal.returns-then-not-is_writable
returns-then-not-is_writable c =
    let at = came_to c.loop-row.walk c.step.new.walk c.args.tree.now.rows c.in-Some.row.now c.key.result.now c.path.result.now c.in-Some.ensures.next c.key.ensures c.path.ensures in
    (λ h. absurd cc, λ all. absurd (false≢true (sym c.if-not-is_writable.true ∙ c.is_writable.ensures.1 (subst AllWritable at (c.loop-row.invariant.1 all)).0)))
