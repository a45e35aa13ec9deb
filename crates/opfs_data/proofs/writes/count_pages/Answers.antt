use Rattle.std.proofs.Common.{◌≡◌, ◌+◌, ◌++◌, ℕ, List, length, drop, ap, ◌∙◌, arith}
use Rattle.std.proofs.lemmas.List.{length-append}
use Rattle.opfs_data.specs.Writes.{writes_of, run_writes}
use Rattle.opfs_data.proofs.PlacingLemmas.{runs_left, run_length}
use Rattle.opfs_data.proofs.writes.count_pages.Goals as goal

pub loop-run-preserved : goal.loop-run-preserved
loop-run-preserved c = λ own given.
    let rest = writes_of own given (drop (c.loop-run.run-index + 1) c.args.runs.now) in
    let first = run_writes own given c.run-item.result in
    let left : length (writes_of own given (drop c.loop-run.run-index c.args.runs.now)) ≡ length first + length rest =
    ap length (runs_left own given c.args.runs.now c.loop-run.run-index c.run-item.result c.run-item.is c.loop-run-test.true) ∙ length-append first rest
    in
    omega (arith, left, c.loop-run.invariant own given, run_length own given c.run-item.result, c.in_ok-count.ensures, c.count.ensures.count)
