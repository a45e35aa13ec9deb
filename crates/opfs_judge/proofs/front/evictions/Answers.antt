use Rattle.std.proofs.Common.{◌≡◌, Some, None, arith}
use Rattle.opfs_judge.specs.Fronts.{after_eviction}
use Rattle.opfs_judge.proofs.Scanning.{scanning-next, scanning-done, shorter-rest, seen-some, seen-none}
use Rattle.opfs_judge.proofs.front.evictions.Goals as goal

pub loop-more-preserved : goal.loop-more-preserved
loop-more-preserved c =
    let text = c.args.text.now in
    let rest = c.loop-more.rest.now in
    let next = c.in-Some.more.now in
    let is : after_eviction rest ≡ Some next = seen-some (λ more. more.now) c.after_eviction.result c.in-Some.more (after_eviction rest) c.in-Some.is c.after_eviction.ensures in
    let less = shorter-rest rest next is in
    let below = c.loop-more.invariant.below in
    record { scanned = scanning-next text rest next c.loop-more.count c.loop-more.invariant.scanned is; below = omega (arith, less, below) }

pub returns-clause-scanned : goal.returns-clause-scanned
returns-clause-scanned c =
    let rest = c.loop-more.rest.now in
    let is : after_eviction rest ≡ None = seen-none (λ more. more.now) c.after_eviction.result (after_eviction rest) c.in_default.is c.after_eviction.ensures in
    scanning-done c.args.text.now rest c.loop-more.count c.loop-more.invariant.scanned is
