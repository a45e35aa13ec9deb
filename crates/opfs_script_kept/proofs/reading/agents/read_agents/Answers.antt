use Rattle.std.proofs.Common.{◌≡◌, None, Some, subst, arith, rules}
use Rattle.json.specs.Json.{after_end_array}
use Rattle.opfs_script_kept.specs.Reading.Agents.{TakesAgent}
use Rattle.opfs_script_kept.proofs.reading.Listing.{all-listed, one-listed}
use Rattle.opfs_script_kept.proofs.reading.agents.read_agents.Goals as goal

pub loop-alloc-preserved : goal.loop-alloc-preserved
loop-alloc-preserved c =
    let l = c.loop-alloc in
    let new = c.take_agent.new in
    let going : (after_end_array l.reader ≡ None) × (c.take_end_array.new.self ≡ l.reader) = grind arith in
    let takes : TakesAgent l.reader new.reader l.agents.items new.agents.items l.sums new.sums =
    subst (λ now. TakesAgent now new.reader l.agents.items new.agents.items l.sums new.sums) going.1 (c.in_ok-take_agent.ensures (search rules)) in
    one-listed c.args.reader.now l.reader new.reader l.agents.items new.agents.items l.sums new.sums l.invariant going.0 takes

pub returns-clause-read : goal.returns-clause-read
returns-clause-read c =
    let l = c.loop-alloc in
    let closed : after_end_array l.reader ≡ Some c.take_end_array.new.self = grind arith in
    all-listed c.args.reader.now l.reader c.take_end_array.new.self l.agents.items l.sums l.invariant closed
