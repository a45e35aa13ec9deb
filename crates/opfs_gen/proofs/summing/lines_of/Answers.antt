use Rattle.std.proofs.Common.{◌+◌, ◌-◌, ap}
use Rattle.opfs_script_run.specs.Runs.Running.{entries_of}
use Rattle.opfs_gen.specs.Summing.{agent_line, lines_from, summary_of}
use Rattle.opfs_gen.proofs.Looping.{one-less, part-next}
use Rattle.opfs_gen.proofs.summing.lines_of.Goals as goal

pub loop-index-preserved : goal.loop-index-preserved
loop-index-preserved c =
    let es = c.args.history.now in
    let i = c.loop-index.index in
    part-next c.loop-index.text.items c.add_agent.new.text.items (agent_line (i + 1) (entries_of (i + 1) es)) (lines_from (λ k. entries_of k es) (i + 1 + 1) (c.args.agents - (i + 1)))
    (lines_from (λ k. entries_of k es) (i + 1) (c.args.agents - i)) (summary_of c.args.agents es)
    c.in_ok-add_agent.ensures (ap (lines_from (λ k. entries_of k es) (i + 1)) (one-less c.args.agents i c.loop-index-test.true)) c.loop-index.invariant
