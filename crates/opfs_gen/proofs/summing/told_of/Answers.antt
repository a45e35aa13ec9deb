use Rattle.opfs_gen.proofs.Walked.{mine-told, other-told}
use Rattle.opfs_gen.proofs.summing.told_of.Goals as goal

pub loop-entry-preserved-in-Continue-1 : goal.loop-entry-preserved-in-Continue-1
loop-entry-preserved-in-Continue-1 c =
    mine-told c.args.agent c.args.history.now c.loop-entry.entry-iterator c.next.new.self c.in-Some.entry.now c.in-Some.ensures.steps
    c.loop-entry.told c.note.new.told c.loop-entry.invariant c.if-entry-agent.true c.in_ok-note.ensures

pub loop-entry-preserved : goal.loop-entry-preserved
loop-entry-preserved c =
    other-told c.args.agent c.args.history.now c.loop-entry.entry-iterator c.next.new.self c.in-Some.entry.now c.in-Some.ensures.steps
    c.loop-entry.told c.loop-entry.invariant c.if-entry-agent.false
