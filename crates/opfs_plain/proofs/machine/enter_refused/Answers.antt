use Rattle.opfs_machine.proofs.Answered.{refused-after, refused-told}
use Rattle.opfs_plain.proofs.machine.enter_refused.Goals as goal

pub returns-clause-state : goal.returns-clause-state
returns-clause-state c =
    refused-after c.args.state.now c.refuse.new.state c.count.new.self c.args.agent c.args.op c.args.refusal c.refuse.ensures c.in_ok-count.ensures

pub returns-clause-told : goal.returns-clause-told
returns-clause-told c =
    refused-told c.args.state.now c.args.entries.now.items c.push.new.self.items (record { agent = c.args.agent; number = c.args.number; op = c.args.op }) c.args.refusal c.in_ok-push.ensures.items
