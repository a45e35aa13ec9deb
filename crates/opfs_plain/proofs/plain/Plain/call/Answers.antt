use Rattle.std.proofs.Common.{rules, IsTrue}
use Rattle.opfs_machine.specs.Agents.{agent_of}
use Rattle.opfs_machine.specs.Histories.{may_enter}
use Rattle.opfs_plain.proofs.Kept.{kept_on}
use Rattle.opfs_plain.proofs.plain.Plain.call.Goals as goal

pub returns-clause-kept : goal.returns-clause-kept
returns-clause-kept c =
    let live : IsTrue (agent_of c.self.inside.0.0 c.args.agent).live = search rules in
    let fitting : IsTrue (may_enter c.self.inside.0.0 c.args.agent c.args.op) = search rules in
    rw (← c.self.view_is) (kept_on c.enter.result _ _ (record { agent = c.args.agent; number = c.args.number; op = c.args.op }) c.enter.ensures.state c.enter.ensures.told live fitting)
