use Rattle.std.proofs.Common.{ap, ◌∙◌}
use Rattle.opfs_machine.specs.Agents.{agent_of, own_of}
use Rattle.opfs_machine.specs.Replies.{answer, sizes_in}
use Rattle.opfs_machine.proofs.Answered.{accepted-told}
use Rattle.opfs_plain.proofs.machine.enter_accepted.Goals as goal

pub returns-in_ok-tell-in-Ok-evict_and_perform-clause-told : goal.returns-in_ok-tell-in-Ok-evict_and_perform-clause-told
returns-in_ok-tell-in-Ok-evict_and_perform-clause-told c =
    accepted-told c.args.state.now c.args.entries.now.items c.evict_and_perform.new.entries.items c.tell.new.entries.items
    (record { agent = c.args.agent; number = c.args.number; op = c.args.op }) c.in-Ok.reply c.args.units
    c.in-Ok-evict_and_perform.ensures.told c.in_ok-tell-in-Ok-evict_and_perform.ensures
    (c.in-Ok.ensures
    ∙ ap (λ z. answer c.args.state.now z c.args.agent c.args.op)
    (c.sizes_of-sizes.ensures ∙ ap (λ n. sizes_in c.args.state.now (own_of (agent_of c.args.state.now c.args.agent) n)) c.row_named.ensures))
