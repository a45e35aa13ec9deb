use Rattle.std.proofs.Common.{ap, ◌∙◌}
use Rattle.opfs_base.specs.Texts.{Text}
use Rattle.opfs_books.specs.Openings.Openings.{fixed_by}
use Rattle.opfs_desk_steps.specs.Parts.Seen.{machine_in}
use Rattle.opfs_machine.specs.Agents.{agent_of, waits_for}
use Rattle.opfs_machine.specs.Histories.{state_after}
use Rattle.opfs_desk.proofs.Tags.{agent-there, waits-is}
use Rattle.opfs_desk.proofs.desk.Desk.waits_for.Goals as goal

pub returns : goal.returns
returns g c =
    let f = fixed_by g.D.Disk c.self.inside.from.value c.self.inside.agents.value.items in
    let l = c.self.inside.parts.ledger in
    rw (← c.self.view_is)
    (c.waits_for.ensures
    ∙ waits-is (state_after f.opening l.books.history) (machine_in l) c.args.agent c.as_bytes.result.now c.self.invariant.rest.held.are.books.machine
    ∙ ap (λ (x : Text). waits_for (agent_of (state_after f.opening l.books.history) c.args.agent).waits x) c.as_bytes.ensures.value)

pub waits_for-requires : goal.waits_for-requires
waits_for-requires g c =
    let f = fixed_by g.D.Disk c.self.inside.from.value c.self.inside.agents.value.items in
    let l = c.self.inside.parts.ledger in
    agent-there (state_after f.opening l.books.history) (machine_in l) c.args.agent c.self.invariant.rest.held.are.books.machine (rw (← c.self.view_is) at c.requires)
