use Rattle.std.proofs.Common.{◌≡◌, sym, subst}
use Rattle.opfs_store.specs.Acts.Acting.{awaited}
use Rattle.opfs_store.specs.declared.acts.acted.AwaitState.TheVariants as await
use Rattle.opfs_base.specs.Texts.{Text}
use Rattle.opfs_machine.specs.Histories.{state_after}
use Rattle.opfs_books.specs.Openings.Openings.{fixed_by}
use Rattle.opfs_desk_steps.specs.Parts.Seen.{machine_in}
use Rattle.opfs_desk.proofs.Tags.{agent-there, is-there, is-stuck, is-neither}
use Rattle.opfs_desk.proofs.desk.Desk.await_state.Goals as goal

pub returns-then-is_posted : goal.returns-then-is_posted
returns-then-is_posted g c =
    let f = fixed_by g.D.Disk c.self.inside.from.value c.self.inside.agents.value.items in
    let l = c.self.inside.parts.ledger in
    rw (← c.self.view_is)
    (subst (λ (x : Text). await.Posted ≡ awaited (state_after f.opening l.books.history) c.args.agent x) c.as_bytes.ensures.value
    (sym (is-there c.lengths_decide_each_ruling.ensures (state_after f.opening l.books.history) (machine_in l) c.args.agent c.as_bytes.result.now c.self.invariant.rest.held.are.books.machine (sym c.if-is_posted.ensures))))

pub returns-then-others_stuck : goal.returns-then-others_stuck
returns-then-others_stuck g c =
    let f = fixed_by g.D.Disk c.self.inside.from.value c.self.inside.agents.value.items in
    let l = c.self.inside.parts.ledger in
    rw (← c.self.view_is)
    (subst (λ (x : Text). await.Stuck ≡ awaited (state_after f.opening l.books.history) c.args.agent x) c.as_bytes.ensures.value
    (sym (is-stuck c.lengths_decide_each_ruling.ensures (state_after f.opening l.books.history) (machine_in l) c.args.agent c.as_bytes.result.now c.self.invariant.rest.held.are.books.machine (sym c.if-is_posted.ensures) (sym c.if-others_stuck.ensures))))

pub returns-else-others_stuck : goal.returns-else-others_stuck
returns-else-others_stuck g c =
    let f = fixed_by g.D.Disk c.self.inside.from.value c.self.inside.agents.value.items in
    let l = c.self.inside.parts.ledger in
    rw (← c.self.view_is)
    (subst (λ (x : Text). await.Neither ≡ awaited (state_after f.opening l.books.history) c.args.agent x) c.as_bytes.ensures.value
    (sym (is-neither c.lengths_decide_each_ruling.ensures (state_after f.opening l.books.history) (machine_in l) c.args.agent c.as_bytes.result.now c.self.invariant.rest.held.are.books.machine (sym c.if-is_posted.ensures) (sym c.if-others_stuck.ensures))))

pub is_posted-requires : goal.is_posted-requires
is_posted-requires g c =
    let f = fixed_by g.D.Disk c.self.inside.from.value c.self.inside.agents.value.items in
    let l = c.self.inside.parts.ledger in
    agent-there (state_after f.opening l.books.history) (machine_in l) c.args.agent c.self.invariant.rest.held.are.books.machine (rw (← c.self.view_is) at c.requires)

pub others_stuck-requires : goal.others_stuck-requires
others_stuck-requires g c =
    let f = fixed_by g.D.Disk c.self.inside.from.value c.self.inside.agents.value.items in
    let l = c.self.inside.parts.ledger in
    agent-there (state_after f.opening l.books.history) (machine_in l) c.args.agent c.self.invariant.rest.held.are.books.machine (rw (← c.self.view_is) at c.requires)
