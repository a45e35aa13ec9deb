use Rattle.std.proofs.Common.{◌≡◌, None, Some, length, refl, sym, ap, ◌∙◌, arith}
use Rattle.std.specs.Option.{option_copied}
use Rattle.opfs_serving.proofs.Named.{none-there, some-there}
use Rattle.opfs_serving.proofs.requests.held_back.Given.{Over}
use Rattle.opfs_serving.proofs.requests.held_back.Goals as goal
use Rattle.opfs_serving.proofs.requests.held_back.Goals.{After-len}

pub returns-then-is_some : goal.returns-then-is_some
returns-then-is_some g c =
    let copied = sym (ap option_copied c.in-Some.is) ∙ c.as_ref.ensures.value in
    let found = some-there c.seat.inside.awaits (sym c.is_some.ensures ∙ c.if-is_some.true) in (
      refl,
      record {
        agent = c.in-Some.agent.now;
        there = sym (ap (λ x. x.agent) c.seat.view_is) ∙ sym copied;
        tag = found.0;
        awaits = sym (ap (λ x. x.awaits) c.seat.view_is) ∙ found.1;
      },
    )

-- The agent is there and awaits nothing, with so many rows.
found : (g : Over) (c : After-len g) → (c.args.seat.now.agent ≡ Some c.in-Some.agent.now) × (c.args.seat.now.awaits ≡ None) × (c.len.result ≡ length c.args.seat.now.rows)
found g c =
    let copied = sym (ap option_copied c.in-Some.is) ∙ c.as_ref.ensures.value in (
      sym (ap (λ x. x.agent) c.seat.view_is) ∙ sym copied,
      sym (ap (λ x. x.awaits) c.seat.view_is) ∙ none-there c.seat.inside.awaits (sym c.is_some.ensures ∙ c.if-is_some.false),
      c.len.ensures ∙ c.seat.inside.rows.ok.0 ∙ ap (λ x. length x.rows) c.seat.view_is,
    )

pub returns-then-entries-len-gt-MOST : goal.returns-then-entries-len-gt-MOST
returns-then-entries-len-gt-MOST g c =
    let f = found g (goal.at.returns-then-entries-len-gt-MOST g c).After-len in
    let many = c.if-entries-len-gt-MOST.true in
    let entries = c.entries.ensures in
    let count = f.2 in
    record { agent = c.in-Some.agent.now; there = f.0; free = f.1; many = grind (arith, many, entries, count) }

pub returns : goal.returns
returns g c =
    let f = found g (goal.at.returns g c).After-len in
    let few = c.if-entries-len-gt-MOST.false in
    let entries = c.entries.ensures in
    let count = f.2 in
    record { agent = c.in-Some.agent.now; there = f.0; free = f.1; room = omega (arith, few, entries, count) }
