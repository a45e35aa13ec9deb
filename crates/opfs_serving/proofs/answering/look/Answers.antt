use Rattle.std.proofs.Common.{Some, sym, ap, ◌∙◌, subst}
use Rattle.std.specs.Option.{option_copied_mut}
use Rattle.opfs_serving.proofs.Parts.{some-same}
use Rattle.opfs_turns.specs.Calls.{HasLooked}
use Rattle.opfs_serving.proofs.answering.look.Goals as goal

pub returns-clause-looked : goal.returns-clause-looked
returns-clause-looked g c = λ a there.
    let copied = sym (ap option_copied_mut c.in-Some.is) ∙ c.as_mut.ensures.value in
    let same = some-same (copied ∙ ap (λ x. x.agent) c.seat.view_is ∙ there) in (
      c.look_behind.new.self,
      λ i. record { agent = Some c.look_behind.new.self; rows = (c.seat.view_is i).rows; hand = (c.seat.view_is i).hand; awaits = (c.seat.view_is i).awaits },
      subst (λ b. HasLooked b c.look_behind.new.self) same c.look_behind.ensures.looked,
      c.know_kept.ensures,
      c.look_behind.ensures.behind,
    )
