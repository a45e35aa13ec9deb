use Rattle.std.proofs.Common.{sym, ap, ◌∙◌}
use mathlib.Core.Option.{some}
use Rattle.opfs_hall.specs.History.{Onward}
use Rattle.opfs_hall.proofs.Ends.{slot_is_some, closed_value}
use Rattle.opfs_hall.proofs.hall.Hall.close.Goals as goal

pub unwrap-requires : goal.unwrap-requires
unwrap-requires g c =
    slot_is_some g.V.Chronicle.opening g.V.Chronicle.entries g.V.Chronicle.owner (Onward g.V.Chronicle.entries g.V.Chronicle.goes_on) _ _ _ _ _ _ c.into_place.ensures c.requires.idle c.requires.all
    (ap (λ h. h.agents) (c.self.view_is ∙ sym c.requires.own)) c.close_with-closed.ensures.values.2 _ c.take-slot.ensures.value

pub returns : goal.returns
returns g c =
    let end = closed_value g.V.Chronicle.opening g.V.Chronicle.entries g.V.Chronicle.owner (Onward g.V.Chronicle.entries g.V.Chronicle.goes_on) _ _ _ _ _ _ c.into_place.ensures c.requires.idle c.requires.all
    (ap (λ h. h.agents) (c.self.view_is ∙ sym c.requires.own)) c.close_with-closed.ensures.values.2 c.unwrap.result (c.take-slot.ensures.value ∙ ap some c.unwrap.ensures) in
    record { opening = end.0 ∙ ap (λ h. h.opening) c.self.view_is; base = end.1; ended = end.2 }
