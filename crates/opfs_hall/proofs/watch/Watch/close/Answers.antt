use Rattle.std.proofs.Common.{sym, ap, ◌∙◌, subst}
use mathlib.Core.Option.{some}
use Rattle.opfs_hall.specs.History.{Onward}
use Rattle.opfs_hall.proofs.Ends.{slot_is_some, closed_value}
use Rattle.opfs_hall.proofs.Lent.{watch-idle, watch-place}
use Rattle.opfs_hall.proofs.Views.{IfSome_at}
use Rattle.opfs_hall.proofs.watch.Watch.close.Goals as goal

pub unwrap-requires : goal.unwrap-requires
unwrap-requires g c =
    slot_is_some g.V.Chronicle.opening g.V.Chronicle.entries g.V.Chronicle.owner (Onward g.V.Chronicle.entries g.V.Chronicle.goes_on) _ _ _ _ _ _ (watch-place c.self.inside.seat c.self.inside.hall.value c.self.inside.last.value c.args.self c.self.invariant c.self.view_is)
    (watch-idle c.self.inside.seat c.self.inside.hall.value c.self.inside.last.value c.args.self c.self.view_is) c.requires.all
    (ap (λ h. h.agents) (c.hall.view_is ∙ sym c.requires.own)) c.close_with-closed.ensures.values.2 _ c.take-slot.ensures.value

pub returns : goal.returns
returns g c =
    let end = closed_value g.V.Chronicle.opening g.V.Chronicle.entries g.V.Chronicle.owner (Onward g.V.Chronicle.entries g.V.Chronicle.goes_on) _ _ _ _ _ _ (watch-place c.self.inside.seat c.self.inside.hall.value c.self.inside.last.value c.args.self c.self.invariant c.self.view_is)
    (watch-idle c.self.inside.seat c.self.inside.hall.value c.self.inside.last.value c.args.self c.self.view_is) c.requires.all
    (ap (λ h. h.agents) (c.hall.view_is ∙ sym c.requires.own)) c.close_with-closed.ensures.values.2 c.unwrap.result (c.take-slot.ensures.value ∙ ap some c.unwrap.ensures) in
    let onward =
    subst (λ (x : g.row.V.Denot). Onward g.V.Chronicle.entries g.V.Chronicle.goes_on x c.unwrap.result) (ap (λ w. w.last) c.self.view_is)
    (IfSome_at c.self.inside.seat.me.0.last (λ (y : g.row.V.Denot). Onward g.V.Chronicle.entries g.V.Chronicle.goes_on y c.unwrap.result) c.self.inside.last.value c.self.invariant.seen end.3) in
    record {
      opening = end.0 ∙ ap (λ h. h.opening) c.hall.view_is;
      base = end.1;
      ended = end.2;
      goes = onward.0;
      kept = onward.1;
    }
