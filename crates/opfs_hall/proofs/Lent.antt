-- The seat of a pass and of a watch.
use Rattle.std.proofs.Common.{◌≡◌, ℕ, false, List, sym, refl, ap, ◌∙◌, subst}
use Rattle.std.specs.Prelude.{Option, Some}
use Rattle.atomic_table.specs.declared.shared.Seat.{Seat}
use Rattle.opfs_hall.specs.declared.board.View.{View}
use Rattle.opfs_hall.specs.History.{GrowsByOthers}
use Rattle.opfs_hall.specs.Seen.{HallSeen, PassSeen, WatchSeen}
use Rattle.opfs_hall.specs.Turns.{seat_of, pass_of, watch_of, IsPlaced, IsPlaceOf, IsSeated, IsWatch}

module _ {X O E : Type 0} where
  pub placed-as : (seat : Seat (Option X) (View O E X)) (hall hall' : HallSeen O) (k k' : ℕ) → hall ≡ hall' → k ≡ k' → IsPlaced seat hall k → IsPlaced seat hall' k'
  placed-as seat hall hall' k k' same number is = subst (λ (j : ℕ). IsPlaced seat hall' j) number (subst (λ (h : HallSeen O). IsPlaced seat h k) same is)

  -- the seat of a pass that goes on from another value is still its seat
  pub placed-behind : (seat new : Seat (Option X) (View O E X)) (hall : HallSeen O) (k : ℕ) (last : Option X) → new.table_id ≡ seat.table_id → new.me ≡ (record seat.me.0 { last = last }, seat.me.1) → IsPlaced seat hall k → IsPlaced new hall k
  placed-behind seat new hall k last table me is = record {
    table = table ∙ is.table;
    opening = ap (λ m. m.0.opening) me ∙ is.opening;
    agents = ap (λ m. m.0.agents) me ∙ is.agents;
    number = ap (λ m. m.0.number) me ∙ is.number;
    idle = λ out. let idle = is.idle (sym (ap (λ m. m.0.inside) me) ∙ out) in (ap (λ m. m.0.ticket) me ∙ idle.0, ap (λ m. m.1) me ∙ idle.1);
    busy = λ in'. ap (λ m. m.1) me ∙ is.busy (sym (ap (λ m. m.0.inside) me) ∙ in');
  }

  -- the seat of a pass at rest
  pub at-rest : (own : Option (Seat (Option X) (View O E X))) (lent seat : Seat (Option X) (View O E X)) (hall : HallSeen O) (agent : ℕ) → own ≡ Some seat → IsSeated own lent hall agent → IsPlaced seat hall agent
  at-rest own lent seat hall agent is seated = subst (λ (s : Seat (Option X) (View O E X)). IsPlaced s hall agent) (ap (λ (o : Option (Seat (Option X) (View O E X))). seat_of o lent) is) seated.placed

  -- what it has seen
  pub grows-seen : (owner : E → ℕ) (own : Option (Seat (Option X) (View O E X))) (lent seat : Seat (Option X) (View O E X)) (hall : HallSeen O) (agent : ℕ) (pass : PassSeen O E) (list : List E) → own ≡ Some seat → pass_of own lent hall agent ≡ pass
      → GrowsByOthers owner agent seat.me.0.base list → GrowsByOthers owner pass.agent pass.base list
  grows-seen owner own lent seat hall agent pass list is seen grows =
      subst (λ (k : ℕ). GrowsByOthers owner k pass.base list) (ap (λ (p : PassSeen O E). p.agent) seen)
      (subst (λ (base : List E). GrowsByOthers owner agent base list) (ap (λ (o : Option (Seat (Option X) (View O E X))). (seat_of o lent).me.0.base) (sym is) ∙ ap (λ (p : PassSeen O E). p.base) seen) grows)

  -- the seat of a watch is its pass's
  pub watch-place : (seat : Seat (Option X) (View O E X)) (hall : HallSeen O) (last : X) (w : WatchSeen O E X) → IsWatch seat hall last → watch_of seat hall last ≡ w → IsPlaceOf seat w.pass
  watch-place seat hall last w is seen = subst (λ (x : WatchSeen O E X). IsPlaceOf seat x.pass) seen record { placed = is.placed; base = refl; ended = refl; inside = is.inside }

  pub watch-idle : (seat : Seat (Option X) (View O E X)) (hall : HallSeen O) (last : X) (w : WatchSeen O E X) → watch_of seat hall last ≡ w → w.pass.busy ≡ false
  watch-idle seat hall last w seen = sym (ap (λ (x : WatchSeen O E X). x.pass.busy) seen)
