-- An own row that is changed moves the unit of its file alone.
use Rattle.std.proofs.Common.{◌≡◌, ℕ, ◌+◌, Bool, true, false, cond, List, [], ◌∷◌, get_or, sum_by, flat_map, Option, Some, None, refl, sym, ap, ◌∙◌, slice_set, arith}
use Rattle.std.specs.Prelude.{slice_get}
use Rattle.std.proofs.lemmas.List.Sums.{sum_by-append, sum_by-cons, sum_by-set}
use Rattle.std.proofs.lemmas.Option.{slice_get_within, get_or_from_slice_get}
use Rattle.opfs_base.specs.Texts.{Text}
use Rattle.opfs_machine.specs.declared.own.HandleOutline.{HandleOutline}
use Rattle.opfs_machine.specs.declared.own.Outline.{Outline}
use Rattle.opfs_machine.specs.declared.own.Outline.TheVariants as outline
use Rattle.opfs_machine.specs.declared.own.StreamOutline.{StreamOutline}
use Rattle.opfs_machine.specs.declared.state.Agent.{Agent}
use Rattle.opfs_register.specs.Slots.{slot_of, slot_in, slot_set, with_slot}
use Rattle.opfs_state_rows.specs.Standing.Seen.{Machine, with_slot_at}
use Rattle.opfs_state_rows.specs.Standing.Sums.{stream_where, reserve_where}
use Rattle.opfs_state_rows.specs.Standing.Moves.{Moves, kept_amounts}

module _ (f : Outline → ℕ) where
  pub sum-flat : (agents : List (Agent Outline)) → sum_by f (flat_map (λ a. a.own) agents) ≡ sum_by (λ (a : Agent Outline). sum_by f a.own) agents
  sum-flat [] = refl
  sum-flat (a ∷ agents) =
      sum_by-append f a.own (flat_map (λ a. a.own) agents) ∙ ap (λ n. sum_by f a.own + n) (sum-flat agents) ∙ sym (sum_by-cons (λ (a : Agent Outline). sum_by f a.own) a agents)

  module _ (agents : List (Agent Outline)) (at n : ℕ) (old new : Outline) where
    set-in : (o : Option (Agent Outline)) → slice_get agents at ≡ o → slot_of o n ≡ Some old
        → sum_by f (flat_map (λ a. a.own) (slot_set agents at n new o)) + f old ≡ sum_by f (flat_map (λ a. a.own) agents) + f new
    set-in None told is = cc
    set-in (Some a) told is =
        let rows = λ (x : Agent Outline). sum_by f x.own in
        let b : Agent Outline = record a { own = slice_set a.own n new } in
        let outer = sum_by-set rows agents at b a (slice_get_within agents at a told) in
        let here : rows (get_or agents at a) ≡ rows a = ap rows (get_or_from_slice_get agents at a a told) in
        let inner = sum_by-set f a.own n new old (slice_get_within a.own n old is) in
        let was : f (get_or a.own n old) ≡ f old = ap f (get_or_from_slice_get a.own n old old is) in
        omega (arith, sum-flat (slice_set agents at b), sum-flat agents, outer, here, inner, was)

    pub sum-slot : slot_in agents at n ≡ Some old → sum_by f (flat_map (λ a. a.own) (with_slot agents at n new)) + f old ≡ sum_by f (flat_map (λ a. a.own) agents) + f new
    sum-slot is = set-in (slice_get agents at) refl is

-- A row of a file in a unit, or one that keeps nothing.
pub record IsRowOf (unit : Text) (r : Outline) : Type 0 where
  pub usage : (p : Text → Bool) → stream_where p r ≡ cond (p unit) (kept_amounts r).usage 0
  pub blocks : (p : Text → Bool) → reserve_where p r ≡ cond (p unit) (kept_amounts r).blocks 0

nothing : (t : Bool) → ◌≡◌ {A = ℕ} 0 (cond t 0 0)
nothing true = refl
nothing false = refl

pub stream-row : (w : StreamOutline) → IsRowOf w.file.0 (outline.Stream w)
stream-row w = record { usage = λ p. refl; blocks = λ p. refl }

pub handle-row : (h : HandleOutline) → IsRowOf h.file.0 (outline.Handle h)
handle-row h = record { usage = λ p. nothing (p h.file.0); blocks = λ p. refl }

pub closed-stream-row : (unit : Text) → IsRowOf unit outline.ClosedStream
closed-stream-row unit = record { usage = λ p. nothing (p unit); blocks = λ p. nothing (p unit) }

pub closed-handle-row : (unit : Text) → IsRowOf unit outline.ClosedHandle
closed-handle-row unit = record { usage = λ p. nothing (p unit); blocks = λ p. nothing (p unit) }

true_false : true ≡ false → ⊥
true_false h = cc

pub slot-moves : (m : Machine) (at n : ℕ) (unit : Text) (old new : Outline) → slot_in m.agents at n ≡ Some old → IsRowOf unit old → IsRowOf unit new
    → Moves m (with_slot_at m at n new) unit (kept_amounts old) (kept_amounts new)
slot-moves m at n unit old new is was now = record {
  limits = refl;
  known = λ q there. record { known = λ none. absurd (true_false (sym there ∙ none)) };
  usage = λ p. omega (arith, sum-slot (stream_where p) m.agents at n old new is, was.usage p, now.usage p);
  blocks = λ p. omega (arith, sum-slot (reserve_where p) m.agents at n old new is, was.blocks p, now.blocks p);
  clear = λ u apart. refl;
  charge = omega (arith, none old, none new);
}
  where
    none : (r : Outline) → (kept_amounts r).charge ≡ 0
    none (outline.Stream w) = refl
    none outline.ClosedStream = refl
    none (outline.Handle h) = refl
    none outline.ClosedHandle = refl
    none outline.Snapshot = refl
    none outline.Iterator = refl
