-- What is known of a seat's agent is known of the parts of the seat.
use Rattle.std.proofs.Common.{◌≡◌, ℕ, ◌+◌, ◌≤◌, [], ◌∷◌, ◌++◌, length, Option, Some, None, sym, ap, ◌∙◌, subst, false}
use Rattle.opfs_base.specs.Texts.{Text}
use Rattle.opfs_hall.specs.Seen.{HallSeen}
use Rattle.opfs_script.specs.Scripts.{Asked}
use Rattle.opfs_script.specs.declared.step.Step.{Step}
use Rattle.opfs_script.specs.declared.step.Step.TheVariants as step
use Rattle.opfs_turns.specs.Agents.{AgentSeen}
use Rattle.opfs_serving.specs.Seats.{EndsAt, IsAt, IsMidway, SeatSeen, with_steps}
use Rattle.opfs_serving.proofs.Midway.{midway-awaits, midway-missed}

pub some-same : {X : Type 0} {x y : X} → Some x ≡ Some y → x ≡ y
some-same e = cc

module _ {O : Type 0} (tells : Type 0) (of : HallSeen O) where
  -- A seat is lent in its parts.
  pub in-parts : (k : ℕ) (asked : Asked) (x now : SeatSeen O) (a here : AgentSeen O) (awaits : Option Text) → x ≡ now → now.agent ≡ Some a → Some here ≡ x.agent → now.awaits ≡ awaits → IsAt tells of k asked now a
      → IsMidway tells of k asked here x.rows x.hand awaits
  in-parts k asked x now a here awaits view there copied is at =
      let same : a ≡ here = some-same (sym there ∙ sym (ap (λ (y : SeatSeen O). y.agent) view) ∙ sym copied) in
      subst (λ b. IsMidway tells of k asked b x.rows x.hand awaits) same
      (subst (λ w. IsMidway tells of k asked a x.rows x.hand w) is
      (subst (λ (y : SeatSeen O). IsMidway tells of k asked a y.rows y.hand now.awaits) (sym view) at))

  pub room-in-parts : (x now : SeatSeen O) (a here : AgentSeen O) (most : ℕ) → x ≡ now → now.agent ≡ Some a → Some here ≡ x.agent → a.entries + length now.rows ≤ most → here.entries + length x.rows ≤ most
  room-in-parts x now a here most view there copied few =
      let same : a ≡ here = some-same (sym there ∙ sym (ap (λ (y : SeatSeen O). y.agent) view) ∙ sym copied) in
      subst (λ (b : AgentSeen O). b.entries + length x.rows ≤ most) same (subst (λ (y : SeatSeen O). a.entries + length y.rows ≤ most) (sym view) few)

  -- The agent of a seat is one.
  pub room-of : (x : SeatSeen O) (a b : AgentSeen O) (most : ℕ) → x.agent ≡ Some a → x.agent ≡ Some b → b.entries + length x.rows ≤ most → a.entries + length x.rows ≤ most
  room-of x a b most one two few = subst (λ (y : AgentSeen O). y.entries + length x.rows ≤ most) (some-same (sym two ∙ one)) few

  -- A seat that begins to await, or has not, for want of memory.
  module _ (k : ℕ) (asked : Asked) (a : AgentSeen O) (old new : SeatSeen O) (there : old.agent ≡ Some a) (free : old.awaits ≡ None) (at : IsAt tells of k asked old a) (room : a.entries + length old.rows ≤ 59900000) (s : Step) where
    midway : IsMidway tells of k asked a old.rows old.hand None
    midway = subst (IsMidway tells of k asked a old.rows old.hand) free at

    pub awaits-at : (tag : Text) → s ≡ step.Await tag → new ≡ record old { awaits = Some tag } → (b : AgentSeen O) × (new.agent ≡ Some b) × IsAt tells of k (with_steps asked (asked.steps ++ s ∷ [])) new b
    awaits-at tag is then = (
      a,
      ap (λ (y : SeatSeen O). y.agent) then ∙ there,
      subst (λ (y : SeatSeen O). IsAt tells of k (with_steps asked (asked.steps ++ s ∷ [])) y a) (sym then) (midway-awaits tells of k asked a old.rows old.hand s midway tag is room),
    )

    pub missed-at : new ≡ old → (b : AgentSeen O) × (new.agent ≡ Some b) × EndsAt tells of k (with_steps asked (asked.steps ++ s ∷ [])) false new b
    missed-at then = (
      a,
      ap (λ (y : SeatSeen O). y.agent) then ∙ there,
      subst (λ (y : SeatSeen O). EndsAt tells of k (with_steps asked (asked.steps ++ s ∷ [])) false y a) (sym then) (midway-missed tells of k asked a old.rows old.hand s midway room),
    )
