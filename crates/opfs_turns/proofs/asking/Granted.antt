-- What the machine does with a call that asks for nothing, or that is refused.
use Rattle.std.proofs.Common.{◌≡◌, ℕ, Bool, true, false, List, [], fold, length, Ok, Err, Option, refl, sym, ap, ◌∙◌, subst, inl, inr, arith, IsTrue}
use Rattle.std.proofs.lemmas.Bool.{false≢true}
use Rattle.opfs_base.specs.Texts.{Text}
use Rattle.opfs_hist.specs.Sums.{asks_for_row}
use Rattle.opfs_hist.specs.declared.op.Op.{Op}
use Rattle.opfs_hist.specs.declared.reply.Refusal.{Refusal}
use Rattle.opfs_hist.specs.declared.reply.Reply.{Reply}
use Rattle.opfs_hist.specs.declared.reply.Reply.TheVariants as reply
use Rattle.opfs_machine.specs.declared.own.Own.{Own}
use Rattle.opfs_machine.specs.declared.state.Need.{Need}
use Rattle.opfs_machine.specs.declared.state.State.{State}
use Rattle.opfs_machine.specs.Agents.{agent_of, counted}
use Rattle.opfs_machine.specs.Contents.{in_bytes}
use Rattle.opfs_machine.specs.Effects.{effect, refused}
use Rattle.opfs_machine.specs.Histories.{may_enter}
use Rattle.opfs_machine.specs.OwnRows.{is_local}
use Rattle.opfs_machine.specs.Replies.{answer, sizes_of}
use Rattle.opfs_machine.specs.Ruled.{Ruled, ◌>>=◌}
use Rattle.opfs_machine.specs.Rulings.{ruling}
use Rattle.opfs_machine.specs.Steps.{step, judged, outcome_of, room_for, after_reply, evicted, is_refusal, Outcome}
use Rattle.opfs_machine.specs.Sums.{no_need}
use Rattle.opfs_laws.specs.Histories.Unread.{unread}
use Rattle.opfs_laws.specs.Leaving.{IsMoved}
use Rattle.opfs_laws.proofs.Accepted.{answer-accepted}
use Rattle.opfs_laws.proofs.Local.{none_victims, room_for_nothing}
use Rattle.opfs_laws.proofs.Moved.{call-moves}
use Rattle.opfs_turns.specs.Agents.{AgentSeen, IsAgent, state_of}
use Rattle.opfs_turns.specs.Calls.{IsLocal}

module _ (s : State Text Own) (k : ℕ) (o : Op) where
  granted-by : (caller : Option Text) (r : Ruled Need) → r ≡ Ok no_need → outcome_of s k o (r >>= room_for in_bytes s caller) ≡ outcome_of s k o (Ok [])
  unfolding ◌>>=◌
  granted-by caller r is = ap (λ x. outcome_of s k o (x >>= room_for in_bytes s caller)) is ∙ ap (outcome_of s k o) (room_for_nothing s caller)

  pub granted : ruling in_bytes s (sizes_of s k o) k o ≡ Ok no_need → step s k o ≡ outcome_of s k o (Ok [])
  unfolding step judged
  granted is = granted-by (agent_of s k).key (ruling in_bytes s (sizes_of s k o) k o) is

  -- It is answered as if nothing refused.
  pub granted-answer : ruling in_bytes s (sizes_of s k o) k o ≡ Ok no_need → (step s k o).answered ≡ answer s (sizes_of s k o) k o
  unfolding outcome_of
  granted-answer is = ap (λ (x : Outcome). x.answered) (granted is)

  accepted-after : (r : Reply) → is_refusal r ≡ false → after_reply s k o r ≡ counted (effect in_bytes s (sizes_of s k o) k o) k
  accepted-after r h = ap (λ (b : Bool). counted (elim b as (λ x. State Text Own) [ true ↦ refused s k o | false ↦ effect in_bytes s (sizes_of s k o) k o ]) k) h

  -- And it is done.
  pub granted-after : ruling in_bytes s (sizes_of s k o) k o ≡ Ok no_need → (step s k o).after ≡ counted (effect in_bytes s (sizes_of s k o) k o) k
  unfolding outcome_of
  granted-after is = ap (λ (x : Outcome). x.after) (granted is) ∙ accepted-after (answer s (sizes_of s k o) k o) (answer-accepted s (sizes_of s k o) k o)

  denied-by : (caller : Option Text) (r : Ruled Need) (e : Refusal) → r ≡ Err e → outcome_of s k o (r >>= room_for in_bytes s caller) ≡ outcome_of s k o (Err e)
  unfolding ◌>>=◌
  denied-by caller r e is = ap (λ x. outcome_of s k o (x >>= room_for in_bytes s caller)) is

  pub denied : (e : Refusal) → ruling in_bytes s (sizes_of s k o) k o ≡ Err e → (step s k o).answered ≡ reply.No e
  unfolding step judged outcome_of
  denied e is = ap (λ (x : Outcome). x.answered) (denied-by (agent_of s k).key (ruling in_bytes s (sizes_of s k o) k o) e is)

  outcome-after : (r : Ruled (List Text)) → (outcome_of s k o r).after ≡ after_reply (fold evicted s (outcome_of s k o r).victims) k o (outcome_of s k o r).answered
  unfolding outcome_of
  outcome-after (Ok units) = refl
  outcome-after (Err e) = refl

  step-after : (step s k o).after ≡ after_reply (fold evicted s (step s k o).victims) k o (step s k o).answered
  unfolding step
  step-after = outcome-after (judged s k o)

  pub local-after : is_local s k o ≡ true → (step s k o).after ≡ after_reply s k o (step s k o).answered
  local-after local = step-after ∙ ap (λ units. after_reply (fold evicted s units) k o (step s k o).answered) (none_victims s k o local)

  local-moved : IsTrue (agent_of s k).live → is_local s k o ≡ true → IsMoved (agent_of s k) o (agent_of (step s k o).after k)
  local-moved live local = subst (λ t. IsMoved (agent_of s k) o (agent_of t k)) (sym (local-after local)) (call-moves s [] k o (step s k o).answered live)

  -- A local call that asks for no row makes none.
  pub local-rows : IsTrue (agent_of s k).live → is_local s k o ≡ true → asks_for_row o ≡ false → length (agent_of (step s k o).after k).own ≡ length (agent_of s k).own
  local-rows live local none =
      elim (local-moved live local).more as (λ x. length (agent_of (step s k o).after k).own ≡ length (agent_of s k).own) [
        | inl same ↦ same
        | inr more ↦ absurd (false≢true (sym none ∙ more.1))
      ]

-- A local call of an agent, with the machine's answer.
module _ {O : Type 0} (tells : Type 0) (a : AgentSeen O) (kept : IsAgent tells a) (o : Op) (local : is_local (state_of a) a.pass.agent o ≡ true) (may : may_enter (state_of a) a.pass.agent o ≡ true) where
  pub local-call : (answered : Reply) → asks_for_row o ≡ false → unread answered ≡ unread (step (state_of a) a.pass.agent o).answered
      → (tells → answered ≡ (step (state_of a) a.pass.agent o).answered) → IsLocal tells a o answered 0
  local-call answered none alike told =
      let rows = local-rows (state_of a) a.pass.agent o kept.live local none in
      record { local = local; fitting = may; alike = alike; told = told; rows = omega (arith, rows, kept.made) }

  pub plain-call : (answered : Reply) → asks_for_row o ≡ false → answered ≡ (step (state_of a) a.pass.agent o).answered → IsLocal tells a o answered 0
  plain-call answered none is = local-call answered none (ap unread is) (λ told. is)
