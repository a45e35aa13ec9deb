-- The state behind a shared call's entry, and the agent's own rows in it.
use Rattle.std.proofs.Common.{◌≡◌, ℕ, ◌+◌, Bool, true, false, List, [], ◌∷◌, ◌++◌, append-nil, map, fold, sym, ap, ◌∙◌, subst, IsTrue}
use Rattle.opfs_base.specs.Texts.{Text}
use Rattle.opfs_hist.specs.declared.entry.Entry.{Entry}
use Rattle.opfs_hist.specs.declared.op.Op.{Op}
use Rattle.opfs_hist.specs.declared.reply.Reply.{Reply}
use Rattle.opfs_machine.specs.declared.own.Own.{Own}
use Rattle.opfs_machine.specs.declared.state.Agent.{Agent}
use Rattle.opfs_machine.specs.declared.state.State.{State}
use Rattle.opfs_machine.specs.Agents.{agent_in, agent_of, own_of, counted}
use Rattle.opfs_machine.specs.Contents.{in_bytes}
use Rattle.opfs_machine.specs.Effects.{effect, refused}
use Rattle.opfs_machine.specs.Histories.{state_after}
use Rattle.opfs_machine.specs.Replies.{sizes_of}
use Rattle.opfs_machine.specs.Runs.{eviction}
use Rattle.opfs_machine.specs.Steps.{evicted, after_reply, is_refusal}
use Rattle.opfs_laws.specs.Histories.Opened.{added}
use Rattle.opfs_laws.specs.Histories.Unread.{unread_entry}
use Rattle.opfs_laws.proofs.histories.Adding.{added-state}
use Rattle.opfs_laws.proofs.histories.Reading.{unread-state, refuses-same}
use Rattle.opfs_laws.specs.Leaving.{IsMoved}
use Rattle.opfs_laws.proofs.Allowed.{IsAllowed}
use Rattle.opfs_laws.proofs.LocksEffect.{call-allowed}
use Rattle.opfs_laws.proofs.Moved.{call-moves}
use Rattle.opfs_laws.proofs.Numbers.{IsNumber, number-of}
use Rattle.opfs_laws.proofs.OwnKept.{evicted-agents}
use Rattle.opfs_store.specs.declared.acts.acted.Gift.{Gift}
use Rattle.opfs_store.specs.Acts.Acting.{told_entry}
use Rattle.opfs_turns.specs.Agents.{AgentSeen, IsAgent, known, state_of, own_row}
use Rattle.opfs_turns.specs.Calls.{call_of, before_call, IsEntered}

alike-front : (h xs ys : List Entry) → map unread_entry xs ≡ map unread_entry ys → map unread_entry (h ++ xs) ≡ map unread_entry (h ++ ys)
alike-front [] xs ys alike = alike
alike-front (e ∷ h) xs ys alike = ap (λ zs. unread_entry e ∷ zs) (alike-front h xs ys alike)

module _ {O : Type 0} (tells : Type 0) (before after : AgentSeen O) (kept : IsAgent tells before) (called : Op) (answered : Reply) (given : Gift)
    (e : IsEntered tells before after called answered given) where
  abbrev pub k : ℕ
  k = before.pass.agent

  -- The state in the turn, and that once the units are cleared.
  abbrev pub s : State Text Own
  s = state_after before.opening (before_call before e.others)

  abbrev pub t : State Text Own
  t = fold evicted s e.gone

  abbrev pub list : List Entry
  list = (before.pass.base ++ e.others) ++ added before.pending e.gone (told_entry (call_of before called) answered)

  pub known-is : known after ≡ list
  known-is = ap (λ (a : AgentSeen O). a.pass.base ++ a.pending) e.rest ∙ append-nil after.pass.base ∙ e.grown

  pub opening-is : after.opening ≡ before.opening
  opening-is = ap (λ (a : AgentSeen O). a.opening) e.rest

  pub agent-is : after.pass.agent ≡ k
  agent-is = ap (λ (a : AgentSeen O). a.pass.agent) e.rest

  real-alike : map unread_entry list ≡ map unread_entry ((before.pass.base ++ e.others) ++ added before.pending e.gone e.call.real)
  real-alike =
      alike-front (before.pass.base ++ e.others) _ _
      (alike-front before.pending _ _
      (alike-front (map eviction e.gone) (told_entry (call_of before called) answered ∷ []) (e.call.real ∷ []) (λ i. e.call.alike i ∷ [])))

  pub real-agent : e.call.real.agent ≡ k
  real-agent = ap (λ (x : Entry). x.agent) (sym e.call.alike)

  pub real-op : e.call.real.op ≡ called
  real-op = ap (λ (x : Entry). x.op) (sym e.call.alike)

  pub same-refusal : is_refusal e.call.real.reply ≡ is_refusal answered
  same-refusal = sym (refuses-same e.call.real.reply) ∙ ap (λ (x : Entry). is_refusal x.reply) (sym e.call.alike) ∙ refuses-same answered

  list-state : state_after before.opening list ≡ after_reply t k called e.call.real.reply
  list-state =
      unread-state before.opening list ((before.pass.base ++ e.others) ++ added before.pending e.gone e.call.real) real-alike
      ∙ added-state before.opening (before.pass.base ++ e.others) before.pending k e.gone e.call.real e.call.call
      ∙ (λ i. after_reply t (real-agent i) (real-op i) e.call.real.reply)

  by-refusal : (x : Bool) → is_refusal e.call.real.reply ≡ x
      → after_reply t k called e.call.real.reply ≡ counted (elim x as (λ b. State Text Own) [ true ↦ refused t k called | false ↦ effect in_bytes t (sizes_of t k called) k called ]) k
  by-refusal x is = ap (λ (b : Bool). counted (elim b as (λ c. State Text Own) [ true ↦ refused t k called | false ↦ effect in_bytes t (sizes_of t k called) k called ]) k) is

  -- The state that is left, where the call was not refused, and where it was.
  pub accepted-state : is_refusal answered ≡ false → state_after before.opening list ≡ counted (effect in_bytes t (sizes_of t k called) k called) k
  accepted-state ok = list-state ∙ by-refusal false (same-refusal ∙ ok)

  pub refused-state : is_refusal answered ≡ true → state_after before.opening list ≡ counted (refused t k called) k
  refused-state is = list-state ∙ by-refusal true (same-refusal ∙ is)

  -- The agent in its turn is as it was.
  agents-same : agent_of t k ≡ agent_of s k
  agents-same = ap (λ as_. agent_in as_ k) (evicted-agents e.gone s)

  pub agent-same : agent_of t k ≡ agent_of (state_of before) k
  agent-same = agents-same ∙ ap (λ x. x.0) e.own

  pub live-there : IsTrue (agent_of t k).live
  live-there = ap (λ (a : Agent Own). a.live) agent-same ∙ kept.live

  pub number : IsNumber t k
  number = number-of t k live-there

  pub row-there : (n : ℕ) → own_of (agent_of t k) n ≡ own_row before n
  row-there n = ap (λ (a : Agent Own). own_of a n) agent-same

  -- What the call could not do without.
  pub allowed : is_refusal answered ≡ false → IsAllowed t k called
  allowed ok =
      subst (λ j. IsAllowed t j called) real-agent
      (subst (IsAllowed t e.call.real.agent) real-op (call-allowed s e.gone e.call.real e.call.call (same-refusal ∙ ok)))

  -- What the call leaves of its agent.
  pub moved : IsMoved (agent_of (state_of before) k) called (agent_of (state_after before.opening list) k)
  moved =
      subst (λ b. IsMoved b called (agent_of (state_after before.opening list) k)) (ap (λ x. x.0) e.own)
      (subst (λ u. IsMoved (agent_of s k) called (agent_of u k)) (sym list-state) (call-moves s e.gone k called e.call.real.reply (ap (λ x. x.0.live) e.own ∙ kept.live)))

  -- What is said of the history that is left, is said of the agent.
  pub to-after : (P : AgentSeen O → Type 0) → P (record before { pass = record before.pass { base = after.pass.base }; pending = []; number = before.number + 1; entries = before.entries + 1; rows = after.rows }) → P after
  to-after P h = subst P (sym e.rest) h
