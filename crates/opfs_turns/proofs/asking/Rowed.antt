-- The agent behind a call: as it was where the call was refused or not entered, and else as the call's effect leaves it.
use Rattle.std.proofs.Common.{◌≡◌, ℕ, true, false, List, [], Ok, Err, refl, sym, ap, ◌∙◌, subst, inl, inr}
use Rattle.std.proofs.lemmas.Bool.{false≢true}
use Rattle.opfs_base.specs.Texts.{Text}
use Rattle.opfs_hist.specs.declared.op.Op.{Op}
use Rattle.opfs_hist.specs.declared.op.Op.TheVariants as op
use Rattle.opfs_hist.specs.declared.entry.Entry.{Entry}
use Rattle.opfs_hist.specs.declared.reply.Reply.{Reply}
use Rattle.opfs_machine.specs.declared.own.Own.{Own}
use Rattle.opfs_machine.specs.declared.state.Agent.{Agent}
use Rattle.opfs_machine.specs.declared.state.State.{State}
use Rattle.opfs_machine.specs.Agents.{agent_of}
use Rattle.opfs_machine.specs.Contents.{in_bytes}
use Rattle.opfs_machine.specs.Effects.{effect, refused}
use Rattle.opfs_machine.specs.Histories.{Agrees, is_disk_op, state_after}
use Rattle.opfs_machine.specs.Replies.{answer, sizes_of}
use Rattle.opfs_machine.specs.Rulings.{ruling}
use Rattle.opfs_machine.specs.Steps.{Outcome, outcome_of, step, is_refusal}
use Rattle.opfs_machine.specs.Sums.{no_need}
use Rattle.opfs_hist.specs.declared.reply.Reply.TheVariants as reply
use Rattle.opfs_laws.specs.Leaving.{asks_nobody, IsMoved}
use Rattle.opfs_store.specs.declared.acts.acted.Gift.{Gift}
use Rattle.opfs_turns.specs.Agents.{AgentSeen, IsAgent, state_of}
use Rattle.opfs_turns.specs.Calls.{IsEntered, HasLooked, IsLocal, IsKept}
use Rattle.opfs_turns.proofs.Keeping.{state-after, after-step, moved as kept-moves}
use Rattle.opfs_turns.specs.Asking.Answers.{Shared}
use Rattle.opfs_turns.specs.declared.asking.stop.Stop.{Stop}
use Rattle.opfs_turns.specs.declared.asking.stop.Stop.TheVariants as stop
use Rattle.opfs_turns.proofs.asking.Entered.{s, t, list, known-is, opening-is, agent-is, accepted-state, refused-state, agent-same, real-agent, real-op, same-refusal, moved}
use Rattle.opfs_laws.specs.Histories.Unread.{unread}
use Rattle.opfs_turns.proofs.asking.Answered.{is_read, unread-is, unread-plain}
use Rattle.opfs_turns.proofs.asking.Granted.{granted}

-- The agent's own record, as it knows it.
abbrev pub own_agent : {O : Type 0} → AgentSeen O → Agent Own
own_agent a = agent_of (state_of a) a.pass.agent

pub looked-own : {O : Type 0} (before after : AgentSeen O) → HasLooked before after → own_agent after ≡ own_agent before
looked-own {O} before after looked = ap (λ (a : AgentSeen O). agent_of (state_of after) a.pass.agent) looked.rest ∙ ap (λ x. x.0) looked.own

nobody-stuck : (u : State Text Own) (k : ℕ) (o : Op) → asks_nobody o ≡ true → refused u k o ≡ u
nobody-stuck u k (op.Await tag) h = absurd (false≢true h)
nobody-stuck u k o h = refl

module _ {O : Type 0} (tells : Type 0) (before after : AgentSeen O) (kept : IsAgent tells before) (called : Op) (answered : Reply) (given : Gift)
    (e : IsEntered tells before after called answered given) where
  abbrev k : ℕ
  k = before.pass.agent

  abbrev cleared : State Text Own
  cleared = t tells before after kept called answered given e

  pub own-is : own_agent after ≡ agent_of (state_after before.opening (list tells before after kept called answered given e)) k
  own-is = λ i. agent_of (state_after (opening-is tells before after kept called answered given e i) (known-is tells before after kept called answered given e i)) (agent-is tells before after kept called answered given e i)

  pub refused-own : is_refusal answered ≡ true → asks_nobody called ≡ true → own_agent after ≡ own_agent before
  refused-own is nobody =
      own-is
      ∙ ap (λ u. agent_of u k) (refused-state tells before after kept called answered given e is)
      ∙ ap (λ u. agent_of u k) (nobody-stuck cleared k called nobody)
      ∙ agent-same tells before after kept called answered given e

  pub accepted-own : is_refusal answered ≡ false → own_agent after ≡ agent_of (effect in_bytes cleared (sizes_of cleared k called) k called) k
  accepted-own ok = own-is ∙ ap (λ u. agent_of u k) (accepted-state tells before after kept called answered given e ok)

  -- What the call leaves of its agent.
  pub entered-moved : IsMoved (own_agent before) called (own_agent after)
  entered-moved = subst (IsMoved (own_agent before) called) (sym own-is) (moved tells before after kept called answered given e)

  gone-by : (u : State Text Own) (j : ℕ) (o : Op) (r : Reply) (gone : List Text) → Agrees u gone j o r (step u j o) → is_refusal r ≡ false → step u j o ≡ outcome_of u j o (Ok []) → gone ≡ []
  unfolding outcome_of
  gone-by u j o r gone (inl is) accepted same = is.victims ∙ ap (λ (x : Outcome). x.victims) same
  gone-by u j o r gone (inr fault) accepted same = absurd (false≢true (sym accepted ∙ ap is_refusal fault.told))

  -- A call that asks for nothing clears no unit.
  pub granted-none : is_refusal answered ≡ false → ruling in_bytes (s tells before after kept called answered given e) (sizes_of (s tells before after kept called answered given e) k called) k called ≡ Ok no_need
      → e.gone ≡ []
  granted-none ok ruled =
      let u = s tells before after kept called answered given e in
      let here : step u k called ≡ outcome_of u k called (Ok []) = granted u k called ruled in
      let there : step u e.call.real.agent e.call.real.op ≡ outcome_of u e.call.real.agent e.call.real.op (Ok []) =
      subst (λ j. step u j e.call.real.op ≡ outcome_of u j e.call.real.op (Ok [])) (sym (real-agent tells before after kept called answered given e))
      (subst (λ o. step u k o ≡ outcome_of u k o (Ok [])) (sym (real-op tells before after kept called answered given e)) here)
      in
      gone-by u e.call.real.agent e.call.real.op e.call.real.reply e.gone e.call.call.agrees (same-refusal tells before after kept called answered given e ∙ ok) there

  sure-by : (u : State Text Own) (j : ℕ) (o : Op) (r : Reply) (gone : List Text) → Agrees u gone j o r (step u j o) → is_disk_op u j o ≡ false → step u j o ≡ outcome_of u j o (Ok []) → r ≡ answer u (sizes_of u j o) j o
  unfolding outcome_of
  sure-by u j o r gone (inl is) never same = is.same_reply ∙ ap (λ (x : Outcome). x.answered) same
  sure-by u j o r gone (inr fault) never same = absurd (false≢true (sym never ∙ fault.disk))

  -- One that needs no disk is answered as if nothing refused it.
  pub sure-answer : (is_disk_op (s tells before after kept called answered given e) k called ≡ false)
      → ruling in_bytes (s tells before after kept called answered given e) (sizes_of (s tells before after kept called answered given e) k called) k called ≡ Ok no_need
      → is_read (answer (s tells before after kept called answered given e) (sizes_of (s tells before after kept called answered given e) k called) k called) ≡ false
      → answered ≡ answer (s tells before after kept called answered given e) (sizes_of (s tells before after kept called answered given e) k called) k called
  sure-answer never ruled plain =
      let u = s tells before after kept called answered given e in
      let j_is = real-agent tells before after kept called answered given e in
      let o_is = real-op tells before after kept called answered given e in
      let here : step u k called ≡ outcome_of u k called (Ok []) = granted u k called ruled in
      let there : step u e.call.real.agent e.call.real.op ≡ outcome_of u e.call.real.agent e.call.real.op (Ok []) =
      subst (λ j. step u j e.call.real.op ≡ outcome_of u j e.call.real.op (Ok [])) (sym j_is) (subst (λ o. step u k o ≡ outcome_of u k o (Ok [])) (sym o_is) here)
      in
      let real : e.call.real.reply ≡ answer u (sizes_of u k called) k called =
      sure-by u e.call.real.agent e.call.real.op e.call.real.reply e.gone e.call.call.agrees ((λ i. is_disk_op u (j_is i) (o_is i)) ∙ never) there
      ∙ (λ i. answer u (sizes_of u (j_is i) (o_is i)) (j_is i) (o_is i))
      in
      unread-is answered (answer u (sizes_of u k called) k called)
      (ap (λ (x : Entry). x.reply) e.call.alike ∙ ap unread real ∙ unread-plain (answer u (sizes_of u k called) k called) plain) plain

-- What gives nothing leaves the agent.
pub stopped-own : {O T : Type 0} (tells : Type 0) (before after : AgentSeen O) (called : Op) (Gives : T → Reply → Gift → Type 0) (why : Stop) → IsAgent tells before → asks_nobody called ≡ true
    → Shared tells before after called Gives (Err why) → own_agent after ≡ own_agent before
stopped-own tells before after called Gives (stop.No r) kept nobody h = refused-own tells before after kept called (reply.No r) h.given h.entered refl nobody
stopped-own tells before after called Gives stop.NoMemory kept nobody h = looked-own before after h

-- ---- local calls

module _ {O : Type 0} (tells : Type 0) (before after : AgentSeen O) (kept : IsAgent tells before) (called : Op) (answered : Reply) (made : ℕ)
    (local : IsLocal tells before called answered made) (is : IsKept before after called answered made) where
  -- The agent that a local call leaves.
  pub kept-own : own_agent after ≡ agent_of (step (state_of before) before.pass.agent called).after before.pass.agent
  kept-own =
      ap (λ (a : AgentSeen O). own_agent a) is
      ∙ ap (λ u. agent_of u before.pass.agent) (state-after tells before kept called answered made local ∙ after-step tells before kept called answered made local)

  pub kept-moved : IsMoved (own_agent before) called (own_agent after)
  kept-moved =
      subst (IsMoved (own_agent before) called)
      (sym (ap (λ (a : AgentSeen O). own_agent a) is ∙ ap (λ u. agent_of u before.pass.agent) (state-after tells before kept called answered made local)))
      (kept-moves tells before kept called answered made local)
