-- A call that makes a row leaves its agent with one more.
use Rattle.std.proofs.Common.{◌≡◌, ℕ, zero, suc, ◌+◌, [], ◌∷◌, length, fold, Option, Some, None, refl, sym, ap, ◌∙◌}
use Rattle.std.proofs.lemmas.List.{length-append}
use Rattle.opfs_base.specs.Places.{Place, place_of}
use Rattle.opfs_base.specs.Texts.{Text}
use Rattle.opfs_base.specs.declared.locator.Locator.{Locator}
use Rattle.opfs_hist.specs.declared.op.Mode.{Mode}
use Rattle.opfs_locks.specs.declared.Want.TheVariants as want
use Rattle.opfs_hist.specs.declared.op.Op.{Op}
use Rattle.opfs_hist.specs.declared.op.Op.TheVariants as op
use Rattle.opfs_hist.specs.declared.reply.Reply.{Reply}
use Rattle.opfs_machine.specs.declared.own.Own.{Own}
use Rattle.opfs_machine.specs.declared.own.Own.TheVariants as own
use Rattle.opfs_machine.specs.declared.state.Agent.{Agent}
use Rattle.opfs_machine.specs.declared.state.FileRow.{FileRow}
use Rattle.opfs_machine.specs.declared.state.State.{State}
use Rattle.opfs_machine.specs.Agents.{agent_of, adds_own}
use Rattle.opfs_machine.specs.Contents.{in_bytes}
use Rattle.opfs_machine.specs.Effects.{effect, opens_stream, takes_snapshot, with_lock}
use Rattle.opfs_machine.specs.Replies.{sizes_of}
use Rattle.opfs_machine.specs.Rows.{file_at, with_file}
use Rattle.opfs_machine.specs.Rulings.{first_reserve, want_of}
use Rattle.opfs_machine.specs.Steps.{evicted}
use Rattle.opfs_laws.proofs.Numbers.{IsNumber}
use Rattle.opfs_store.specs.declared.acts.acted.Gift.{Gift}
use Rattle.opfs_turns.specs.Agents.{AgentSeen, IsAgent}
use Rattle.opfs_turns.specs.Asking.Answers.{HasAnswer}
use Rattle.opfs_turns.proofs.asking.Answered.{judged-there}
use Rattle.opfs_turns.proofs.asking.Entered.{s, t, number, allowed, agent-same}
use Rattle.opfs_turns.proofs.asking.Rowed.{accepted-own, granted-none}
use Rattle.opfs_turns.proofs.asking.RowsAfter.{own-added}
use Rattle.opfs_agent.proofs.Located.{file-ruled}

agent-file : (u : State Text Own) (p : Place) (change : FileRow Text → FileRow Text) (k : ℕ) → agent_of (with_file u p change) k ≡ agent_of u k
agent-file u p change zero = refl
agent-file u p change (suc i) = refl

number-file : (u : State Text Own) (k : ℕ) (p : Place) (change : FileRow Text → FileRow Text) → IsNumber u k → IsNumber (with_file u p change) k
number-file u k p change h = record { index = h.index; is = h.is; within = h.within }

module _ (u : State Text Own) (k : ℕ) (numbered : IsNumber u k) where
  added-rows : (p : Place) (change : FileRow Text → FileRow Text) (r : Own) → length (agent_of (adds_own (with_file u p change) k r) k).own ≡ length (agent_of u k).own + 1
  added-rows p change r =
      ap length (own-added (with_file u p change) k (number-file u k p change numbered) r)
      ∙ length-append (agent_of (with_file u p change) k).own (r ∷ [])
      ∙ ap (λ (a : Agent Own). length a.own + 1) (agent-file u p change k)

  stream-rows : (p : Place) (reserve : ℕ) (keep : _) (o : Option (FileRow Text)) (f : FileRow Text) → o ≡ Some f
      → length (agent_of (opens_stream in_bytes u k p reserve keep o) k).own ≡ length (agent_of u k).own + 1
  stream-rows p reserve keep None f is = absurd cc
  stream-rows p reserve keep (Some g) f is = added-rows p (with_lock want.Shared) _

  snapshot-rows : (o : Option (FileRow Text)) (f : FileRow Text) → o ≡ Some f → length (agent_of (takes_snapshot in_bytes u k o) k).own ≡ length (agent_of u k).own + 1
  snapshot-rows None f is = absurd cc
  snapshot-rows (Some g) f is = ap length (own-added u k numbered (own.Snapshot g.present)) ∙ length-append (agent_of u k).own (own.Snapshot g.present ∷ [])

module _ {O T : Type 0} (tells : Type 0) (a b : AgentSeen O) (kept : IsAgent tells a) (then : IsAgent tells b) (Gives : T → Reply → Gift → Type 0) (x : T) where
  -- One row more in the state is one more of the agent.
  grown : (o : Op) (h : HasAnswer tells a b o Gives x)
      → length (agent_of (effect in_bytes (t tells a b kept o h.answered h.given h.entered) (sizes_of (t tells a b kept o h.answered h.given h.entered) a.pass.agent o) a.pass.agent o) a.pass.agent).own
      ≡ length (agent_of (t tells a b kept o h.answered h.given h.entered) a.pass.agent).own + 1
      → b.rows ≡ a.rows + 1
  grown o h more =
      then.made
      ∙ ap (λ (y : Agent Own). length y.own) (accepted-own tells a b kept o h.answered h.given h.entered h.accepted)
      ∙ more
      ∙ ap (λ (y : Agent Own). length y.own + 1) (agent-same tells a b kept o h.answered h.given h.entered)
      ∙ ap (λ n. n + 1) (sym kept.made)

  pub stream-grown : (at : Locator) (keep : _) → HasAnswer tells a b (op.CreateWritable at keep) Gives x → b.rows ≡ a.rows + 1
  unfolding effect
  stream-grown at keep h =
      let o = op.CreateWritable at keep in
      let u = t tells a b kept o h.answered h.given h.entered in
      let given = allowed tells a b kept o h.answered h.given h.entered h.accepted in
      grown o h (stream-rows u a.pass.agent (number tells a b kept o h.answered h.given h.entered) (place_of at) (first_reserve in_bytes u at keep) keep (file_at u (place_of at)) given.held given.stands)

  pub handle-grown : (at : Locator) (mode : Mode) → HasAnswer tells a b (op.CreateSyncAccessHandle at mode) Gives x → b.rows ≡ a.rows + 1
  unfolding effect
  handle-grown at mode h =
      let o = op.CreateSyncAccessHandle at mode in
      let u = t tells a b kept o h.answered h.given h.entered in
      grown o h (added-rows u a.pass.agent (number tells a b kept o h.answered h.given h.entered) (place_of at) (with_lock (want_of mode)) _)

  pub snapshot-grown : (at : Locator) → HasAnswer tells a b (op.GetFile at) Gives x → b.rows ≡ a.rows + 1
  unfolding effect
  snapshot-grown at h =
      let o = op.GetFile at in
      let st = s tells a b kept o h.answered h.given h.entered in
      let u = t tells a b kept o h.answered h.given h.entered in
      let there = judged-there tells a b o Gives x h in
      let ruled = file-ruled st a.pass.agent at there.0 there.1 in
      let none : u ≡ st = ap (λ gone. fold evicted st gone) (granted-none tells a b kept o h.answered h.given h.entered h.accepted ruled.0) in
      grown o h (snapshot-rows u a.pass.agent (number tells a b kept o h.answered h.given h.entered) (file_at u (place_of at)) ruled.1.0
      (ap (λ (v : State Text Own). file_at v (place_of at)) none ∙ ruled.1.1))
