-- Local calls that leave all own rows as they were: refused ones, a close of what is closed, and a part of a snapshot.
use Rattle.std.proofs.Common.{◌≡◌, ℕ, Bool, true, false, Option, Some, None, Err, refl, sym, ap, ◌∙◌, subst}
use Rattle.std.proofs.lemmas.Bool.{false≢true}
use Rattle.opfs_base.specs.Texts.{Text}
use Rattle.opfs_hist.specs.declared.op.Op.{Op}
use Rattle.opfs_hist.specs.declared.op.Op.TheVariants as op
use Rattle.opfs_hist.specs.declared.reply.Reply.{Reply}
use Rattle.opfs_hist.specs.declared.reply.Reply.TheVariants as reply
use Rattle.opfs_machine.specs.declared.own.HandleOutline.{HandleOutline}
use Rattle.opfs_machine.specs.declared.own.Own.{Own}
use Rattle.opfs_machine.specs.declared.state.Agent.{Agent}
use Rattle.opfs_machine.specs.declared.state.State.{State}
use Rattle.opfs_machine.specs.Agents.{agent_of, own_of, counted, open_handle, handle_in, of_row}
use Rattle.opfs_machine.specs.Contents.{in_bytes, outline_of}
use Rattle.opfs_machine.specs.Effects.{effect, refused, closes_handle}
use Rattle.opfs_machine.specs.Histories.{asks_stuck}
use Rattle.opfs_machine.specs.Replies.{sizes_of}
use Rattle.opfs_machine.specs.Steps.{step, is_refusal}
use Rattle.opfs_laws.proofs.Left.{local-plain}
use Rattle.opfs_laws.proofs.histories.Reading.{refuses-same}
use Rattle.opfs_turns.specs.Agents.{AgentSeen, IsAgent, state_of, own_row}
use Rattle.opfs_turns.specs.Asking.Locals.{IsMade, Local, Stopped}
use Rattle.opfs_turns.specs.Asking.Rows.{HasSnapshot, SnapshotSeen, HasClosedHandle, HasClosedStream}
use Rattle.opfs_turns.specs.declared.asking.stop.Stop.{Stop}
use Rattle.opfs_turns.specs.declared.asking.stop.Stop.TheVariants as stop
use Rattle.opfs_turns.proofs.asking.Granted.{local-after}
use Rattle.opfs_turns.proofs.asking.Rowed.{own_agent, kept-own}

not-stuck : (s : State Text Own) (k : ℕ) (o : Op) → asks_stuck o ≡ false → refused s k o ≡ s
not-stuck s k (op.Await tag) h = absurd (false≢true (sym h))
not-stuck s k o h = refl

abbrev Told : State Text Own → ℕ → Op → Bool → State Text Own
Told s k o x = counted (elim x as (λ b. State Text Own) [ true ↦ refused s k o | false ↦ effect in_bytes s (sizes_of s k o) k o ]) k

module _ {O : Type 0} (tells : Type 0) (a b : AgentSeen O) (kept : IsAgent tells a) where
  abbrev s : State Text Own
  s = state_of a

  abbrev k : ℕ
  k = a.pass.agent

  module _ (o : Op) (answered : Reply) (made : ℕ) (h : IsMade tells a b o answered made) where
    -- A call that leaves its agent in the state leaves it.
    rests-by : ((x : Bool) → is_refusal (step (state_of a) a.pass.agent o).answered ≡ x → agent_of (Told (state_of a) a.pass.agent o x) a.pass.agent ≡ agent_of (state_of a) a.pass.agent)
        → own_agent b ≡ own_agent a
    rests-by same =
        kept-own tells a b kept o answered made h.local h.kept
        ∙ ap (λ u. agent_of u a.pass.agent) (local-after (state_of a) a.pass.agent o h.local.local)
        ∙ same (is_refusal (step (state_of a) a.pass.agent o).answered) refl

    pub refused-rests : is_refusal answered ≡ true → own_agent b ≡ own_agent a
    refused-rests is = rests-by by_test
      where
        told : is_refusal (step (state_of a) a.pass.agent o).answered ≡ true
        told = sym (refuses-same (step (state_of a) a.pass.agent o).answered) ∙ ap is_refusal (sym h.local.alike) ∙ refuses-same answered ∙ is

        by_test : (x : Bool) → is_refusal (step (state_of a) a.pass.agent o).answered ≡ x → agent_of (Told (state_of a) a.pass.agent o x) a.pass.agent ≡ agent_of (state_of a) a.pass.agent
        by_test true e = ap (λ u. agent_of u a.pass.agent) (not-stuck (state_of a) a.pass.agent o (local-plain (state_of a) a.pass.agent o h.local.local).1)
        by_test false e = absurd (false≢true (sym e ∙ told))

  -- A refused one, or one without memory, leaves what is closed.
  pub refused-closed-stream : (o : Op) (why : Stop) (n : ℕ) → Stopped tells a b o why → HasClosedStream a n → HasClosedStream b n
  refused-closed-stream o (stop.No r) n h closed = ap (λ (x : Agent Own). own_of x n) (refused-rests o (reply.No r) 0 h refl) ∙ closed
  refused-closed-stream o stop.NoMemory n same closed = ap (λ (x : AgentSeen O). own_row x n) same ∙ closed

  pub refused-closed-handle : (o : Op) (why : Stop) (n : ℕ) → Stopped tells a b o why → HasClosedHandle a n → HasClosedHandle b n
  refused-closed-handle o (stop.No r) n h closed = ap (λ (x : Agent Own). own_of x n) (refused-rests o (reply.No r) 0 h refl) ∙ closed
  refused-closed-handle o stop.NoMemory n same closed = ap (λ (x : AgentSeen O). own_row x n) same ∙ closed

  slice-rests : (n at len : ℕ) (answered : Reply) (made : ℕ) → IsMade tells a b (op.Slice n at len) answered made → own_agent b ≡ own_agent a
  unfolding effect
  slice-rests n at len answered made h = rests-by (op.Slice n at len) answered made h by_test
    where
      by_test : (x : Bool) → is_refusal (step (state_of a) a.pass.agent (op.Slice n at len)).answered ≡ x
          → agent_of (Told (state_of a) a.pass.agent (op.Slice n at len) x) a.pass.agent ≡ agent_of (state_of a) a.pass.agent
      by_test true e = refl
      by_test false e = refl

  -- A part of a snapshot leaves it.
  pub sliced : (x : SnapshotSeen) (n at len : ℕ) (answered : Reply) (made : ℕ) → IsMade tells a b (op.Slice n at len) answered made → HasSnapshot tells a x → HasSnapshot tells b x
  sliced x n at len answered made h has = record {
    bytes = has.bytes;
    there = ap (λ (y : Agent Own). own_of y x.row) (slice-rests n at len answered made h) ∙ has.there;
    size = has.size;
    told = has.told;
  }

  -- So does one that gives nothing.
  pub sliced-not : (Gives : Unit {0} → Reply → Type 0) (why : Stop) (x : SnapshotSeen) (n at len : ℕ) → Local tells a b (op.Slice n at len) 0 Gives (Err why) → HasSnapshot tells a x → HasSnapshot tells b x
  sliced-not Gives (stop.No r) x n at len h has = sliced x n at len (reply.No r) 0 h has
  sliced-not Gives stop.NoMemory x n at len same has = subst (λ (y : AgentSeen O). HasSnapshot tells y x) (sym same) has

  closes-none : (n : ℕ) (h : Option HandleOutline) → h ≡ None → closes_handle in_bytes (state_of a) a.pass.agent n h ≡ state_of a
  closes-none n None is = refl
  closes-none n (Some h) is = absurd cc

  again-rests : (n : ℕ) (answered : Reply) (made : ℕ) → HasClosedHandle a n → IsMade tells a b (op.SyncClose n) answered made → own_agent b ≡ own_agent a
  unfolding effect
  again-rests n answered made closed h = rests-by (op.SyncClose n) answered made h by_test
    where
      none : open_handle in_bytes (state_of a) a.pass.agent n ≡ None
      none = ap (of_row (λ r. handle_in (outline_of r))) closed

      by_test : (x : Bool) → is_refusal (step (state_of a) a.pass.agent (op.SyncClose n)).answered ≡ x
          → agent_of (Told (state_of a) a.pass.agent (op.SyncClose n) x) a.pass.agent ≡ agent_of (state_of a) a.pass.agent
      by_test true e = refl
      by_test false e = ap (λ u. agent_of u a.pass.agent) (closes-none n (open_handle in_bytes (state_of a) a.pass.agent n) none)

  -- A close again leaves what is closed.
  pub closed-again : (n : ℕ) (answered : Reply) (made : ℕ) → HasClosedHandle a n → IsMade tells a b (op.SyncClose n) answered made → HasClosedHandle b n
  closed-again n answered made closed h = ap (λ (x : Agent Own). own_of x n) (again-rests n answered made closed h) ∙ closed
