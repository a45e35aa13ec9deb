-- An await over its turns.
use Rattle.std.proofs.Common.{◌≡◌, ◌≢◌, ◌⊎◌, ℕ, true, All, [], ◌++◌, append-nil, append_assoc, refl, sym, ap, ◌∙◌, subst, inl, inr, arith}
use Rattle.std.specs.Cmp.Lexicographic.{nat_list_eq_equiv}
use Rattle.std.proofs.lemmas.Bool.{false≢true}
use Rattle.std.proofs.lemmas.List.Elements.{All-append, All-nil}
use Rattle.opfs_base.specs.Texts.{Text}
use Rattle.opfs_hist.specs.declared.reply.Reply.{Reply}
use Rattle.opfs_machine.specs.Agents.{waits_for}
use Rattle.opfs_laws.specs.Leaving.{seen_by}
use Rattle.opfs_turns.specs.Agents.{AgentSeen, state_of}
use Rattle.opfs_turns.specs.Calls.{HasRoom, HasLooked}
use Rattle.opfs_turns.specs.Waiting.{HasWaitRoom, HasBegun, HasWaited, HasAwaited, IsLooking, IsWaiting, IsAwaited}

module _ {O : Type 0} where
  pub looked-self : (a : AgentSeen O) → HasLooked a a
  looked-self a = record { others = []; apart = All-nil (λ e. e.agent ≢ a.pass.agent); grown = sym (append-nil a.pass.base); own = refl; rest = refl }

  agent-kept : (a b : AgentSeen O) → HasLooked a b → b.pass.agent ≡ a.pass.agent
  agent-kept a b h = ap (λ x. x.pass.agent) h.rest

  pub looked-on : (a b c : AgentSeen O) → HasLooked a b → HasLooked b c → HasLooked a c
  looked-on a b c one two = record {
    others = one.others ++ two.others;
    apart =
        All-append (λ e. e.agent ≢ a.pass.agent) one.others two.others one.apart
        (subst (λ (k : ℕ). All (λ e. e.agent ≢ k) two.others) (agent-kept a b one) two.apart);
    grown = two.grown ∙ ap (λ xs. xs ++ two.others) one.grown ∙ append_assoc a.pass.base one.others two.others;
    own = subst (λ (k : ℕ). seen_by (state_of c) k ≡ seen_by (state_of b) k) (agent-kept a b one) two.own ∙ one.own;
    rest = two.rest ∙ (λ i. record (one.rest i) { pass = record (one.rest i).pass { base = c.pass.base } });
  }

  module _ (tells : Type 0) (tag : Text) where
    begun-waits : (a b : AgentSeen O) → HasBegun tells a b tag → waits_for b.waiting tag ≡ true
    begun-waits a b h = ap (λ x. waits_for x.waiting tag) h.since.rest ∙ ap (λ x. waits_for x.waiting tag) h.wait.rest ∙ nat_list_eq_equiv.refl tag

    pub waited-looked : (a b c : AgentSeen O) → HasWaited tells a b tag → HasLooked b c → HasWaited tells a c tag
    waited-looked a b c (inl looked) then_on = inl (looked-on a b c looked then_on)
    waited-looked a b c (inr h) then_on = inr (record { first = h.first; then_on = h.then_on; looked = h.looked; wait = h.wait; since = looked-on h.then_on b c h.since then_on })

    pub waited-step : (a b c : AgentSeen O) → HasWaited tells a b tag → (IsLooking b c tag ⊎ IsWaiting tells b c tag) → HasWaited tells a c tag
    waited-step a b c h (inl looked) = waited-looked a b c h looked.looked
    waited-step a b c (inl looked) (inr wait) = inr (record { first = b; then_on = c; looked = looked; wait = wait; since = looked-self c })
    waited-step a b c (inr h) (inr wait) = absurd (false≢true (sym wait.first ∙ begun-waits a b h))

    pub waited-room : (a b : AgentSeen O) → HasRoom a → HasWaited tells a b tag → HasWaitRoom b
    waited-room a b room (inl looked) = record { rows = omega (arith, room.rows, ap (λ x. x.rows) looked.rest); entries = omega (arith, room.entries, ap (λ x. x.entries) looked.rest) }
    waited-room a b room (inr h) = record {
      rows = omega (arith, room.rows, ap (λ x. x.rows) h.looked.rest, ap (λ x. x.rows) h.wait.rest, ap (λ x. x.rows) h.since.rest);
      entries = omega (arith, room.entries, ap (λ x. x.entries) h.looked.rest, ap (λ x. x.entries) h.wait.rest, ap (λ x. x.entries) h.since.rest);
    }

    pub waited-done : (a b c : AgentSeen O) (answered : Reply) → HasWaited tells a b tag → IsAwaited tells b c tag answered → HasAwaited tells a c tag answered
    waited-done a b c answered h awaited = record { mid = b; waited = h; awaited = awaited }
