-- The entries of an agent behind its calls.
use Rattle.std.proofs.Common.{◌≡◌, ◌≢◌, ℕ, ◌==◌, Bool, true, false, cond, All, List, [], ◌∷◌, ◌++◌, append_assoc, append-nil, map, refl, sym, ap, ◌∙◌, subst}
use Rattle.std.proofs.lemmas.Bool.{eq-eqb, eqb-true}
use Rattle.std.proofs.lemmas.List.Elements.{All-head, All-tail, filter-append}
use Rattle.opfs_base.specs.Texts.{Text}
use Rattle.opfs_hist.specs.declared.entry.Entry.{Entry}
use Rattle.opfs_hist.specs.declared.op.Op.{Op}
use Rattle.opfs_hist.specs.declared.op.Op.TheVariants as op
use Rattle.opfs_hist.specs.declared.reply.Reply.{Reply}
use Rattle.opfs_hist.specs.declared.reply.Reply.TheVariants as reply
use Rattle.opfs_machine.specs.Runs.{eviction}
use Rattle.opfs_laws.specs.Histories.Opened.{added}
use Rattle.opfs_store.specs.declared.acts.acted.Gift.{Gift}
use Rattle.opfs_store.specs.Acts.Acting.{told_entry}
use Rattle.opfs_turns.specs.Agents.{AgentSeen, IsAgent, known}
use Rattle.opfs_turns.specs.Calls.{call_of, IsEntered, HasLooked, HasEnded, kept_entry}
use Rattle.opfs_turns.specs.Waiting.{IsTurned, HasBegun}
use Rattle.opfs_turns.specs.Asking.Locals.{IsMade}
use Rattle.opfs_turns.proofs.asking.Entered.{list, known-is}
use Rattle.opfs_script_run.specs.Runs.Running.{entries_of}
use Rattle.opfs_runner.specs.Stepping.{own_entries, IsWaitOf}

other-number : (a b : ℕ) → a ≢ b → (a == b) ≡ false
other-number a b apart = elim (a == b) as (λ t. (a == b) ≡ t → t ≡ false) [ true ↦ λ is. absurd (apart (eqb-true a b is)) | false ↦ λ is. refl ] refl

module _ (k : ℕ) where
  none-of : (es : List Entry) → All (λ e. e.agent ≢ k) es → entries_of k es ≡ []
  none-of [] all = refl
  none-of (e ∷ es) all =
      ap (λ (b : Bool). cond b (e ∷ entries_of k es) (entries_of k es)) (other-number e.agent k (All-head (λ x. x.agent ≢ k) e es all))
      ∙ none-of es (All-tail (λ x. x.agent ≢ k) e es all)

  one-of : (e : Entry) → e.agent ≡ k → entries_of k (e ∷ []) ≡ e ∷ []
  one-of e is = ap (λ (b : Bool). cond b (e ∷ []) []) (eq-eqb e.agent k is)

  joined : (xs ys : List Entry) → entries_of k (xs ++ ys) ≡ entries_of k xs ++ entries_of k ys
  joined xs ys = filter-append (λ (e : Entry). e.agent == k) xs ys

  evictions : k ≢ 0 → (gone : List Text) → entries_of k (map eviction gone) ≡ []
  evictions real [] = refl
  evictions real (unit ∷ gone) =
      ap (λ (b : Bool). cond b (eviction unit ∷ entries_of k (map eviction gone)) (entries_of k (map eviction gone))) (other-number 0 k (λ is. real (sym is)))
      ∙ evictions real gone

  -- A turn adds the one entry to the agent's own.
  pub turn-entries : (base others pend : List Entry) (gone : List Text) (e : Entry) → k ≢ 0 → All (λ x. x.agent ≢ k) others → e.agent ≡ k
      → entries_of k ((base ++ others) ++ added pend gone e) ≡ entries_of k (base ++ pend) ++ e ∷ []
  turn-entries base others pend gone e real apart mine =
      joined (base ++ others) (added pend gone e)
      ∙ (λ i. joined base others i ++ joined pend (map eviction gone ++ e ∷ []) i)
      ∙ (λ i. (entries_of k base ++ none-of others apart i) ++ (entries_of k pend ++ joined (map eviction gone) (e ∷ []) i))
      ∙ (λ i. append-nil (entries_of k base) i ++ (entries_of k pend ++ (evictions real gone i ++ one-of e mine i)))
      ∙ sym (append_assoc (entries_of k base) (entries_of k pend) (e ∷ []))
      ∙ ap (λ xs. xs ++ e ∷ []) (sym (joined base pend))

  pub look-entries : (base others pend : List Entry) → All (λ x. x.agent ≢ k) others → entries_of k ((base ++ others) ++ pend) ≡ entries_of k (base ++ pend)
  look-entries base others pend apart =
      joined (base ++ others) pend
      ∙ (λ i. joined base others i ++ entries_of k pend)
      ∙ (λ i. (entries_of k base ++ none-of others apart i) ++ entries_of k pend)
      ∙ (λ i. append-nil (entries_of k base) i ++ entries_of k pend)
      ∙ sym (joined base pend)

-- Said of the agent that is left.
at-agent : (P : ℕ → List Entry → Type 0) (k j : ℕ) (es fs : List Entry) → j ≡ k → fs ≡ es → P k es → P j fs
at-agent P k j es fs a b h = subst (λ (x : ℕ × List Entry). P x.0 x.1) (sym (λ i. (a i, b i))) h

module _ {O : Type 0} where
  pub looked-own : (a b : AgentSeen O) → HasLooked a b → own_entries b ≡ own_entries a
  looked-own a b h =
      let known_is : known b ≡ (a.pass.base ++ h.others) ++ a.pending = (λ i. h.grown i ++ (h.rest i).pending) in
      at-agent (λ k es. entries_of k es ≡ own_entries a) a.pass.agent b.pass.agent ((a.pass.base ++ h.others) ++ a.pending) (known b)
      (ap (λ (x : AgentSeen O). x.pass.agent) h.rest) known_is (look-entries a.pass.agent a.pass.base h.others a.pending h.apart)

  pub turned-own : (tells : Type 0) (a b : AgentSeen O) (called : Op) (answered : Reply) → a.pass.agent ≢ 0 → IsTurned tells a b called answered → b.pass.agent ≡ a.pass.agent → b.pending ≡ []
      → own_entries b ≡ own_entries a ++ told_entry (call_of a called) answered ∷ []
  turned-own tells a b called answered real h agent pending =
      let e = told_entry (call_of a called) answered in
      let known_is : known b ≡ (a.pass.base ++ h.others) ++ added a.pending h.gone e = ap (λ xs. b.pass.base ++ xs) pending ∙ append-nil b.pass.base ∙ h.grown in
      at-agent (λ k es. entries_of k es ≡ own_entries a ++ e ∷ []) a.pass.agent b.pass.agent ((a.pass.base ++ h.others) ++ added a.pending h.gone e) (known b)
      agent known_is (turn-entries a.pass.agent a.pass.base h.others a.pending h.gone e real h.apart refl)

  pub entered-own : (tells : Type 0) (a b : AgentSeen O) (kept : IsAgent tells a) (called : Op) (answered : Reply) (given : Gift) → IsEntered tells a b called answered given
      → own_entries b ≡ own_entries a ++ told_entry (call_of a called) answered ∷ []
  entered-own tells a b kept called answered given h =
      let e = told_entry (call_of a called) answered in
      at-agent (λ k es. entries_of k es ≡ own_entries a ++ e ∷ []) a.pass.agent b.pass.agent (list tells a b kept called answered given h) (known b)
      (ap (λ (x : AgentSeen O). x.pass.agent) h.rest) (known-is tells a b kept called answered given h)
      (turn-entries a.pass.agent a.pass.base h.others a.pending h.gone e kept.real h.apart refl)

  pub made-own : (tells : Type 0) (a b : AgentSeen O) (called : Op) (answered : Reply) (made : ℕ) → IsMade tells a b called answered made → own_entries b ≡ own_entries a ++ kept_entry a called answered ∷ []
  made-own tells a b called answered made h =
      let e = kept_entry a called answered in
      let known_is : known b ≡ known a ++ e ∷ [] = ap (λ (x : AgentSeen O). x.pass.base ++ x.pending) h.kept ∙ sym (append_assoc a.pass.base a.pending (e ∷ [])) in
      at-agent (λ k es. entries_of k es ≡ own_entries a ++ e ∷ []) a.pass.agent b.pass.agent (known a ++ e ∷ []) (known b)
      (ap (λ (x : AgentSeen O). x.pass.agent) h.kept) known_is
      (joined a.pass.agent (known a) (e ∷ []) ∙ ap (λ xs. own_entries a ++ xs) (one-of a.pass.agent e refl))

  -- An end.
  pub ended-own : (tells : Type 0) (a : AgentSeen O) (pass : _) (h : HasEnded tells a pass) → a.pass.agent ≢ 0
      → entries_of a.pass.agent pass.base ≡ own_entries a ++ told_entry (call_of a op.End) h.answered ∷ []
  ended-own tells a pass h real =
      ap (entries_of a.pass.agent) h.grown
      ∙ turn-entries a.pass.agent a.pass.base h.others a.pending h.gone (told_entry (call_of a op.End) h.answered) real h.apart refl

  -- ---- by the clause of a call

  module _ (tells : Type 0) (a b : AgentSeen O) (kept : IsAgent tells a) (o : Op) where
    pub begun-wait : (tag : Text) → o ≡ op.Await tag → HasBegun tells a b tag → IsWaitOf a.number o (own_entries a) (own_entries b)
    begun-wait tag is h = record {
      tag = tag;
      await_is = is;
      wait = told_entry (call_of h.first (op.Wait tag)) reply.Done;
      wait_is = refl;
      number = ap (λ (x : AgentSeen O). x.number) h.looked.rest;
      grown =
          looked-own h.then_on b h.since
          ∙ turned-own tells h.first h.then_on (op.Wait tag) reply.Done (λ zero_is. kept.real (sym (ap (λ (x : AgentSeen O). x.pass.agent) h.looked.rest) ∙ zero_is)) h.wait.turned
          (ap (λ (x : AgentSeen O). x.pass.agent) h.wait.rest) (ap (λ (x : AgentSeen O). x.pending) h.wait.rest)
          ∙ ap (λ xs. xs ++ told_entry (call_of h.first (op.Wait tag)) reply.Done ∷ []) (looked-own a h.first h.looked);
    }
