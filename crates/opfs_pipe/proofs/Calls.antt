-- The calls of an agent behind one more.
use Rattle.std.proofs.Common.{◌≡◌, ◌≢◌, ℕ, ◌==◌, Bool, true, false, cond, All, List, [], ◌∷◌, ◌++◌, append_assoc, append-nil, map, refl, sym, ap, ◌∙◌, subst}
use Rattle.std.specs.List.{filter}
use Rattle.std.proofs.lemmas.Bool.{eq-eqb, eqb-true}
use Rattle.std.proofs.lemmas.List.Elements.{All-head, All-tail, filter-append}
use Rattle.opfs_store.specs.declared.acts.acted.Gift.{Gift}
use Rattle.opfs_store.specs.Acts.Acting.{told_entry}
use Rattle.opfs_base.specs.Texts.{Text}
use Rattle.opfs_turns.specs.Asking.Locals.{IsMade}
use Rattle.opfs_turns.proofs.asking.Entered.{list, known-is}
use Rattle.opfs_hist.specs.declared.entry.Entry.{Entry}
use Rattle.opfs_hist.specs.declared.op.Op.{Op}
use Rattle.opfs_hist.specs.declared.reply.Reply.{Reply}
use Rattle.opfs_laws.specs.Histories.Opened.{added}
use Rattle.opfs_machine.specs.Runs.{eviction}
use Rattle.opfs_turns.specs.Agents.{AgentSeen, IsAgent, known}
use Rattle.opfs_turns.specs.Calls.{call_of, IsEntered, HasLooked, kept_entry}
use Rattle.opfs_pipe.specs.Streams.{calls_of, told_in}

other-number : (a b : ℕ) → a ≢ b → (a == b) ≡ false
other-number a b apart = elim (a == b) as (λ t. (a == b) ≡ t → t ≡ false) [ true ↦ λ is. absurd (apart (eqb-true a b is)) | false ↦ λ is. refl ] refl

abbrev own_in : ℕ → List Entry → List Entry
own_in k es = filter (λ e. e.agent == k) es

module _ (k : ℕ) where
  none-of : (es : List Entry) → All (λ e. e.agent ≢ k) es → own_in k es ≡ []
  none-of [] all = refl
  none-of (e ∷ es) all =
      ap (λ (b : Bool). cond b (e ∷ own_in k es) (own_in k es)) (other-number e.agent k (All-head (λ x. x.agent ≢ k) e es all))
      ∙ none-of es (All-tail (λ x. x.agent ≢ k) e es all)

  one-of : (e : Entry) → e.agent ≡ k → own_in k (e ∷ []) ≡ e ∷ []
  one-of e is = ap (λ (b : Bool). cond b (e ∷ []) []) (eq-eqb e.agent k is)

  joined : (xs ys : List Entry) → own_in k (xs ++ ys) ≡ own_in k xs ++ own_in k ys
  joined xs ys = filter-append (λ (e : Entry). e.agent == k) xs ys

  evictions : k ≢ 0 → (gone : List Text) → own_in k (map eviction gone) ≡ []
  evictions real [] = refl
  evictions real (unit ∷ gone) =
      ap (λ (b : Bool). cond b (eviction unit ∷ own_in k (map eviction gone)) (own_in k (map eviction gone))) (other-number 0 k (λ is. real (sym is)))
      ∙ evictions real gone

  turn-entries : (base others pend : List Entry) (gone : List Text) (e : Entry) → k ≢ 0 → All (λ x. x.agent ≢ k) others → e.agent ≡ k
      → own_in k ((base ++ others) ++ added pend gone e) ≡ own_in k (base ++ pend) ++ e ∷ []
  turn-entries base others pend gone e real apart mine =
      joined (base ++ others) (added pend gone e)
      ∙ (λ i. joined base others i ++ joined pend (map eviction gone ++ e ∷ []) i)
      ∙ (λ i. (own_in k base ++ none-of others apart i) ++ (own_in k pend ++ joined (map eviction gone) (e ∷ []) i))
      ∙ (λ i. append-nil (own_in k base) i ++ (own_in k pend ++ (evictions real gone i ++ one-of e mine i)))
      ∙ sym (append_assoc (own_in k base) (own_in k pend) (e ∷ []))
      ∙ ap (λ xs. xs ++ e ∷ []) (sym (joined base pend))

  look-entries : (base others pend : List Entry) → All (λ x. x.agent ≢ k) others → own_in k ((base ++ others) ++ pend) ≡ own_in k (base ++ pend)
  look-entries base others pend apart =
      joined (base ++ others) pend
      ∙ (λ i. joined base others i ++ own_in k pend)
      ∙ (λ i. (own_in k base ++ none-of others apart i) ++ own_in k pend)
      ∙ (λ i. append-nil (own_in k base) i ++ own_in k pend)
      ∙ sym (joined base pend)

at-agent : (P : ℕ → List Entry → Type 0) (k j : ℕ) (es fs : List Entry) → j ≡ k → fs ≡ es → P k es → P j fs
at-agent P k j es fs a b h = subst (λ (x : ℕ × List Entry). P x.0 x.1) (sym (λ i. (a i, b i))) h

told-more : (es : List Entry) (e : Entry) → map told_in (es ++ e ∷ []) ≡ map told_in es ++ told_in e ∷ []
told-more [] e = refl
told-more (x ∷ es) e = ap (λ ts. told_in x ∷ ts) (told-more es e)

abbrev own_entries : {O : Type 0} → AgentSeen O → List Entry
own_entries a = own_in a.pass.agent (known a)

module _ {O : Type 0} (tells : Type 0) (a b : AgentSeen O) where
  pub calls-looked : HasLooked a b → calls_of b ≡ calls_of a
  calls-looked h =
      let known_is : known b ≡ (a.pass.base ++ h.others) ++ a.pending = (λ i. h.grown i ++ (h.rest i).pending) in
      let own : own_entries b ≡ own_entries a =
      at-agent (λ k es. own_in k es ≡ own_entries a) a.pass.agent b.pass.agent ((a.pass.base ++ h.others) ++ a.pending) (known b)
      (ap (λ (x : AgentSeen O). x.pass.agent) h.rest) known_is (look-entries a.pass.agent a.pass.base h.others a.pending h.apart)
      in
      ap (map told_in) own

  module _ (kept : IsAgent tells a) (called : Op) (answered : Reply) where
    pub calls-entered : (given : Gift) → IsEntered tells a b called answered given → calls_of b ≡ calls_of a ++ (called, answered) ∷ []
    calls-entered given h =
        let e = told_entry (call_of a called) answered in
        let own : own_entries b ≡ own_entries a ++ e ∷ [] =
        at-agent (λ k es. own_in k es ≡ own_entries a ++ e ∷ []) a.pass.agent b.pass.agent (list tells a b kept called answered given h) (known b)
        (ap (λ (x : AgentSeen O). x.pass.agent) h.rest) (known-is tells a b kept called answered given h)
        (turn-entries a.pass.agent a.pass.base h.others a.pending h.gone e kept.real h.apart refl)
        in
        ap (map told_in) own ∙ told-more (own_entries a) e

    pub calls-made : (made : ℕ) → IsMade tells a b called answered made → calls_of b ≡ calls_of a ++ (called, answered) ∷ []
    calls-made made h =
        let e = kept_entry a called answered in
        let known_is : known b ≡ known a ++ e ∷ [] = ap (λ (x : AgentSeen O). x.pass.base ++ x.pending) h.kept ∙ sym (append_assoc a.pass.base a.pending (e ∷ [])) in
        let own : own_entries b ≡ own_entries a ++ e ∷ [] =
        at-agent (λ k es. own_in k es ≡ own_entries a ++ e ∷ []) a.pass.agent b.pass.agent (known a ++ e ∷ []) (known b)
        (ap (λ (x : AgentSeen O). x.pass.agent) h.kept) known_is
        (joined a.pass.agent (known a) (e ∷ []) ∙ ap (λ xs. own_entries a ++ xs) (one-of a.pass.agent e refl))
        in
        ap (map told_in) own ∙ told-more (own_entries a) e
