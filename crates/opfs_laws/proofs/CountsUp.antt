-- What a state counts of its history.
use Rattle.std.proofs.Common.{◌≡◌, ◌≢◌, ◌⊎◌, ℕ, ◌+◌, ◌==◌, suc, Bool, true, false, cond, if◌then◌else◌, List, [], ◌∷◌, ◌++◌, fold, length, Option, Some, None, unwrap_or, refl, sym, ap, ◌∙◌, subst, inl, inr, arith}
use Rattle.std.proofs.lemmas.Bool.{false≢true, eqb-true, eqb-false}
use Rattle.std.proofs.lemmas.List.Sums.{fold-append}
use Rattle.std.specs.Cmp.{tied_itself}
use Rattle.std.specs.Cmp.Lexicographic.{slice_cmp, nat_list_cmp_total, nat_list_eq_equiv, same_text as equal_texts}
use Rattle.std.specs.FinMap.{slice_cmp-IsAntisymmetric, nat_cmp-IsAntisymmetric}
use Rattle.std.specs.FinMap.Entries.{find, find-put}
use Rattle.std.specs.Ordering.{nat_cmp, is_eq, eq_by_cmp}
use Rattle.std.specs.declared.cmp.Ordering.{Ordering}
use Rattle.std.specs.declared.cmp.Ordering.TheVariants.{Less, Equal, Greater}
use Rattle.opfs_base.specs.Texts.{Text, same_text}
use Rattle.opfs_hist.specs.declared.entry.Entry.{Entry}
use Rattle.opfs_machine.specs.declared.own.Own.{Own}
use Rattle.opfs_machine.specs.declared.state.Agent.{Agent}
use Rattle.opfs_machine.specs.declared.state.State.{State}
use Rattle.opfs_machine.specs.Agents.{agent_of, last_use, used_now}
use Rattle.opfs_machine.specs.Histories.{evicted_by, LegalFrom, Legal, after_op, after_entry, state_after}
use Rattle.opfs_machine.specs.Openings.{Opening, begun}
use Rattle.opfs_machine.specs.Steps.{evicted, changed_by, after_reply}
use Rattle.opfs_laws.specs.Counting.{is_key, last_place, key_of, AStateCountsItsHistory}
use Rattle.opfs_laws.proofs.Acting.{changed-acts, acts-other}
use Rattle.opfs_laws.proofs.Going.{NextFrom}
use Rattle.opfs_laws.proofs.LocksEffect.{number-after}
use Rattle.opfs_laws.proofs.Moved.{changed-moves}
use Rattle.opfs_laws.proofs.Numbers.{IsNumber}

tied : (o : Ordering) → is_eq o ≡ true → o ≡ Equal
tied Less h = absurd (false≢true h)
tied Equal h = refl
tied Greater h = absurd (false≢true h)

-- Texts tie where they are the same.
text-ties : (a b : Text) → eq_by_cmp (slice_cmp nat_cmp) a b ≡ same_text a b
text-ties a b =
    elim (same_text a b) as (λ t. same_text a b ≡ t → eq_by_cmp (slice_cmp nat_cmp) a b ≡ t) [
      | true ↦ λ same. ap (λ x. eq_by_cmp (slice_cmp nat_cmp) x b) (equal_texts a b (sym same)) ∙ ap is_eq (tied_itself nat_list_cmp_total b)
      | false ↦ λ apart.
          elim (eq_by_cmp (slice_cmp nat_cmp) a b) as (λ t. eq_by_cmp (slice_cmp nat_cmp) a b ≡ t → t ≡ false) [
            | true ↦ λ is.
                let one = slice_cmp-IsAntisymmetric nat_cmp-IsAntisymmetric a b (tied (slice_cmp nat_cmp a b) is) in
                absurd (false≢true (sym apart ∙ ap (same_text a) (sym one) ∙ nat_list_eq_equiv.refl a))
            | false ↦ λ is. refl
          ] refl
    ] refl

used-by : (s : State Text Own) (key : Option Text) (origin : Text) (last : ℕ) → last_use s origin ≡ last
    → unwrap_or (find (slice_cmp nat_cmp) origin (used_now s key)) 0 ≡ (if is_key origin key then s.entries + 1 else last)
used-by s None origin last is = is
used-by s (Some key) origin last is =
    ap (λ o. unwrap_or o 0) (find-put (slice_cmp nat_cmp) nat_list_cmp_total origin key (s.entries + 1) s.used)
    ∙ ap (λ b. unwrap_or (cond b (Some (s.entries + 1)) (find (slice_cmp nat_cmp) origin s.used)) 0) (text-ties origin key)
    ∙ (elim (same_text origin key) as (λ b. unwrap_or (cond b (Some (s.entries + 1)) (find (slice_cmp nat_cmp) origin s.used)) 0 ≡ (if b then s.entries + 1 else last)) [
      | true ↦ refl
      | false ↦ is
    ])

same-or-not : (a b : ℕ) → (a ≡ b) ⊎ (a ≢ b)
same-or-not a b = elim (a == b) as (λ t. (a == b) ≡ t → (a ≡ b) ⊎ (a ≢ b)) [
  | true ↦ λ is. inl (eqb-true a b is)
  | false ↦ λ is. inr (eqb-false a b is)
] refl

module _ (o : Opening) (origin : Text) where
  record Counts (t : State Text Own) (at last : ℕ) : Type 0 where
    entries : t.entries ≡ at
    used : last_use t origin ≡ last
    keyed : (k : ℕ) → (agent_of t k).key ≡ key_of o k
    grants : (k : ℕ) → (agent_of t k).grant ≡ (agent_of (begun o) k).grant
    limits : t.limits ≡ o.limits

  evicted-counts : (t : State Text Own) (unit : Text) (at last : ℕ) → Counts t at last → Counts (evicted t unit) (at + 1) last
  evicted-counts t unit at last h = record { entries = ap (λ n. n + 1) h.entries; used = h.used; keyed = h.keyed; grants = h.grants; limits = h.limits }

  module _ (t : State Text Own) (e : Entry) (number : IsNumber t e.agent) where
    agent-seen : {A : Type 0} (part : Agent Own → A) → part (agent_of (changed_by t e.agent e.op e.reply) e.agent) ≡ part (agent_of t e.agent) → (k : ℕ)
        → part (agent_of (changed_by t e.agent e.op e.reply) k) ≡ part (agent_of t k)
    agent-seen part here k =
        elim (same-or-not k e.agent) as (λ c. part (agent_of (changed_by t e.agent e.op e.reply) k) ≡ part (agent_of t k)) [
          | inl same ↦ subst (λ j. part (agent_of (changed_by t e.agent e.op e.reply) j) ≡ part (agent_of t j)) (sym same) here
          | inr apart ↦ ap part (acts-other t e.agent number (changed_by t e.agent e.op e.reply) k (changed-acts t e.agent number e.op e.reply) apart)
        ]

    call-counts : (at last : ℕ) → Counts t at last → Counts (after_reply t e.agent e.op e.reply) (at + 1) (if is_key origin (key_of o e.agent) then at + 1 else last)
    call-counts at last h =
        let v = changed_by t e.agent e.op e.reply in
        let a = changed-acts t e.agent number e.op e.reply in
        let m = changed-moves t e.agent number e.op e.reply in
        let entries : v.entries ≡ at = a.entries ∙ h.entries in
        let key : (agent_of v e.agent).key ≡ key_of o e.agent = m.key ∙ h.keyed e.agent in
        let used : last_use v origin ≡ last = ap (λ used. unwrap_or (find (slice_cmp nat_cmp) origin used) 0) a.used ∙ h.used in
        record {
          entries = ap (λ n. n + 1) entries;
          used = used-by v (agent_of v e.agent).key origin last used ∙ (λ i. if is_key origin (key i) then entries i + 1 else last);
          keyed = λ k. agent-seen (λ x. x.key) m.key k ∙ h.keyed k;
          grants = λ k. agent-seen (λ x. x.grant) m.grant k ∙ h.grants k;
          limits = a.limits ∙ h.limits;
        }

  abbrev place_by : ℕ → ℕ → List Entry → Bool → ℕ
  place_by at last es b = last_place (key_of o) origin (at + 1) (if b then at + 1 else last) es

  one_more : (at n : ℕ) → at + 1 + n ≡ at + suc n
  one_more at n = omega arith

  plus_zero : (n : ℕ) → n ≡ n + 0
  plus_zero n = omega arith

  abbrev StepOn : State Text Own → List Text → Entry → List Entry → ℕ → ℕ → Option Text → Type 0
  StepOn s gone e es at last told =
      NextFrom s gone e es told → Counts (fold after_entry (after_op (fold evicted s gone) e told) es) (at + suc (length es)) (place_by at last es (is_key origin (key_of o e.agent)))

  counts-from : (s : State Text Own) (gone : List Text) (es : List Entry) (at last : ℕ) → LegalFrom s gone es → Counts (fold evicted s gone) at last
      → Counts (fold after_entry (fold evicted s gone) es) (at + length es) (last_place (key_of o) origin at last es)
  counts-from s gone [] at last legal h = subst (λ n. Counts (fold evicted s gone) n last) (plus_zero at) h
  counts-from s gone (e ∷ es) at last legal h =
      let t = fold evicted s gone in
      elim (evicted_by e.op) as (StepOn s gone e es at last) [
        | Some unit ↦ λ next.
            let there : Counts (fold evicted s (gone ++ unit ∷ [])) (at + 1) last =
            subst (λ x. Counts x (at + 1) last) (sym (fold-append evicted s gone (unit ∷ []))) (evicted-counts t unit at last h)
            in
            let rest = counts-from s (gone ++ unit ∷ []) es (at + 1) last next.1 there in
            let nobody : is_key origin (key_of o e.agent) ≡ false = ap (λ k. is_key origin (key_of o k)) next.0.agent in
            subst (λ b. Counts (fold after_entry (evicted t unit) es) (at + suc (length es)) (place_by at last es b)) (sym nobody)
            (subst (λ n. Counts (fold after_entry (evicted t unit) es) n (last_place (key_of o) origin (at + 1) last es)) (one_more at (length es))
            (subst (λ x. Counts (fold after_entry x es) (at + 1 + length es) (last_place (key_of o) origin (at + 1) last es)) (fold-append evicted s gone (unit ∷ [])) rest))
        | None ↦ λ next.
            let number = number-after s gone e.agent next.0.live in
            let after = after_reply t e.agent e.op e.reply in
            subst (λ n. Counts (fold after_entry after es) n (place_by at last es (is_key origin (key_of o e.agent)))) (one_more at (length es))
            (counts-from after [] es (at + 1) (if is_key origin (key_of o e.agent) then at + 1 else last) next.1 (call-counts t e number at last h))
      ] legal

  counts : (h : List Entry) → Legal o h → Counts (state_after o h) (0 + length h) (last_place (key_of o) origin 0 0 h)
  counts h legal = counts-from (begun o) [] h 0 0 legal (record { entries = refl; used = refl; keyed = λ k. refl; grants = λ k. refl; limits = refl })

zero_plus : (n : ℕ) → 0 + n ≡ n
zero_plus n = omega arith

pub state-counts : AStateCountsItsHistory
state-counts = record {
  entries = λ o h legal. (counts o [] h legal).entries ∙ zero_plus (length h);
  used = λ o h origin legal. (counts o origin h legal).used;
  keys = λ o h k legal. (counts o [] h legal).keyed k;
  grants = λ o h k legal. (counts o [] h legal).grants k;
  limits = λ o h legal. (counts o [] h legal).limits;
}
