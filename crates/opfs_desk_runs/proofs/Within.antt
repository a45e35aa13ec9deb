-- The agents of a legal history.
use Rattle.std.proofs.Common.{◌≡◌, ℕ, ◌≤◌, ◌-◌, List, [], ◌∷◌, ◌++◌, fold, map, length, All, Option, Some, None, refl, ap, ◌∙◌, arith}
use Rattle.std.proofs.lemmas.List.{length-map, length-set}
use Rattle.std.proofs.lemmas.List.Elements.{All-cons, All-head, All-nil, All-tail}
use Rattle.opfs_base.specs.Texts.{Text}
use Rattle.opfs_hist.specs.declared.entry.Entry.{Entry}
use Rattle.opfs_laws.specs.Histories.Unread.{unread_entry}
use Rattle.opfs_laws.proofs.Acting.{changed-acts}
use Rattle.opfs_laws.proofs.Going.{NextFrom}
use Rattle.opfs_laws.proofs.LocksEffect.{number-after}
use Rattle.opfs_machine.specs.declared.own.Own.{Own}
use Rattle.opfs_machine.specs.declared.state.State.{State}
use Rattle.opfs_machine.specs.Histories.{evicted_by, Legal, LegalFrom}
use Rattle.opfs_machine.specs.Openings.{Opening, agent_begun, begun}
use Rattle.opfs_machine.specs.Steps.{evicted, after_reply}

gone-agents : (s : State Text Own) (gone : List Text) → length (fold evicted s gone).agents ≡ length s.agents
gone-agents s [] = refl
gone-agents s (unit ∷ gone) = gone-agents (evicted s unit) gone

module _ (n : ℕ) where
  abbrev Within : List Entry → Type 0
  Within es = All (λ e. e.agent ≤ n) es

  abbrev WithinOn : State Text Own → List Text → Entry → List Entry → Option Text → Type 0
  WithinOn s gone e es told = NextFrom s gone e es told → Within (e ∷ es)

  within-from : (s : State Text Own) (gone : List Text) (es : List Entry) → length s.agents ≡ n → LegalFrom s gone es → Within es
  within-from s gone [] size legal = All-nil (λ (e : Entry). e.agent ≤ n)
  within-from s gone (e ∷ es) size legal =
      let t = fold evicted s gone in
      elim (evicted_by e.op) as (WithinOn s gone e es) [
        | Some unit ↦ λ next. All-cons (λ (x : Entry). x.agent ≤ n) e es (omega (arith, next.0.agent)) (within-from s (gone ++ unit ∷ []) es size next.1)
        | None ↦ λ next.
            let number = number-after s gone e.agent next.0.live in
            let acts = changed-acts t e.agent number e.op e.reply in
            let there = gone-agents s gone in
            let here : e.agent ≤ n = omega (arith, number.is, number.within, there, size) in
            let after : length (after_reply t e.agent e.op e.reply).agents ≡ n = ap length acts.agents ∙ length-set t.agents (e.agent - 1) acts.agent ∙ there ∙ size in
            All-cons (λ (x : Entry). x.agent ≤ n) e es here (within-from (after_reply t e.agent e.op e.reply) [] es after next.1)
      ] legal

  first : List Entry → ℕ
  first [] = 0
  first (e ∷ es) = e.agent

  behind : List Entry → List Entry
  behind [] = []
  behind (e ∷ es) = es

  -- the bytes of reads are not seen
  alike-within : (h real : List Entry) → map unread_entry h ≡ map unread_entry real → Within real → Within h
  unfolding first behind
  alike-within [] real same within = All-nil (λ (e : Entry). e.agent ≤ n)
  alike-within (e ∷ es) [] same within = absurd (cc same)
  alike-within (e ∷ es) (r ∷ rs) same within =
      let agent : e.agent ≡ r.agent = ap first same in
      let here : r.agent ≤ n = All-head (λ (x : Entry). x.agent ≤ n) r rs within in
      All-cons (λ (x : Entry). x.agent ≤ n) e es (omega (arith, agent, here)) (alike-within es rs (ap behind same) (All-tail (λ (x : Entry). x.agent ≤ n) r rs within))

pub within : (o : Opening) (h real : List Entry) → map unread_entry h ≡ map unread_entry real → Legal o real → All (λ e. e.agent ≤ length o.agents) h
within o h real same legal =
    alike-within (length o.agents) h real same (within-from (length o.agents) (begun o) [] real (length-map o.agents agent_begun) legal)
