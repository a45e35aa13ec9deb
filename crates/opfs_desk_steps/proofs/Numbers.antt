-- A live agent's number is one of the opening's.
use Rattle.std.proofs.Common.{◌≡◌, ℕ, ◌≤◌, List, [], ◌∷◌, ◌++◌, fold, length, Option, Some, None, sym, ap, ◌∙◌, subst, inl, inr, arith}
use Rattle.std.specs.Prelude.{IsTrue}
use Rattle.std.proofs.lemmas.Bool.{cases_eq}
use Rattle.std.proofs.lemmas.List.{length-map}
use Rattle.std.proofs.lemmas.List.Sums.{fold-append}
use Rattle.opfs_base.specs.Texts.{Text}
use Rattle.opfs_hist.specs.declared.entry.Entry.{Entry}
use Rattle.opfs_laws.proofs.Acting.{changed-acts, acts-other}
use Rattle.opfs_laws.proofs.Going.{NextFrom}
use Rattle.opfs_laws.proofs.LocksEffect.{number-after}
use Rattle.opfs_laws.proofs.Numbers.{IsNumber, number-of}
use Rattle.opfs_laws.proofs.OwnKept.{evicted-agents}
use Rattle.opfs_machine.specs.declared.own.Own.{Own}
use Rattle.opfs_machine.specs.declared.state.State.{State}
use Rattle.opfs_machine.specs.Agents.{agent_of, agent_in}
use Rattle.opfs_machine.specs.Histories.{evicted_by, LegalFrom, Legal, after_op, after_entry, state_after}
use Rattle.opfs_machine.specs.Openings.{Opening, begun, agent_begun}
use Rattle.opfs_machine.specs.Steps.{evicted, changed_by, after_reply}

-- Evictions leave each agent.
pub agent-stays : (s : State Text Own) (gone : List Text) (k : ℕ) → agent_of (fold evicted s gone) k ≡ agent_of s k
agent-stays s gone k = ap (λ agents. agent_in agents k) (evicted-agents gone s)

module _ (n : ℕ) where
  abbrev Within : State Text Own → Type 0
  Within t = (k : ℕ) → IsTrue (agent_of t k).live → k ≤ n

  call-within : (t : State Text Own) (e : Entry) → IsNumber t e.agent → IsTrue (agent_of t e.agent).live → Within t → Within (after_reply t e.agent e.op e.reply)
  call-within t e number live h k is =
      elim (cases_eq k e.agent) [
        | inl same ↦ subst (λ (j : ℕ). j ≤ n) (sym same) (h e.agent live)
        | inr apart ↦ h k (ap (λ a. a.live) (sym (acts-other t e.agent number (changed_by t e.agent e.op e.reply) k (changed-acts t e.agent number e.op e.reply) apart)) ∙ is)
      ]

  abbrev StepOn : State Text Own → List Text → Entry → List Entry → Option Text → Type 0
  StepOn s gone e es told = NextFrom s gone e es told → Within (fold after_entry (after_op (fold evicted s gone) e told) es)

  within-from : (s : State Text Own) (gone : List Text) (es : List Entry) → LegalFrom s gone es → Within (fold evicted s gone) → Within (fold after_entry (fold evicted s gone) es)
  within-from s gone [] legal h = h
  within-from s gone (e ∷ es) legal h =
      let t = fold evicted s gone in
      elim (evicted_by e.op) as (StepOn s gone e es) [
        | Some unit ↦ λ next.
            subst (λ (x : State Text Own). Within (fold after_entry x es)) (fold-append evicted s gone (unit ∷ []))
            (within-from s (gone ++ unit ∷ []) es next.1 (subst Within (sym (fold-append evicted s gone (unit ∷ []))) h))
        | None ↦ λ next.
            within-from (after_reply t e.agent e.op e.reply) [] es next.1
            (call-within t e (number-after s gone e.agent next.0.live) (ap (λ a. a.live) (agent-stays s gone e.agent) ∙ next.0.live) h)
      ] legal

begun-within : (o : Opening) → Within (length o.agents) (begun o)
begun-within o k live =
    let n = number-of (begun o) k live in
    omega (arith, n.is, n.within, length-map o.agents agent_begun)

pub live-within : (o : Opening) (h : List Entry) (k : ℕ) → Legal o h → IsTrue (agent_of (state_after o h) k).live → k ≤ length o.agents
live-within o h k legal live = within-from (length o.agents) (begun o) [] h legal (begun-within o) k live
