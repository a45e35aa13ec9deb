-- An own row that is taken from its place, changed, and put back.
use Rattle.std.proofs.Common.{◌≡◌, ℕ, ◌-◌, slice_set, Option, Some, None, sym, ap, subst, ◌∙◌, arith}
use Rattle.std.proofs.lemmas.List.{length-set, set-set}
use Rattle.opfs_base.specs.Texts.{Text}
use Rattle.opfs_laws.proofs.Numbers.{agent-set}
use Rattle.opfs_machine.specs.Agents.{agent_of, own_of, with_agent, with_own}
use Rattle.opfs_machine.specs.Effects.{with_changed}
use Rattle.opfs_machine.specs.declared.own.Own.{Own}
use Rattle.opfs_machine.specs.declared.state.Agent.{Agent}
use Rattle.opfs_machine.specs.declared.state.State.{State}
use Rattle.opfs_rulings.specs.Known.{IsAgent, IsOwn}
use Rattle.opfs_rulings.proofs.Totals.{number_of}

module _ (s mid : State Text Own) (k n : ℕ) (held : Own) (agent : IsAgent s k) (taken : mid ≡ with_own s k n held) where
  abbrev left : Agent Own
  left = record (agent_of s k) { own = slice_set (agent_of s k).own (n - 1) held }

  left_is : agent_of mid k ≡ left
  left_is = ap (λ (t : State Text Own). agent_of t k) taken ∙ agent-set s k left (number_of s k agent)

  pub still_agent : IsAgent mid k
  still_agent = subst (λ (t : State Text Own). IsAgent t k) (sym taken) (record { above = agent.above; within = omega (arith, agent.within, length-set s.agents (k - 1) left) })

  pub still_own : IsOwn (agent_of s k) n → IsOwn (agent_of mid k) n
  still_own own = subst (λ (a : Agent Own). IsOwn a n) (sym left_is) (record { above = own.above; within = omega (arith, own.within, length-set (agent_of s k).own (n - 1) held) })

  pub put_back : (now : Own) → with_own mid k n now ≡ with_own s k n now
  put_back now =
      ap (λ (a : Agent Own). with_agent mid k (record a { own = slice_set a.own (n - 1) now })) left_is
      ∙ ap (λ (t : State Text Own). with_agent t k (record (agent_of s k) { own = slice_set (slice_set (agent_of s k).own (n - 1) held) (n - 1) now })) taken
      ∙ (λ i. record s { agents = set-set s.agents (k - 1) left (record (agent_of s k) { own = set-set (agent_of s k).own (n - 1) held now i }) i })

  pub own_changed : (change : Own → Own) (r now : Own) (new : State Text Own) → own_of (agent_of s k) n ≡ Some r → now ≡ change r → new ≡ with_own mid k n now → new ≡ with_changed s k n change
  unfolding with_changed
  own_changed change r now new was is put =
      put ∙ put_back now ∙ ap (with_own s k n) is
      ∙ sym (ap (λ (o : Option Own). elim o [ Some x ↦ with_own s k n (change x) | None ↦ s ]) was)
