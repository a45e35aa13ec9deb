-- How a tag stands, by the state in lengths.
use Rattle.std.proofs.Common.{◌≡◌, ℕ, Bool, true, false, length, refl, sym, ap, ◌∙◌, arith}
use Rattle.std.proofs.lemmas.List.{length-map}
use Rattle.opfs_store.specs.Acts.Acting.{awaited}
use Rattle.opfs_store.specs.Acts.Asking.{IsThere}
use Rattle.opfs_store.specs.declared.acts.acted.AwaitState.{AwaitState}
use Rattle.opfs_store.specs.declared.acts.acted.AwaitState.TheVariants as await
use Rattle.opfs_base.specs.Texts.{Text}
use Rattle.opfs_laws.specs.Lengths.Bridge.{LengthsDecideEachRuling}
use Rattle.opfs_laws.specs.Lengths.Outlines.{in_lengths_of, on_agent}
use Rattle.opfs_laws.proofs.lengths.Readers.{agent-on}
use Rattle.opfs_machine.specs.Contents.{outline_of}
use Rattle.opfs_machine.specs.declared.own.Own.{Own}
use Rattle.opfs_machine.specs.declared.state.State.{State}
use Rattle.opfs_machine.specs.Agents.{agent_of, is_posted, others_stuck, party_of, party_with, waits_for}
use Rattle.opfs_space.specs.Room.{Machine}
use Rattle.opfs_state.specs.Verdicts.Callers.{IsAgent}

abbrev by_state : Bool → Bool → AwaitState
by_state posted stuck = elim posted [ true ↦ await.Posted | false ↦ elim stuck [ true ↦ await.Stuck | false ↦ await.Neither ] ]

awaited-by : (s : State Text Own) (k : ℕ) (tag : Text) → awaited s k tag ≡ by_state (is_posted s (party_of s k) tag) (others_stuck s k)
unfolding awaited
awaited-by s k tag = refl

module _ (decide : LengthsDecideEachRuling) (s : State Text Own) (m : Machine) (k : ℕ) (tag : Text) (machine : m ≡ in_lengths_of s) where
  posted-is : is_posted m (party_of m k) tag ≡ is_posted s (party_of s k) tag
  posted-is =
      ap (λ (x : Machine). is_posted x (party_of x k) tag) machine
      ∙ ap (λ a. is_posted (in_lengths_of s) (party_with a k) tag) (ap (λ a. a.key) (agent-on length outline_of s k))

  stuck-is : others_stuck m k ≡ others_stuck s k
  stuck-is = ap (λ (x : Machine). others_stuck x k) machine ∙ decide.stuck s k

  pub awaited-is : awaited s k tag ≡ by_state (is_posted m (party_of m k) tag) (others_stuck m k)
  awaited-is = awaited-by s k tag ∙ (λ i. by_state (sym posted-is i) (sym stuck-is i))

  pub is-there : is_posted m (party_of m k) tag ≡ true → awaited s k tag ≡ await.Posted
  is-there is = awaited-is ∙ ap (λ b. by_state b (others_stuck m k)) is

  pub is-stuck : is_posted m (party_of m k) tag ≡ false → others_stuck m k ≡ true → awaited s k tag ≡ await.Stuck
  is-stuck none is = awaited-is ∙ (λ i. by_state (none i) (is i))

  pub is-neither : is_posted m (party_of m k) tag ≡ false → others_stuck m k ≡ false → awaited s k tag ≡ await.Neither
  is-neither none is = awaited-is ∙ (λ i. by_state (none i) (is i))

pub agent-there : (s : State Text Own) (m : Machine) (k : ℕ) → m ≡ in_lengths_of s → IsThere s k → IsAgent m k
agent-there s m k machine there = record { above = there.above; within = omega (arith, there.within, ap (λ (x : Machine). length x.agents) machine, length-map s.agents (on_agent outline_of)) }

-- What an agent waits for.
pub waits-is : (s : State Text Own) (m : Machine) (k : ℕ) (tag : Text) → m ≡ in_lengths_of s → waits_for (agent_of m k).waits tag ≡ waits_for (agent_of s k).waits tag
waits-is s m k tag machine = ap (λ (x : Machine). waits_for (agent_of x k).waits tag) machine ∙ ap (λ a. waits_for a.waits tag) (agent-on length outline_of s k)
