-- The agents of a party among all agents, in their order.
use Rattle.std.proofs.Common.{◌≡◌, ◌&&◌, ◌||◌, ◌+◌, ◌==◌, ℕ, zero, suc, Bool, true, false, not, List, [], ◌∷◌, slice_set, Option, None, unwrap_or, refl, sym, ap, ◌∙◌, arith}
use Rattle.std.specs.Prelude.{slice_get}
use Rattle.std.specs.List.{list_all, enumerate_from}
use Rattle.opfs_base.specs.Texts.{Text}
use Rattle.opfs_machine.specs.declared.own.Own.{Own}
use Rattle.opfs_machine.specs.declared.state.Agent.{Agent}
use Rattle.opfs_machine.specs.declared.state.Party.{Party}
use Rattle.opfs_machine.specs.Agents.{nobody, party_with, same_party}

-- An agent as a party sees it among all: nobody where it is another party's.
abbrev pub seen_by : Bool → Agent Own → Agent Own
seen_by true a = a
seen_by false a = nobody

pub plus_zero : (n : ℕ) → n + 0 ≡ n
plus_zero n = omega arith

pub plus_suc : (n i : ℕ) → n + 1 + i ≡ n + suc i
plus_suc n i = omega arith

abbrev pub agent_at : List (Agent Own) → ℕ → Agent Own
agent_at agents i = unwrap_or (slice_get agents i) nobody

module _ (p : Party) where
  abbrev pub is_ours : ℕ → Option Text → Bool
  is_ours n key = same_party p (party_with key n)

  abbrev pub seen : ℕ → Agent Own → Agent Own
  seen n a = seen_by (is_ours n a.key) a

  abbrev pub seen_from : ℕ → List (Agent Own) → List (Agent Own)
  seen_from n [] = []
  seen_from n (a ∷ agents) = seen n a ∷ seen_from (n + 1) agents

  pub ours-at : (n i : ℕ) (agents : List (Agent Own)) → is_ours (n + i) (agent_at agents i).key ≡ true → agent_at (seen_from n agents) i ≡ agent_at agents i
  ours-at n i [] is = refl
  ours-at n zero (a ∷ agents) is = ap (λ b. seen_by b a) (ap (λ k. is_ours k a.key) (sym (plus_zero n)) ∙ is)
  ours-at n (suc i) (a ∷ agents) is = ours-at (n + 1) i agents (ap (λ k. is_ours k (agent_at agents i).key) (plus_suc n i) ∙ is)

  -- An agent of ours that changes.
  pub ours-set : (n i : ℕ) (agents : List (Agent Own)) (a : Agent Own) → seen_from n (slice_set agents i a) ≡ slice_set (seen_from n agents) i (seen (n + i) a)
  ours-set n i [] a = refl
  ours-set n zero (b ∷ agents) a = ap (λ k. seen k a ∷ seen_from (n + 1) agents) (sym (plus_zero n))
  ours-set n (suc i) (b ∷ agents) a =
      ap (λ xs. seen n b ∷ xs) (ours-set (n + 1) i agents a ∙ ap (λ k. slice_set (seen_from (n + 1) agents) i (seen k a)) (plus_suc n i))

  -- An agent of another party that changes, and keeps its key.
  pub other-set : (n i : ℕ) (agents : List (Agent Own)) (a : Agent Own) → is_ours (n + i) (agent_at agents i).key ≡ false → a.key ≡ (agent_at agents i).key
      → seen_from n (slice_set agents i a) ≡ seen_from n agents
  other-set n i [] a is same = refl
  other-set n zero (b ∷ agents) a is same =
      let out : is_ours n b.key ≡ false = ap (λ k. is_ours k b.key) (sym (plus_zero n)) ∙ is in
      ap (λ x. x ∷ seen_from (n + 1) agents)
      (ap (λ t. seen_by t a) (ap (is_ours n) same ∙ out) ∙ sym (ap (λ t. seen_by t b) out))
  other-set n (suc i) (b ∷ agents) a is same =
      ap (λ xs. seen n b ∷ xs) (other-set (n + 1) i agents a (ap (λ k. is_ours k (agent_at agents i).key) (plus_suc n i) ∙ is) same)

  -- Whether all others of the party are stuck.
  module _ (k : ℕ) (posted : Option Text → Bool) where
    abbrev pub no_help : ℕ × Agent Own → Bool
    no_help numbered = numbered.0 == k || not numbered.1.live || not (is_ours numbered.0 numbered.1.key) || posted numbered.1.waits

    abbrev no_help_by : Bool → ℕ → Agent Own → Bool
    no_help_by b n a = n == k || not a.live || not b || posted a.waits

    last_three : (a b : Bool) → (a || true || b) ≡ true
    last_three true b = refl
    last_three false b = refl

    no_help-other : (n : ℕ) (l : Bool) (w : Bool) → (n == k || not l || true || w) ≡ true
    no_help-other n true w = last_three (n == k || false) w
    no_help-other n false w = last_three (n == k || true) w

    no_help-dead : (n : ℕ) (b : Bool) (w : Bool) → (n == k || true || not b || w) ≡ true
    no_help-dead n b w = elim (n == k) as (λ t. (t || true || not b || w) ≡ true) [ true ↦ refl | false ↦ refl ]

    no_help-seen : (n : ℕ) (a : Agent Own) → no_help (n, seen n a) ≡ no_help (n, a)
    no_help-seen n a =
        elim (is_ours n a.key) as (λ b. is_ours n a.key ≡ b → no_help (n, seen_by b a) ≡ no_help_by b n a) [
          | true ↦ λ is. ap (λ b. no_help_by b n a) is
          | false ↦ λ is. no_help-dead n (is_ours n None) (posted None) ∙ sym (no_help-other n a.live (posted a.waits))
        ] refl

    pub stuck-seen : (n : ℕ) (agents : List (Agent Own)) → list_all no_help (enumerate_from n (seen_from n agents)) ≡ list_all no_help (enumerate_from n agents)
    stuck-seen n [] = refl
    stuck-seen n (a ∷ agents) = λ i. no_help-seen n a i && stuck-seen (n + 1) agents i
