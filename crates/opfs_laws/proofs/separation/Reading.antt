-- What a call of an agent reads of a state.
use Rattle.std.proofs.Common.{◌≡◌, ◌+◌, ℕ, true, false, cond, not, List, [], ◌∷◌, sum_by, flat_map, All, Option, Some, None, refl, sym, ap, ◌∙◌, subst, eqb-true}
use Rattle.std.proofs.lemmas.List.Elements.{All-head, All-tail}
use Rattle.std.proofs.lemmas.List.Sums.{sum_by-cons, sum_by-append}
use Rattle.std.specs.List.{list_all, enumerate_from}
use Rattle.std.specs.Cmp.Lexicographic.{same_text as equal_texts}
use Rattle.opfs_base.specs.Texts.{Text}
use Rattle.opfs_base.specs.Places.{Place}
use Rattle.opfs_machine.specs.declared.own.Own.{Own}
use Rattle.opfs_machine.specs.declared.own.Own.TheVariants as own
use Rattle.opfs_machine.specs.declared.state.Agent.{Agent}
use Rattle.opfs_machine.specs.declared.state.Party.{Party}
use Rattle.opfs_machine.specs.declared.state.Party.TheVariants.{Origin, Alone}
use Rattle.opfs_machine.specs.declared.state.State.{State}
use Rattle.opfs_machine.specs.Agents.{agent_of, party_of, party_with, same_party, is_posted, is_unposted, is_no_help, others_stuck}
use Rattle.opfs_machine.specs.Contents.{in_bytes}
use Rattle.opfs_machine.specs.Rows.{Rows, row_at, children_of, has_children, rows_within}
use Rattle.opfs_machine.specs.Sums.{is_persistent, usage, row_reserve, present_blocks}
use Rattle.opfs_machine.specs.Victims.{is_callers}
use Rattle.opfs_laws.proofs.separation.Alike.{Alike, row-alike, children-alike, has-alike, within-alike, posted-alike, agent-alike}
use Rattle.opfs_laws.proofs.separation.Numbered.{seen, seen_by, seen_from, is_ours, no_help, stuck-seen}
use Rattle.opfs_laws.proofs.OwnFiles.{OwnFiles, HasOwnFile}
use Rattle.opfs_laws.proofs.OwnKept.{AgentKeeps}
use Rattle.opfs_laws.proofs.separation.Parties.{partys-own, partys-other}
use Rattle.opfs_laws.proofs.separation.Sides.{Ours}

-- Two states that a call of the agent of a number reads alike.
pub record Reads (k : ℕ) (s t : State Text Own) : Type 0 where
  pub agent : agent_of s k ≡ agent_of t k
  pub row : (place : Place) → is_callers (agent_of s k).key place.0 ≡ true → row_at s place ≡ row_at t place
  pub children : (dir : Place) → is_callers (agent_of s k).key dir.0 ≡ true → children_of s dir ≡ children_of t dir
  pub has : (dir : Place) → is_callers (agent_of s k).key dir.0 ≡ true → has_children s dir ≡ has_children t dir
  pub within : (place : Place) → is_callers (agent_of s k).key place.0 ≡ true → rows_within s place ≡ rows_within t place
  pub mode : (unit : Text) → is_callers (agent_of s k).key unit ≡ true → is_persistent s unit ≡ is_persistent t unit
  pub posted : (tag : Text) → is_posted s (party_of s k) tag ≡ is_posted t (party_of t k) tag
  pub usage : (origin : Text) → (agent_of s k).key ≡ Some origin → usage in_bytes s origin ≡ usage in_bytes t origin
  pub quota : s.limits.quota ≡ t.limits.quota

-- Parties that are the same.
pub one-party : (p q : Party) → same_party p q ≡ true → p ≡ q
one-party (Origin a) (Origin b) h = ap Origin (equal_texts a b (sym h))
one-party (Origin a) (Alone j) h = cc
one-party (Alone i) (Origin b) h = cc
one-party (Alone i) (Alone j) h = ap Alone (eqb-true i j h)

unposted-alike : (p : Party) (s t : State Text Own) → Alike p s t → (w : Option Text) → is_unposted s p w ≡ is_unposted t p w
unposted-alike p s t a None = refl
unposted-alike p s t a (Some tag) = ap not (posted-alike p s t a tag)

stuck-alike : (p : Party) (s t : State Text Own) (k : ℕ) → Alike p s t
    → list_all (is_no_help s k p) (enumerate_from 1 s.agents) ≡ list_all (is_no_help t k p) (enumerate_from 1 t.agents)
stuck-alike p s t k a =
    let unposted : is_unposted s p ≡ is_unposted t p = λ i w. unposted-alike p s t a w i in
    sym (stuck-seen p k (is_unposted s p) 1 s.agents)
    ∙ ap (λ agents. list_all (no_help p k (is_unposted s p)) (enumerate_from 1 agents)) a.agents
    ∙ stuck-seen p k (is_unposted s p) 1 t.agents
    ∙ ap (λ u. list_all (no_help p k u) (enumerate_from 1 t.agents)) unposted

-- What others keep is no reserve of the origin.
no_reserve : (o : Text) (key : Option Text) (n : ℕ) (r : Own) → same_party (Origin o) (party_with key n) ≡ false → HasOwnFile key r → row_reserve in_bytes o r ≡ 0
unfolding row_reserve
no_reserve o key n (own.Stream w) other file = ap (λ b. cond b w.reserve 0) (partys-other (Origin o) key n w.file.0 other file)
no_reserve o key n r other file = refl

no_reserves : (o : Text) (key : Option Text) (n : ℕ) (rows : List Own) → same_party (Origin o) (party_with key n) ≡ false → All (HasOwnFile key) rows → sum_by (row_reserve in_bytes o) rows ≡ 0
no_reserves o key n [] other files = refl
no_reserves o key n (r ∷ rows) other files =
    let first = no_reserve o key n r other (All-head (HasOwnFile key) r rows files) in
    let rest = no_reserves o key n rows other (All-tail (HasOwnFile key) r rows files) in
    sum_by-cons (row_reserve in_bytes o) r rows ∙ (λ i. first i + rest i)

reserves-seen : (o : Text) (n : ℕ) (agents : List (Agent Own)) → All (AgentKeeps HasOwnFile) agents
    → sum_by (row_reserve in_bytes o) (flat_map (λ a. a.own) (seen_from (Origin o) n agents)) ≡ sum_by (row_reserve in_bytes o) (flat_map (λ a. a.own) agents)
reserves-seen o n [] files = refl
reserves-seen o n (a ∷ agents) files =
    let f = row_reserve in_bytes o in
    let rest = reserves-seen o (n + 1) agents (All-tail (AgentKeeps HasOwnFile) a agents files) in
    let here = All-head (AgentKeeps HasOwnFile) a agents files in
    let one : sum_by f (seen (Origin o) n a).own ≡ sum_by f a.own =
    elim (is_ours (Origin o) n a.key) as (λ b. is_ours (Origin o) n a.key ≡ b → sum_by f (seen_by b a).own ≡ sum_by f a.own) [
      | true ↦ λ is. refl
      | false ↦ λ is. sym (no_reserves o a.key n a.own is here)
    ] refl
    in
    sum_by-append f (seen (Origin o) n a).own (flat_map (λ x. x.own) (seen_from (Origin o) (n + 1) agents))
    ∙ (λ i. one i + rest i)
    ∙ sym (sum_by-append f a.own (flat_map (λ x. x.own) agents))

usage-alike : (o : Text) (s t : State Text Own) → Alike (Origin o) s t → OwnFiles s → OwnFiles t → usage in_bytes s o ≡ usage in_bytes t o
usage-alike o s t a left right =
    let rows = ap (λ (rows : Rows Text). sum_by (λ e. present_blocks in_bytes e.1) rows) a.rows in
    let owns =
    sym (reserves-seen o 1 s.agents left)
    ∙ ap (λ agents. sum_by (row_reserve in_bytes o) (flat_map (λ x. x.own) agents)) a.agents
    ∙ reserves-seen o 1 t.agents right
    in
    λ i. rows i + owns i

-- The party of an agent with a key.
origin-is : (p : Party) (key : Option Text) (k : ℕ) (o : Text) → same_party p (party_with key k) ≡ true → key ≡ Some o → p ≡ Origin o
origin-is p key k o member is = one-party p (party_with key k) member ∙ ap (λ x. party_with x k) is

pub ours-reads : (p : Party) (key : Option Text) (k : ℕ) (s t : State Text Own) → same_party p (party_with key k) ≡ true → Ours p key k s t → OwnFiles s → OwnFiles t → Reads k s t
ours-reads p key k s t member q left right =
    let here : same_party p (party_with (agent_of s k).key k) ≡ true = ap (λ x. same_party p (party_with x k)) q.keyed ∙ member in
    let agent : agent_of s k ≡ agent_of t k = agent-alike p s t q.alike k here (ap (λ x. same_party p (party_with x k)) q.beside ∙ member) in
    let mine = λ (unit : Text) (is : is_callers (agent_of s k).key unit ≡ true). partys-own p (agent_of s k).key k unit here ∙ is in
    let there : p ≡ party_of s k = one-party p (party_of s k) here in
    let beside : p ≡ party_of t k = there ∙ ap (λ a. party_with a.key k) agent in
    record {
      agent = agent;
      row = λ place is. row-alike p s t q.alike place (mine place.0 is);
      children = λ dir is. children-alike p s t q.alike dir (mine dir.0 is);
      has = λ dir is. has-alike p s t q.alike dir (mine dir.0 is);
      within = λ place is. within-alike p s t q.alike place (mine place.0 is);
      mode = λ unit is. q.alike.modes unit (mine unit is);
      posted = λ tag. ap (λ x. is_posted s x tag) (sym there) ∙ posted-alike p s t q.alike tag ∙ ap (λ x. is_posted t x tag) beside;
      usage = λ o is. usage-alike o s t (subst (λ x. Alike x s t) (origin-is p (agent_of s k).key k o here is) q.alike) left right;
      quota = q.alike.quota;
    }

-- Whether all others are stuck is the same to the party's agent.
pub ours-stuck : (p : Party) (key : Option Text) (k : ℕ) (s t : State Text Own) → same_party p (party_with key k) ≡ true → Ours p key k s t → others_stuck s k ≡ others_stuck t k
ours-stuck p key k s t member q =
    let there : p ≡ party_of s k = one-party p (party_of s k) (ap (λ x. same_party p (party_with x k)) q.keyed ∙ member) in
    let beside : p ≡ party_of t k = one-party p (party_of t k) (ap (λ x. same_party p (party_with x k)) q.beside ∙ member) in
    ap (λ x. list_all (is_no_help s k x) (enumerate_from 1 s.agents)) (sym there)
    ∙ stuck-alike p s t k q.alike
    ∙ ap (λ x. list_all (is_no_help t k x) (enumerate_from 1 t.agents)) beside
