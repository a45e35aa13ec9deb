-- States that are the same to a party: what it reads of them.
use Rattle.std.proofs.Common.{◌≡◌, ◌&&◌, ◌+◌, ℕ, zero, suc, Bool, true, false, filter, is_some, Option, None, refl, sym, ap, ◌∙◌, arith}
use Rattle.std.specs.List.{list_any}
use Rattle.std.specs.FinMap.Entries.{find}
use Rattle.std.specs.Cmp.{first_so}
use Rattle.std.specs.Cmp.Lexicographic.{same_text as equal_texts}
use Rattle.opfs_base.specs.Texts.{Text, same_text}
use Rattle.opfs_base.specs.Places.{Place, place_cmp, child_name, is_within, only_name, rest_below, begins_with}
use Rattle.opfs_machine.specs.declared.own.Own.{Own}
use Rattle.opfs_machine.specs.declared.state.Party.{Party}
use Rattle.opfs_machine.specs.declared.state.Posted.{Posted}
use Rattle.opfs_machine.specs.declared.state.Row.{Row}
use Rattle.opfs_machine.specs.declared.state.State.{State}
use Rattle.opfs_machine.specs.Agents.{agent_of, party_with, same_party, is_posted}
use Rattle.opfs_machine.specs.Alone.{is_partys}
use Rattle.opfs_machine.specs.Rows.{Rows, row_at, children_of, has_children, rows_within}
use Rattle.opfs_machine.specs.Sums.{is_persistent}
use Rattle.opfs_laws.proofs.separation.Lists.{filter-within, any-within, map-within}
use Rattle.opfs_laws.proofs.separation.Numbered.{agent_at, seen_from, is_ours, ours-at}
use Rattle.opfs_laws.proofs.separation.OwnRows.{own_rows, find-mine}

abbrev pub is_partys_tag : Party → Posted → Bool
is_partys_tag p posted = same_party p posted.party

pub record Alike (p : Party) (s t : State Text Own) : Type 0 where
  pub rows : own_rows (is_partys p) s.rows ≡ own_rows (is_partys p) t.rows
  pub modes : (unit : Text) → is_partys p unit ≡ true → is_persistent s unit ≡ is_persistent t unit
  pub tags : filter (is_partys_tag p) s.posted ≡ filter (is_partys_tag p) t.posted
  pub agents : seen_from p 1 s.agents ≡ seen_from p 1 t.agents
  pub quota : s.limits.quota ≡ t.limits.quota

pub alike-same : (p : Party) (s : State Text Own) → Alike p s s
alike-same p s = record { rows = refl; modes = λ unit own. refl; tags = refl; agents = refl; quota = refl }

pub alike-then : (p : Party) (s t u : State Text Own) → Alike p s t → Alike p t u → Alike p s u
alike-then p s t u a b = record {
  rows = a.rows ∙ b.rows;
  modes = λ unit own. a.modes unit own ∙ b.modes unit own;
  tags = a.tags ∙ b.tags;
  agents = a.agents ∙ b.agents;
  quota = a.quota ∙ b.quota;
}

pub alike-back : (p : Party) (s t : State Text Own) → Alike p s t → Alike p t s
alike-back p s t a = record {
  rows = sym a.rows;
  modes = λ unit own. sym (a.modes unit own);
  tags = sym a.tags;
  agents = sym a.agents;
  quota = sym a.quota;
}

-- A unit that is the same as one of the party's.
apart : (p : Party) (own other : Text) → is_partys p own ≡ true → same_text own other ≡ true → is_partys p other ≡ true
apart p own other is same = ap (is_partys p) (sym (equal_texts own other (sym same))) ∙ is

test_out : (m b : Bool) → (b ≡ true → m ≡ true) → m ≡ false → b ≡ false
test_out m true h is = sym (h refl) ∙ is
test_out m false h is = refl

abbrev name_by : Bool → Place → Place → Option Text
name_by b dir place = elim b [ true ↦ only_name (rest_below dir.1 place.1) | false ↦ None ]

child-own : (p : Party) (dir place : Place) → is_partys p dir.0 ≡ true → is_some (child_name dir place) ≡ true → is_partys p place.0 ≡ true
child-own p dir place is =
    elim (same_text dir.0 place.0) as (λ b. same_text dir.0 place.0 ≡ b → is_some (name_by b dir place) ≡ true → is_partys p place.0 ≡ true) [
      | true ↦ λ same some. apart p dir.0 place.0 is same
      | false ↦ λ same some. cc
    ] refl

child-none : (p : Party) (dir place : Place) → is_partys p dir.0 ≡ true → is_partys p place.0 ≡ false → child_name dir place ≡ None
child-none p dir place is out =
    ap (λ b. name_by b dir place) (test_out (is_partys p place.0) (same_text dir.0 place.0) (apart p dir.0 place.0 is) out)

one_more : (i : ℕ) → 1 + i ≡ suc i
one_more i = omega arith

module _ (p : Party) (s t : State Text Own) (a : Alike p s t) where
  pub row-alike : (place : Place) → is_partys p place.0 ≡ true → row_at s place ≡ row_at t place
  row-alike place is =
      sym (find-mine (is_partys p) place s.rows is) ∙ ap (find place_cmp place) a.rows ∙ find-mine (is_partys p) place t.rows is

  pub children-alike : (dir : Place) → is_partys p dir.0 ≡ true → children_of s dir ≡ children_of t dir
  children-alike dir is =
      let none = λ (e : Place × Row Text). child-none p dir e.0 is in
      sym (map-within (λ e. is_partys p e.0.0) (λ e. child_name dir e.0) none s.rows)
      ∙ ap (λ (rows : Rows Text). children_of (record s { rows = rows }) dir) a.rows
      ∙ map-within (λ e. is_partys p e.0.0) (λ e. child_name dir e.0) none t.rows

  pub has-alike : (dir : Place) → is_partys p dir.0 ≡ true → has_children s dir ≡ has_children t dir
  has-alike dir is =
      let own = λ (e : Place × Row Text). child-own p dir e.0 is in
      sym (any-within (λ e. is_partys p e.0.0) (λ e. is_some (child_name dir e.0)) own s.rows)
      ∙ ap (λ (rows : Rows Text). has_children (record s { rows = rows }) dir) a.rows
      ∙ any-within (λ e. is_partys p e.0.0) (λ e. is_some (child_name dir e.0)) own t.rows

  pub within-alike : (place : Place) → is_partys p place.0 ≡ true → rows_within s place ≡ rows_within t place
  within-alike place is =
      let own = λ (e : Place × Row Text) (h : is_within place e.0 ≡ true). apart p place.0 e.0.0 is (first_so (same_text place.0 e.0.0) (begins_with place.1 e.0.1) h) in
      sym (filter-within (λ e. is_partys p e.0.0) (λ e. is_within place e.0) own s.rows)
      ∙ ap (λ (rows : Rows Text). rows_within (record s { rows = rows }) place) a.rows
      ∙ filter-within (λ e. is_partys p e.0.0) (λ e. is_within place e.0) own t.rows

  pub posted-alike : (tag : Text) → is_posted s p tag ≡ is_posted t p tag
  posted-alike tag =
      let own = λ (q : Posted) (h : (same_party p q.party && same_text tag q.tag) ≡ true). first_so (same_party p q.party) (same_text tag q.tag) h in
      sym (any-within (is_partys_tag p) (λ q. same_party p q.party && same_text tag q.tag) own s.posted)
      ∙ ap (list_any (λ q. same_party p q.party && same_text tag q.tag)) a.tags
      ∙ any-within (is_partys_tag p) (λ q. same_party p q.party && same_text tag q.tag) own t.posted

  -- An agent that is the party's in both.
  pub agent-alike : (k : ℕ) → same_party p (party_with (agent_of s k).key k) ≡ true → same_party p (party_with (agent_of t k).key k) ≡ true
      → agent_of s k ≡ agent_of t k
  agent-alike zero is also = refl
  agent-alike (suc i) is also =
      let left : is_ours p (1 + i) (agent_at s.agents i).key ≡ true = ap (λ k. is_ours p k (agent_at s.agents i).key) (one_more i) ∙ is in
      let right : is_ours p (1 + i) (agent_at t.agents i).key ≡ true = ap (λ k. is_ours p k (agent_at t.agents i).key) (one_more i) ∙ also in
      sym (ours-at p 1 i s.agents left) ∙ ap (λ agents. agent_at agents i) a.agents ∙ ours-at p 1 i t.agents right
