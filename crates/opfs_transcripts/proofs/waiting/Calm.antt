-- Two states that differ in which agents wait, and in when they were used.
use Rattle.std.proofs.Common.{◌≡◌, ◌+◌, ◌-◌, ◌==◌, ℕ, zero, suc, Bool, true, false, List, [], ◌∷◌, ◌++◌, map, filter, flat_map, sum_by, slice_set, Option, None, refl, sym, ap, ◌∙◌, arith}
use Rattle.std.proofs.lemmas.Bool.Decides.{nat_tests}
use Rattle.std.specs.List.{list_any}
use Rattle.opfs_base.specs.Texts.{Text, same_text}
use Rattle.opfs_machine.specs.declared.own.Own.{Own}
use Rattle.opfs_machine.specs.declared.state.Agent.{Agent}
use Rattle.opfs_machine.specs.declared.state.State.{State}
use Rattle.opfs_machine.specs.Agents.{agent_of, with_agent, party_with, is_posted}
use Rattle.opfs_machine.specs.Contents.{in_bytes}
use Rattle.opfs_machine.specs.Rows.{row_at, children_of, has_children, rows_within, with_row, with_file, without}
use Rattle.std.specs.Ordering.{nat_cmp}
use Rattle.std.specs.Cmp.Lexicographic.{slice_cmp}
use Rattle.opfs_machine.specs.Ordered.{insert_by}
use Rattle.opfs_machine.specs.Victims.{is_callers}
use Rattle.opfs_machine.specs.Sums.{present_blocks, row_reserve}
use Rattle.opfs_laws.proofs.separation.Follows.{Follows}
use Rattle.opfs_laws.proofs.separation.Numbered.{agent_at}
use Rattle.opfs_laws.proofs.separation.Reading.{Reads}
use Rattle.opfs_laws.proofs.separation.Small.{key-acts}
use Rattle.opfs_base.specs.Units.{origin_of}
use Rattle.opfs_transcripts.proofs.waiting.Room.{SameRoom}

-- An agent, whatever it waits for.
abbrev pub quiet : Agent Own → Agent Own
quiet a = record a { waits = None }

-- The same rows, modes, tags and limits; the same agents but for what they wait for; and an agent that does not wait is the
-- same.
pub record Calm (waits : ℕ → Bool) (s t : State Text Own) : Type 0 where
  pub rows : s.rows ≡ t.rows
  pub modes : s.persistent ≡ t.persistent
  pub posted : s.posted ≡ t.posted
  pub limits : s.limits ≡ t.limits
  pub agents : map quiet s.agents ≡ map quiet t.agents
  pub same : (k : ℕ) → waits k ≡ false → agent_of s k ≡ agent_of t k

-- ---- agents

own-quiet : (agents : List (Agent Own)) → flat_map (λ (a : Agent Own). a.own) (map quiet agents) ≡ flat_map (λ (a : Agent Own). a.own) agents
own-quiet [] = refl
own-quiet (a ∷ agents) = ap (λ xs. a.own ++ xs) (own-quiet agents)

quiet-at : (agents : List (Agent Own)) (i : ℕ) → agent_at (map quiet agents) i ≡ quiet (agent_at agents i)
quiet-at [] i = refl
quiet-at (a ∷ agents) zero = refl
quiet-at (a ∷ agents) (suc i) = quiet-at agents i

quiet-set : (agents : List (Agent Own)) (i : ℕ) (a : Agent Own) → map quiet (slice_set agents i a) ≡ slice_set (map quiet agents) i (quiet a)
quiet-set [] i a = refl
quiet-set (b ∷ agents) zero a = refl
quiet-set (b ∷ agents) (suc i) a = ap (λ xs. quiet b ∷ xs) (quiet-set agents i a)

-- An agent that changes in what it waits for alone.
quiet-same : (agents : List (Agent Own)) (i : ℕ) (a : Agent Own) → quiet a ≡ quiet (agent_at agents i) → map quiet (slice_set agents i a) ≡ map quiet agents
quiet-same [] i a h = refl
quiet-same (b ∷ agents) zero a h = ap (λ x. x ∷ map quiet agents) h
quiet-same (b ∷ agents) (suc i) a h = ap (λ xs. quiet b ∷ xs) (quiet-same agents i a h)

tails : (a b : Agent Own) (xs ys : List (Agent Own)) → a ∷ xs ≡ b ∷ ys → xs ≡ ys
tails a b xs ys h = cc

-- The same agent in the place of one of both.
set-both : (xs ys : List (Agent Own)) (i m : ℕ) (a : Agent Own) → map quiet xs ≡ map quiet ys → agent_at xs m ≡ agent_at ys m → agent_at (slice_set xs i a) m ≡ agent_at (slice_set ys i a) m
set-both [] [] i m a q h = refl
set-both [] (y ∷ ys) i m a q h = absurd (none q)
  where
    none : [] ≡ quiet y ∷ map quiet ys → ⊥
    none e = cc
set-both (x ∷ xs) [] i m a q h = absurd (none q)
  where
    none : quiet x ∷ map quiet xs ≡ [] → ⊥
    none e = cc
set-both (x ∷ xs) (y ∷ ys) zero zero a q h = refl
set-both (x ∷ xs) (y ∷ ys) zero (suc m) a q h = h
set-both (x ∷ xs) (y ∷ ys) (suc i) zero a q h = h
set-both (x ∷ xs) (y ∷ ys) (suc i) (suc m) a q h = set-both xs ys i m a (tails (quiet x) (quiet y) (map quiet xs) (map quiet ys) q) h

-- At its own place, whatever was there.
set-here : (xs ys : List (Agent Own)) (i : ℕ) (a b : Agent Own) → a ≡ b → map quiet xs ≡ map quiet ys → agent_at (slice_set xs i a) i ≡ agent_at (slice_set ys i b) i
set-here [] [] i a b e q = refl
set-here [] (y ∷ ys) i a b e q = absurd (none q)
  where
    none : [] ≡ quiet y ∷ map quiet ys → ⊥
    none h = cc
set-here (x ∷ xs) [] i a b e q = absurd (none q)
  where
    none : quiet x ∷ map quiet xs ≡ [] → ⊥
    none h = cc
set-here (x ∷ xs) (y ∷ ys) zero a b e q = e
set-here (x ∷ xs) (y ∷ ys) (suc i) a b e q = set-here xs ys i a b e (tails (quiet x) (quiet y) (map quiet xs) (map quiet ys) q)

set-other : (xs : List (Agent Own)) (i m : ℕ) (a : Agent Own) → (i ≡ m → ⊥) → agent_at (slice_set xs i a) m ≡ agent_at xs m
set-other [] i m a h = refl
set-other (x ∷ xs) zero zero a h = absurd (h refl)
set-other (x ∷ xs) zero (suc m) a h = refl
set-other (x ∷ xs) (suc i) zero a h = refl
set-other (x ∷ xs) (suc i) (suc m) a h = set-other xs i m a (λ e. h (ap suc e))

-- ---- what is the same

pub calm-quiet : (waits : ℕ → Bool) (s t : State Text Own) → Calm waits s t → (k : ℕ) → quiet (agent_of s k) ≡ quiet (agent_of t k)
calm-quiet waits s t q zero = refl
calm-quiet waits s t q (suc i) = sym (quiet-at s.agents i) ∙ ap (λ agents. agent_at agents i) q.agents ∙ quiet-at t.agents i

pub calm-room : (waits : ℕ → Bool) (s t : State Text Own) → Calm waits s t → SameRoom s t
calm-room waits s t q = record {
  rows = q.rows;
  modes = q.modes;
  own = sym (own-quiet s.agents) ∙ ap (λ agents. flat_map (λ (a : Agent Own). a.own) agents) q.agents ∙ own-quiet t.agents;
  limits = q.limits;
}

pub calm-reads : (waits : ℕ → Bool) (s t : State Text Own) (k : ℕ) → Calm waits s t → waits k ≡ false → Reads k s t
calm-reads waits s t k q calm =
    let agent = q.same k calm in
    let room = calm-room waits s t q in
    record {
      agent = agent;
      row = λ place is. λ i. row_at (record s { rows = q.rows i }) place;
      children = λ dir is. λ i. children_of (record s { rows = q.rows i }) dir;
      has = λ dir is. λ i. has_children (record s { rows = q.rows i }) dir;
      within = λ place is. λ i. rows_within (record s { rows = q.rows i }) place;
      mode = λ unit is. λ i. list_any (same_text unit) (q.modes i);
      posted = λ tag. λ i. is_posted (record s { posted = q.posted i }) (party_with (agent i).key k) tag;
      usage = λ origin is. λ i. sum_by (λ e. present_blocks in_bytes e.1) (filter (λ e. same_text origin (origin_of e.0.0)) (q.rows i)) + sum_by (row_reserve in_bytes origin) (room.own i);
      quota = ap (λ l. l.quota) q.limits;
    }

-- ---- what a call changes in both

pub record CalmAt (waits : ℕ → Bool) (key : Option Text) (k : ℕ) (s t : State Text Own) : Type 0 where
  pub calm : Calm waits s t
  pub keyed : (agent_of s k).key ≡ key

acts-same : (waits : ℕ → Bool) (s t : State Text Own) (i : ℕ) (a : Agent Own) → Calm waits s t → (j : ℕ) → waits j ≡ false
    → agent_of (with_agent s (suc i) a) j ≡ agent_of (with_agent t (suc i) a) j
acts-same waits s t i a q zero calm = refl
acts-same waits s t i a q (suc m) calm = set-both s.agents t.agents (suc i - 1) m a q.agents (q.same (suc m) calm)

pub calm-follows : (waits : ℕ → Bool) (key : Option Text) (i : ℕ) → waits (suc i) ≡ false → Follows key (suc i) (CalmAt waits key (suc i))
calm-follows waits key i calm = record {
  agent = λ s t q. q.calm.same (suc i) calm;
  keyed = λ s t q. q.keyed;
  rows = λ s t place is q. (calm-reads waits s t (suc i) q.calm calm).row place (own key (agent_of s (suc i)).key place.0 q.keyed is);
  children = λ s t dir is q. (calm-reads waits s t (suc i) q.calm calm).children dir (own key (agent_of s (suc i)).key dir.0 q.keyed is);
  put = λ s t place r is q. record {
    calm = record { rows = λ j. (with_row (record s { rows = q.calm.rows j }) place r).rows; modes = q.calm.modes; posted = q.calm.posted; limits = q.calm.limits; agents = q.calm.agents; same = q.calm.same };
    keyed = q.keyed;
  };
  alter = λ s t place change is q. record {
    calm = record { rows = λ j. (with_file (record s { rows = q.calm.rows j }) place change).rows; modes = q.calm.modes; posted = q.calm.posted; limits = q.calm.limits; agents = q.calm.agents; same = q.calm.same };
    keyed = q.keyed;
  };
  remove = λ s t place is q. record {
    calm = record { rows = λ j. (without (record s { rows = q.calm.rows j }) place).rows; modes = q.calm.modes; posted = q.calm.posted; limits = q.calm.limits; agents = q.calm.agents; same = q.calm.same };
    keyed = q.keyed;
  };
  act = λ s t a is q. record {
    calm = record {
      rows = q.calm.rows;
      modes = q.calm.modes;
      posted = q.calm.posted;
      limits = q.calm.limits;
      agents = quiet-set s.agents (suc i - 1) a ∙ ap (λ xs. slice_set xs (suc i - 1) (quiet a)) q.calm.agents ∙ sym (quiet-set t.agents (suc i - 1) a);
      same = acts-same waits s t i a q.calm;
    };
    keyed = key-acts s i a key is q.keyed;
  };
  mode = λ s t unit is q. record {
    calm = record { rows = q.calm.rows; modes = ap (insert_by (slice_cmp nat_cmp) unit) q.calm.modes; posted = q.calm.posted; limits = q.calm.limits; agents = q.calm.agents; same = q.calm.same };
    keyed = q.keyed;
  };
  post = λ s t tag q. record {
    calm = record { rows = q.calm.rows; modes = q.calm.modes; posted = ap (λ xs. xs ++ record { party = party_with key (suc i); tag = tag } ∷ []) q.calm.posted; limits = q.calm.limits; agents = q.calm.agents; same = q.calm.same };
    keyed = q.keyed;
  };
}
  where
    own : (a b : Option Text) (unit : Text) → b ≡ a → is_callers a unit ≡ true → is_callers b unit ≡ true
    own a b unit same is = ap (λ x. is_callers x unit) same ∙ is

-- ---- waits that come and go

abbrev pub waiting_too : (ℕ → Bool) → ℕ → Bool → ℕ → Bool
waiting_too waits k now j = elim (k == j) [ true ↦ now | false ↦ waits j ]

not-same : (k j : ℕ) → (k == j) ≡ false → k ≡ j → ⊥
not-same k j h e = no (sym h ∙ grind (arith, nat_tests, e))
  where
    no : false ≡ true → ⊥
    no x = cc

from-number : (a b : ℕ) → (a == b) ≡ true → a ≡ b
from-number a b h = grind (arith, nat_tests)

sub-one : (i : ℕ) → suc i - 1 ≡ i
sub-one i = omega arith

-- An agent that begins to wait, in the first alone.
pub calm-begins : (waits : ℕ → Bool) (s t : State Text Own) (i : ℕ) (tag : Option Text) → Calm waits s t
    → Calm (waiting_too waits (suc i) true) (with_agent s (suc i) (record (agent_of s (suc i)) { waits = tag })) t
calm-begins waits s t i tag q = record {
  rows = q.rows;
  modes = q.modes;
  posted = q.posted;
  limits = q.limits;
  agents = ap (λ n. map quiet (slice_set s.agents n (record (agent_of s (suc i)) { waits = tag }))) (sub-one i) ∙ quiet-same s.agents i (record (agent_of s (suc i)) { waits = tag }) refl ∙ q.agents;
  same = λ j. by-number j;
}
  where
    by-number : (j : ℕ) → waiting_too waits (suc i) true j ≡ false → agent_of (with_agent s (suc i) (record (agent_of s (suc i)) { waits = tag })) j ≡ agent_of t j
    by-number zero h = refl
    by-number (suc m) h =
        elim (suc i == suc m) as (λ b. (suc i == suc m) ≡ b → elim b [ true ↦ true | false ↦ waits (suc m) ] ≡ false → agent_of (with_agent s (suc i) (record (agent_of s (suc i)) { waits = tag })) (suc m) ≡ agent_of t (suc m)) [
          | true ↦ λ is h. absurd (cc)
          | false ↦ λ is h.
              ap (λ n. agent_at (slice_set s.agents n (record (agent_of s (suc i)) { waits = tag })) m) (sub-one i)
              ∙ set-other s.agents i m (record (agent_of s (suc i)) { waits = tag }) (λ e. not-same (suc i) (suc m) is (ap suc e))
              ∙ q.same (suc m) h
        ] refl h

-- An agent that waits no more, in both.
pub calm-ends : (waits : ℕ → Bool) (s t : State Text Own) (i : ℕ) → Calm waits s t
    → Calm (waiting_too waits (suc i) false) (with_agent s (suc i) (quiet (agent_of s (suc i)))) (with_agent t (suc i) (quiet (agent_of t (suc i))))
calm-ends waits s t i q = record {
  rows = q.rows;
  modes = q.modes;
  posted = q.posted;
  limits = q.limits;
  agents =
      ap (λ n. map quiet (slice_set s.agents n (quiet (agent_of s (suc i))))) (sub-one i) ∙ quiet-same s.agents i (quiet (agent_of s (suc i))) refl
      ∙ q.agents
      ∙ sym (ap (λ n. map quiet (slice_set t.agents n (quiet (agent_of t (suc i))))) (sub-one i) ∙ quiet-same t.agents i (quiet (agent_of t (suc i))) refl);
  same = λ j. by-number j;
}
  where
    by-number : (j : ℕ) → waiting_too waits (suc i) false j ≡ false → agent_of (with_agent s (suc i) (quiet (agent_of s (suc i)))) j ≡ agent_of (with_agent t (suc i) (quiet (agent_of t (suc i)))) j
    by-number zero h = refl
    by-number (suc m) h =
        let a = quiet (agent_of s (suc i)) in
        let b = quiet (agent_of t (suc i)) in
        elim (suc i == suc m) as (λ x. (suc i == suc m) ≡ x → elim x [ true ↦ false | false ↦ waits (suc m) ] ≡ false → agent_at (slice_set s.agents (suc i - 1) a) m ≡ agent_at (slice_set t.agents (suc i - 1) b) m) [
          | true ↦ λ is h.
              let at : i ≡ m = omega (arith, from-number (suc i) (suc m) is) in
              ap (λ n. agent_at (slice_set s.agents n a) m) (sub-one i ∙ at)
              ∙ set-here s.agents t.agents m a b (calm-quiet waits s t q (suc i)) q.agents
              ∙ sym (ap (λ n. agent_at (slice_set t.agents n b) m) (sub-one i ∙ at))
          | false ↦ λ is h.
              let apart : i ≡ m → ⊥ = λ e. not-same (suc i) (suc m) is (ap suc e) in
              ap (λ n. agent_at (slice_set s.agents n a) m) (sub-one i) ∙ set-other s.agents i m a apart
              ∙ q.same (suc m) h
              ∙ sym (ap (λ n. agent_at (slice_set t.agents n b) m) (sub-one i) ∙ set-other t.agents i m b apart)
        ] refl h
