-- Agents, their own rows, and the tags of a party.
use Rattle.std.specs.Prelude.{ℕ, zero, suc, ◌+◌, ◌-◌, ◌==◌, Bool, true, false, not, ◌&&◌, ◌||◌, List, [], ◌∷◌, ◌++◌, Option, Some, None, unwrap_or, slice_get, slice_set}
use Rattle.std.specs.List.{list_any, list_all, enumerate_from}
use Rattle.std.specs.FinMap.Entries.{put, find}
use Rattle.std.specs.Ordering.{nat_cmp}
use Rattle.std.specs.Cmp.Lexicographic.{slice_cmp}
use Rattle.opfs_base.specs.Texts.{Text, same_text}
use Rattle.opfs_machine.specs.declared.own.Outline.{Outline}
use Rattle.opfs_machine.specs.declared.own.Outline.TheVariants as outline
use Rattle.opfs_machine.specs.declared.own.StreamOutline.{StreamOutline}
use Rattle.opfs_machine.specs.declared.own.HandleOutline.{HandleOutline}
use Rattle.opfs_machine.specs.declared.state.Agent.{Agent}
use Rattle.opfs_machine.specs.declared.state.Party.{Party}
use Rattle.opfs_machine.specs.declared.state.Party.TheVariants.{Origin, Alone}
use Rattle.opfs_machine.specs.declared.state.State.{State}
use Rattle.opfs_machine.specs.Contents.{Contents}

-- What stands for an agent that is not there.
abbrev pub nobody : {R : Type 0} → Agent R
nobody = record { key = None; grant = false; live = false; moment = 0; waits = None; own = [] }

-- The agent of a number among all agents: the first has the number 1.
abbrev pub agent_in : {R : Type 0} → List (Agent R) → ℕ → Agent R
agent_in agents zero = nobody
agent_in agents (suc k) = unwrap_or (slice_get agents k) nobody

-- The agent of a number.
abbrev pub agent_of : {F R : Type 0} → State F R → ℕ → Agent R
agent_of s k = agent_in s.agents k

-- The state with an agent changed.
abbrev pub with_agent : {F R : Type 0} → State F R → ℕ → Agent R → State F R
with_agent s k a = record s { agents = slice_set s.agents (k - 1) a }

-- The own row of a number.
abbrev pub own_of : {R : Type 0} → Agent R → ℕ → Option R
own_of a zero = None
own_of a (suc n) = slice_get a.own n

-- The state with an own row changed.
abbrev pub with_own : {F R : Type 0} → State F R → ℕ → ℕ → R → State F R
with_own s k n r = with_agent s k (record (agent_of s k) { own = slice_set (agent_of s k).own (n - 1) r })

-- The state with a further own row.
abbrev pub adds_own : {F R : Type 0} → State F R → ℕ → R → State F R
adds_own s k r = with_agent s k (record (agent_of s k) { own = (agent_of s k).own ++ r ∷ [] })

abbrev pub stream_in : Outline → Option StreamOutline
stream_in (outline.Stream w) = Some w
stream_in r = None

abbrev pub handle_in : Outline → Option HandleOutline
handle_in (outline.Handle h) = Some h
handle_in r = None

abbrev pub of_row : {R A : Type 0} → (R → Option A) → Option R → Option A
of_row f None = None
of_row f (Some r) = f r

-- The open stream of a number, and its own row.
abbrev pub open_stream : {F R : Type 0} → Contents F R → State F R → ℕ → ℕ → Option StreamOutline
open_stream c s k n = of_row (λ r. stream_in (c.outline r)) (own_of (agent_of s k) n)

-- The open access handle of a number.
abbrev pub open_handle : {F R : Type 0} → Contents F R → State F R → ℕ → ℕ → Option HandleOutline
open_handle c s k n = of_row (λ r. handle_in (c.outline r)) (own_of (agent_of s k) n)

abbrev pub is_open_row : Outline → Bool
is_open_row (outline.Stream w) = true
is_open_row (outline.Handle h) = true
is_open_row r = false

-- Whether an agent has an open stream or access handle.
abbrev pub has_open_row : {F R : Type 0} → Contents F R → State F R → ℕ → Bool
has_open_row c s k = list_any (λ r. is_open_row (c.outline r)) (agent_of s k).own

-- The party of the agent of a number.
abbrev pub party_with : Option Text → ℕ → Party
party_with None k = Alone k
party_with (Some key) k = Origin key

abbrev pub party_of : {F R : Type 0} → State F R → ℕ → Party
party_of s k = party_with (agent_of s k).key k

abbrev pub same_party : Party → Party → Bool
same_party (Origin a) (Origin b) = same_text a b
same_party (Origin a) (Alone k) = false
same_party (Alone k) (Origin b) = false
same_party (Alone k) (Alone j) = k == j

-- Whether a tag was posted among a party's.
abbrev pub is_posted : {F R : Type 0} → State F R → Party → Text → Bool
is_posted s party tag = list_any (λ p. same_party party p.party && same_text tag p.tag) s.posted

abbrev pub is_unposted : {F R : Type 0} → State F R → Party → Option Text → Bool
is_unposted s party None = false
is_unposted s party (Some tag) = not (is_posted s party tag)

-- Whether an agent of the party, if it is another than k and live, is stuck: it waits for a tag that is not posted.
abbrev pub is_no_help : {F R : Type 0} → State F R → ℕ → Party → ℕ × Agent R → Bool
is_no_help s k party numbered =
    numbered.0 == k || not numbered.1.live || not (same_party party (party_with numbered.1.key numbered.0))
    || is_unposted s party numbered.1.waits

-- Whether every other live agent of the agent's party is stuck.
abbrev pub others_stuck : {F R : Type 0} → State F R → ℕ → Bool
others_stuck s k = list_all (is_no_help s k (party_of s k)) (enumerate_from 1 s.agents)

abbrev pub waits_for : Option Text → Text → Bool
waits_for None tag = false
waits_for (Some other) tag = same_text other tag

-- When an origin was last used: the number of its last entry, 0 where there is none.
abbrev pub last_use : {F R : Type 0} → State F R → Text → ℕ
last_use s origin = unwrap_or (find (slice_cmp nat_cmp) origin s.used) 0

abbrev pub used_now : {F R : Type 0} → State F R → Option Text → List (Text × ℕ)
used_now s None = s.used
used_now s (Some origin) = put (slice_cmp nat_cmp) origin (s.entries + 1) s.used

-- The state with one more entry, which is the last use of its agent's origin.
abbrev pub counted : {F R : Type 0} → State F R → ℕ → State F R
counted s k = record s { entries = s.entries + 1; used = used_now s (agent_of s k).key }
