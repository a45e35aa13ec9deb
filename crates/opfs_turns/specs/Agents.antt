-- What is seen of an agent between its calls, and what its type keeps. This project's own.
use Rattle.std.specs.Prelude.{◌≡◌, ◌≢◌, ℕ, ◌+◌, ◌==◌, not, ◌&&◌, Bool, true, false, List, ◌++◌, length, count_by, Option, IsTrue}
use Rattle.opfs_base.specs.Texts.{Text}
use Rattle.opfs_hall.specs.Seen.{PassSeen}
use Rattle.opfs_hist.specs.declared.entry.Entry.{Entry}
use Rattle.opfs_hist.specs.declared.op.Op.{Op}
use Rattle.opfs_hist.specs.declared.op.Op.TheVariants.{Wait}
use Rattle.opfs_machine.specs.declared.own.Own.{Own}
use Rattle.opfs_machine.specs.declared.state.State.{State}
use Rattle.opfs_machine.specs.Agents.{agent_of, own_of}
use Rattle.opfs_machine.specs.Histories.{state_after}
use Rattle.opfs_machine.specs.Openings.{Opening}
use Rattle.opfs_laws.specs.Histories.Unread.{IsTold, ArePendingFor}
use Rattle.opfs_turns.specs.declared.notes.Notes.{Notes}

-- Its pass with the list that it has seen, the machine's opening of its store, its local calls that are not entered yet, its
-- key, the number of its next entry, how many entries and how many own rows it has, and the tag that it waits for.
pub record AgentSeen (O : Type 0) : Type 0 where
  pub pass : PassSeen O Entry
  pub opening : Opening
  pub pending : List Entry
  pub key : Option Text
  pub number : ℕ
  pub entries : ℕ
  pub rows : ℕ
  pub waiting : Option Text

-- An agent as its pass and its notes tell.
abbrev pub seen : {O : Type 0} → (O → Opening) → PassSeen O Entry → Notes → AgentSeen O
seen opened pass notes = record {
  pass = pass;
  opening = opened pass.hall.opening;
  pending = notes.pending;
  key = notes.key;
  number = notes.number;
  entries = notes.entries;
  rows = notes.rows;
  waiting = notes.waiting;
}

-- The entries that an agent knows: those that it has seen, and its own that are not entered yet.
abbrev pub known : {O : Type 0} → AgentSeen O → List Entry
known a = a.pass.base ++ a.pending

-- The state after these. All that an agent asks and is answered is said of it.
abbrev pub state_of : {O : Type 0} → AgentSeen O → State Text Own
state_of a = state_after a.opening (known a)

-- Its own row of a number.
abbrev pub own_row : {O : Type 0} → AgentSeen O → ℕ → Option Own
own_row a n = own_of (agent_of (state_of a) a.pass.agent) n

-- The entries of an agent.
abbrev pub entries_of : ℕ → List Entry → ℕ
entries_of k es = count_by (λ e. e.agent == k) es

abbrev pub is_wait : Op → Bool
is_wait (Wait tag) = true
is_wait called = false

-- The number of an agent's next entry: waits have none of their own.
abbrev pub next_number : ℕ → List Entry → ℕ
next_number k es = 1 + count_by (λ e. (e.agent == k) && not (is_wait e.op)) es

-- What an agent keeps between its calls.
pub record IsAgent {O : Type 0} (tells : Type 0) (a : AgentSeen O) : Type 0 where
  pub idle : a.pass.busy ≡ false
  pub real : a.pass.agent ≢ 0
  pub legal : IsTold tells a.opening a.pass.base
  pub local : ArePendingFor tells (state_after a.opening a.pass.base) a.pass.agent a.pending
  pub live : IsTrue (agent_of (state_of a) a.pass.agent).live
  pub own_key : (agent_of (state_of a) a.pass.agent).key ≡ a.key
  pub numbered : a.number ≡ next_number a.pass.agent (known a)
  pub counted : a.entries ≡ entries_of a.pass.agent (known a)
  pub made : a.rows ≡ length (agent_of (state_of a) a.pass.agent).own
  pub waits : (agent_of (state_of a) a.pass.agent).waits ≡ a.waiting
