-- What a shared call asks of its caller: the standing conditions on numbers, rows and entries, and what it hands in. This
-- project's own.
use Rattle.std.specs.Prelude.{◌≡◌, ℕ, zero, suc, ◌<◌, ◌≤◌, ◌==◌, ◌||◌, ◌++◌, Bool, true, false, List, [], length, count_by, Option, Some, unwrap_or, IsTrue}
use Rattle.opfs_base.specs.Texts.{Text}
use Rattle.opfs_hist.specs.declared.entry.Entry.{Entry}
use Rattle.opfs_hist.specs.declared.op.Op.{Op}
use Rattle.opfs_hist.specs.declared.op.Op.TheVariants as op
use Rattle.opfs_machine.specs.declared.own.Own.{Own}
use Rattle.opfs_machine.specs.declared.own.Own.TheVariants as own
use Rattle.opfs_machine.specs.declared.state.State.{State}
use Rattle.opfs_machine.specs.Agents.{agent_of, own_of}
use Rattle.opfs_machine.specs.Histories.{may_enter, state_after}
use Rattle.opfs_machine.specs.Openings.{Opening}
use Rattle.opfs_machine.specs.Replies.{given_in, row_named}
use Rattle.opfs_machine.specs.Runs.{Call}
use Rattle.opfs_laws.specs.Histories.Unread.{ArePendingFor}
use Rattle.opfs_store.specs.Copies.Copies.{StandsFor}
use Rattle.opfs_work.specs.Works.{WorkingCopy}

-- Whether a call may be made under the turn, by its word alone. The others need only what is the agent's own; of a read, a
-- write and a truncate it depends on the row.
abbrev pub is_shared : Op → Bool
is_shared (op.Values dir) = false
is_shared (op.Resolve dir entry) = false
is_shared (op.IsSameEntry entry other) = false
is_shared (op.Slice n at len) = false
is_shared (op.Seek n position) = false
is_shared (op.SyncGetSize n) = false
is_shared (op.Moment ms) = false
is_shared (op.Unbound word) = false
is_shared (op.Evict unit) = false
is_shared called = true

-- Positions, sizes and lengths are whole numbers of a script, and a call writes 16 MiB at most.
abbrev pub IsSmall : ℕ → Type 0
IsSmall n = n ≤ 9007199254740991

abbrev pub IsSmallPlace : Option ℕ → Type 0
IsSmallPlace place = IsSmall (unwrap_or place 0)

abbrev pub IsSmallData : Text → Type 0
IsSmallData bytes = length bytes ≤ 16777216

unfoldable pub HasSmallNumbers : Op → Type 0
HasSmallNumbers (op.Write n bytes position) = IsSmallData bytes × IsSmallPlace position
HasSmallNumbers (op.Truncate n size) = IsSmall size
HasSmallNumbers (op.SyncRead n len at) = IsSmall len × IsSmallPlace at
HasSmallNumbers (op.SyncWrite n bytes at) = IsSmallData bytes × IsSmallPlace at
HasSmallNumbers (op.SyncTruncate n size) = IsSmall size
HasSmallNumbers called = Unit {0}

-- Whether an own row is an open stream or access handle.
abbrev pub is_open_own : Option Own → Bool
is_open_own (Some (own.Stream w)) = true
is_open_own (Some (own.Handle h)) = true
is_open_own r = false

-- What a call names is open: calls on a closed stream or access handle are local.
abbrev pub names_open : State Text Own → ℕ → Op → Bool
names_open s k called = row_named called == 0 || is_open_own (own_of (agent_of s k) (row_named called))

-- The names that a next's iterator has given; none of any other call.
abbrev pub given_by : State Text Own → ℕ → Op → List Text
given_by s k (op.Next n dir) = given_in (own_of (agent_of s k) n)
given_by s k called = []

-- There is an agent of this number.
pub record IsThere (s : State Text Own) (k : ℕ) : Type 0 where
  pub above : 0 < k
  pub within : k ≤ length s.agents

-- The agent has room for a row and an entry more.
pub record HasPlace (o : Opening) (known : List Entry) (k : ℕ) : Type 0 where
  pub rows : length (agent_of (state_after o known) k).own ≤ 60000000
  pub entries : count_by (λ e. e.agent == k) known ≤ 60000001

-- A working copy that stands for no row yet.
abbrev pub IsFresh : WorkingCopy → Type 0
IsFresh work = (work.pages ≡ []) × (work.length ≡ 0) × (work.position ≡ 0) × (work.reserve ≡ 0)

-- The working copy that a call hands in: that of the row that it names, or else a fresh one.
abbrev pub IsHandedIn : Type 0 → Opening → List Entry → ℕ → ℕ → WorkingCopy → Type 0
IsHandedIn tells o known k zero work = IsFresh work
IsHandedIn tells o known k (suc n) work = StandsFor tells o known k (suc n) work

-- An agent may make a shared call after a history and its own pending calls, with this working copy and these names that
-- its iterator has given.
pub record MayAct (tells : Type 0) (o : Opening) (h calls : List Entry) (c : Call) (work : WorkingCopy) (past : List Text) : Type 0 where
  pub live : IsTrue (agent_of (state_after o (h ++ calls)) c.agent).live
  pub pending : ArePendingFor tells (state_after o h) c.agent calls
  pub place : HasPlace o (h ++ calls) c.agent
  pub shared : IsTrue (is_shared c.op)
  pub fitting : IsTrue (may_enter (state_after o (h ++ calls)) c.agent c.op)
  pub opened : IsTrue (names_open (state_after o (h ++ calls)) c.agent c.op)
  pub numbers : HasSmallNumbers c.op
  pub copy : IsHandedIn tells o (h ++ calls) c.agent (row_named c.op) work
  pub given : past ≡ given_by (state_after o (h ++ calls)) c.agent c.op

-- An agent's pending calls may be taken in after a history without a call.
pub record MayTakePending (tells : Type 0) (o : Opening) (h calls : List Entry) (k : ℕ) : Type 0 where
  pub live : IsTrue (agent_of (state_after o (h ++ calls)) k).live
  pub pending : ArePendingFor tells (state_after o h) k calls
  pub place : HasPlace o (h ++ calls) k
