-- The rows of an agent in the hands of what runs its script. This project's own.
use Rattle.std.specs.Prelude.{◌≡◌, ℕ, suc, List, map, length, slice_get, Result, Ok, Err, Some}
use Rattle.opfs_base.specs.Texts.{Text}
use Rattle.opfs_hist.specs.declared.op.Op.{Op}
use Rattle.opfs_hist.specs.declared.op.Op.TheVariants as op
use Rattle.opfs_hist.specs.declared.reply.Reply.{Reply}
use Rattle.opfs_machine.specs.declared.own.Own.TheVariants as own
use Rattle.opfs_laws.specs.Leaving.{row_used}
use Rattle.opfs_turns.specs.Agents.{AgentSeen, own_row}
use Rattle.opfs_turns.specs.Asking.Rows.{HasStream, HasHandle, HasSnapshot, HasIterator, HasClosedStream, HasClosedHandle}
use Rattle.opfs_turns.specs.declared.asking.stop.Stop.{Stop}
use Rattle.opfs_runner.specs.RunLaws.Kinds as rows
use Rattle.opfs_runner.specs.RunLaws.Kinds.{RowKind, kinds_after, sort_of}
use Rattle.opfs_runner.specs.declared.agent_rows.agent_row.AgentRow.{AgentRow}
use Rattle.opfs_runner.specs.declared.agent_rows.agent_row.AgentRow.TheVariants as agent_row
use Rattle.opfs_runner.specs.declared.agent_rows.uses.Use.{Use}
use Rattle.opfs_runner.specs.declared.agent_rows.uses.Use.TheVariants as uses

abbrev pub kind_of : AgentRow → RowKind
kind_of (agent_row.Stream w) = rows.stream
kind_of (agent_row.ClosedStream c) = rows.closed_stream
kind_of (agent_row.Handle h) = rows.handle
kind_of (agent_row.ClosedHandle c) = rows.closed_handle
kind_of (agent_row.Snapshot s) = rows.snapshot
kind_of agent_row.Gone = rows.gone
kind_of (agent_row.Iterator i) = rows.iterator i.dir
kind_of agent_row.Taken = rows.taken

abbrev pub kinds_of : List AgentRow → List RowKind
kinds_of agent_rows = map kind_of agent_rows

-- The agent has its own row of a number as a agent_row says.
abbrev pub HasAgentRow : {O : Type 0} → Type 0 → AgentSeen O → ℕ → AgentRow → Type 0
HasAgentRow tells a n (agent_row.Stream w) = (w.row ≡ n) × HasStream tells a w
HasAgentRow tells a n (agent_row.ClosedStream c) = (c.row ≡ n) × HasClosedStream a c.row
HasAgentRow tells a n (agent_row.Handle h) = (h.row ≡ n) × HasHandle tells a h
HasAgentRow tells a n (agent_row.ClosedHandle c) = (c.row ≡ n) × HasClosedHandle a c.row
HasAgentRow tells a n (agent_row.Snapshot s) = (s.row ≡ n) × HasSnapshot tells a s
HasAgentRow tells a n agent_row.Gone = (bytes : Text) × (own_row a n ≡ Some (own.Snapshot bytes))
HasAgentRow tells a n (agent_row.Iterator i) = (i.row ≡ n) × HasIterator a i
HasAgentRow tells a n agent_row.Taken = ⊥

-- All own rows of the agent are in these agent_rows, in the order of their numbers.
pub record HasTable {O : Type 0} (tells : Type 0) (a : AgentSeen O) (agent_rows : List AgentRow) : Type 0 where
  pub count : length agent_rows ≡ a.rows
  pub each : (i : ℕ) (s : AgentRow) → slice_get agent_rows i ≡ Some s → HasAgentRow tells a (suc i) s

-- What the rows are after a call, by its answer.
abbrev pub kinds_told : List RowKind → Op → Result Reply Stop → List RowKind
kinds_told kinds o (Ok answered) = kinds_after kinds o answered
kinds_told kinds o (Err why) = kinds

-- How a call uses the rows: it leaves all, it makes one, or it is lent one or spends one.
abbrev pub use_of : Op → Use
use_of (op.Values dir) = uses.Makes
use_of (op.GetFile at) = uses.Makes
use_of (op.CreateWritable at keep) = uses.Makes
use_of (op.CreateSyncAccessHandle at mode) = uses.Makes
use_of (op.Next n dir) = uses.Lends n
use_of (op.Slice n at len) = uses.Lends n
use_of (op.Write n bytes position) = uses.Lends n
use_of (op.Seek n position) = uses.Lends n
use_of (op.Truncate n size) = uses.Lends n
use_of (op.SyncRead n len at) = uses.Lends n
use_of (op.SyncWrite n bytes at) = uses.Lends n
use_of (op.SyncTruncate n size) = uses.Lends n
use_of (op.SyncGetSize n) = uses.Lends n
use_of (op.SyncFlush n) = uses.Lends n
use_of (op.Close n) = uses.Spends n
use_of (op.Abort n) = uses.Spends n
use_of (op.SyncClose n) = uses.Spends n
use_of o = uses.Plain

-- The number of the row that a call is lent or spends; 0 where it leaves all.
abbrev pub row_lent : Op → ℕ
row_lent (op.Slice n at len) = n
row_lent o = row_used o

-- A call is lent a row of this kind: a stream, an access handle, a snapshot, or an iterator over its directory.
abbrev pub IsLent : Op → RowKind → Type 0
IsLent (op.Write n bytes position) kind = sort_of kind ≡ rows.stream
IsLent (op.Seek n position) kind = sort_of kind ≡ rows.stream
IsLent (op.Truncate n size) kind = sort_of kind ≡ rows.stream
IsLent (op.SyncRead n len at) kind = sort_of kind ≡ rows.handle
IsLent (op.SyncWrite n bytes at) kind = sort_of kind ≡ rows.handle
IsLent (op.SyncTruncate n size) kind = sort_of kind ≡ rows.handle
IsLent (op.SyncGetSize n) kind = sort_of kind ≡ rows.handle
IsLent (op.SyncFlush n) kind = sort_of kind ≡ rows.handle
IsLent (op.Slice n at len) kind = kind ≡ rows.snapshot
IsLent (op.Next n dir) kind = kind ≡ rows.iterator dir
IsLent o kind = ⊥

-- A call spends a row of this kind.
abbrev pub IsSpent : Op → RowKind → Type 0
IsSpent (op.Close n) kind = sort_of kind ≡ rows.stream
IsSpent (op.Abort n) kind = sort_of kind ≡ rows.stream
IsSpent (op.SyncClose n) kind = sort_of kind ≡ rows.handle
IsSpent o kind = ⊥

-- What is left of a row that was spent.
abbrev pub closed_of : RowKind → RowKind
closed_of rows.stream = rows.closed_stream
closed_of rows.handle = rows.closed_handle
closed_of kind = kind

abbrev pub kind_left : RowKind → Result Reply Stop → RowKind
kind_left kind (Ok answered) = closed_of kind
kind_left kind (Err why) = kind
