-- What is an agent's own, and which calls need nothing else. This project's own.
use Rattle.std.specs.Prelude.{ℕ, nat_le, Bool, true, false, List, Option, Some, None}
use Rattle.std.specs.List.{filter_map}
use Rattle.opfs_base.specs.Blocks.{blocks}
use Rattle.opfs_base.specs.Texts.{Text}
use Rattle.opfs_hist.specs.declared.op.Op.{Op}
use Rattle.opfs_hist.specs.declared.op.Op.TheVariants.{Values, Resolve, IsSameEntry, Slice, Write, Seek, Truncate, Close, Abort, SyncRead, SyncWrite, SyncTruncate, SyncGetSize, SyncFlush, SyncClose, Moment, Unbound}
use Rattle.opfs_machine.specs.declared.own.Own.{Own}
use Rattle.opfs_machine.specs.declared.own.Own.TheVariants as own
use Rattle.opfs_machine.specs.declared.state.State.{State}
use Rattle.opfs_machine.specs.Agents.{agent_of, own_of}
use Rattle.opfs_machine.specs.Replies.{bytes_at, sizes_in}
use Rattle.opfs_machine.specs.Rulings.{size_written}

-- An agent's rows, its clock, and the present bytes of the file of each of its open access handles.
pub record Mine : Type 0 where
  pub rows : List Own
  pub moment : ℕ
  pub files : List Text

abbrev pub handle_file : State Text Own → Own → Option Text
handle_file s (own.Handle h) = Some (bytes_at s h.file)
handle_file s r = None

abbrev pub mine : State Text Own → ℕ → Mine
mine s k = record {
  rows = (agent_of s k).own;
  moment = (agent_of s k).moment;
  files = filter_map (handle_file s) (agent_of s k).own;
}

-- Whether a stream is closed, or open with a reserve that a size fits.
abbrev pub fits_stream : Option Own → ℕ → Bool
fits_stream (Some (own.Stream w)) size = nat_le (blocks size) w.reserve
fits_stream (Some own.ClosedStream) size = true
fits_stream r size = false

abbrev pub is_closed_stream : Option Own → Bool
is_closed_stream (Some own.ClosedStream) = true
is_closed_stream r = false

abbrev pub is_closed_handle : Option Own → Bool
is_closed_handle (Some own.ClosedHandle) = true
is_closed_handle r = false

-- Whether a call needs only what is the agent's own: those that are never shared, every read of an access handle,
-- every write and truncate of a stream that fits its reserve, and all calls on what is closed.
unfoldable pub is_local : State Text Own → ℕ → Op → Bool
is_local s k (Values dir) = true
is_local s k (Resolve dir entry) = true
is_local s k (IsSameEntry entry other) = true
is_local s k (Slice n at len) = true
is_local s k (Write n bytes position) =
    fits_stream (own_of (agent_of s k) n) (size_written (sizes_in s (own_of (agent_of s k) n)) position bytes)
is_local s k (Seek n position) = true
is_local s k (Truncate n size) = fits_stream (own_of (agent_of s k) n) size
is_local s k (Close n) = is_closed_stream (own_of (agent_of s k) n)
is_local s k (Abort n) = is_closed_stream (own_of (agent_of s k) n)
is_local s k (SyncRead n len at) = true
is_local s k (SyncWrite n bytes at) = is_closed_handle (own_of (agent_of s k) n)
is_local s k (SyncTruncate n size) = is_closed_handle (own_of (agent_of s k) n)
is_local s k (SyncGetSize n) = true
is_local s k (SyncFlush n) = is_closed_handle (own_of (agent_of s k) n)
is_local s k (SyncClose n) = is_closed_handle (own_of (agent_of s k) n)
is_local s k (Moment ms) = true
is_local s k (Unbound word) = true
is_local s k op = false
