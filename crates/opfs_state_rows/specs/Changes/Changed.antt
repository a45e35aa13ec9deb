-- What a call leaves of the tree's rows, and which extents it lets go. This project's own.
use Rattle.std.specs.Prelude.{◌≡◌, ℕ, ◌+◌, max, Bool, true, false, if◌then◌else◌, List, [], ◌++◌, length, Option, Some, None, unwrap_or}
use Rattle.std.specs.FinMap.Entries.{put}
use Rattle.opfs_base.specs.Places.{Place, place_cmp, place_of, child}
use Rattle.opfs_base.specs.declared.extents.Extent.{Extent}
use Rattle.opfs_base.specs.declared.locator.Kind.{Kind}
use Rattle.opfs_hist.specs.declared.op.Mode.{Mode}
use Rattle.opfs_hist.specs.declared.op.Op.{Op}
use Rattle.opfs_hist.specs.declared.op.Op.TheVariants as op
use Rattle.opfs_locks.specs.declared.Want.TheVariants as want
use Rattle.opfs_machine.specs.declared.own.HandleOutline.{HandleOutline}
use Rattle.opfs_machine.specs.declared.own.StreamOutline.{StreamOutline}
use Rattle.opfs_machine.specs.declared.state.Sizes.{Sizes}
use Rattle.opfs_machine.specs.Agents.{open_stream, open_handle, counted}
use Rattle.opfs_machine.specs.Contents.{in_lengths}
use Rattle.opfs_machine.specs.Effects.{effect, moment_of}
use Rattle.opfs_machine.specs.Rulings.{start_of, want_of, is_read_write}
use Rattle.opfs_tree.specs.Ready.Ready.{new_row}
use Rattle.opfs_state_rows.specs.Standing.Contents.{undone_row}
use Rattle.opfs_state_rows.specs.Standing.Seen.{Machine, Seen}
use Rattle.opfs_state_rows.specs.Changes.Asking.{place_for}
use Rattle.opfs_tree.specs.declared.row.FileRow.{FileRow}
use Rattle.opfs_tree.specs.Rows.{Rows, file_at, extents_within, without, change_at, locked, unlocked, stored, written}

-- The file with another content, in other blocks, or in those that it has where none are told.
abbrev pub stored_in : ℕ → ℕ → Option (List Extent) → FileRow → FileRow
stored_in length stamp extents f = stored length stamp (unwrap_or extents f.extents) f

-- The file whose present bytes are stored for good, alike.
abbrev pub flushed_in : Option (List Extent) → FileRow → FileRow
flushed_in extents f = record f { length = f.present; stamp = f.present_stamp; extents = unwrap_or extents f.extents }

abbrev pub grown_by : Rows → ℕ → Option (Place × Kind) → Rows
grown_by t moment None = t
grown_by t moment (Some e) = put place_cmp e.0 (new_row e.1 moment) t

abbrev pub closed_by : Rows → ℕ → ℕ → Option (List Extent) → Option StreamOutline → Rows
closed_by t size moment extents None = t
closed_by t size moment extents (Some w) = change_at w.file unlocked (change_at w.file (stored_in size moment extents) t)

abbrev pub aborted_by : Rows → Option StreamOutline → Rows
aborted_by t None = t
aborted_by t (Some w) = change_at w.file unlocked t

abbrev pub overwritten_by : Rows → (FileRow → FileRow) → Option HandleOutline → Rows
overwritten_by t change None = t
overwritten_by t change (Some h) = change_at h.file change t

-- By a handle that may write; a read-only one changes nothing.
abbrev pub changed_by : Rows → Mode → Place → (FileRow → FileRow) → Rows
changed_by t mode file change = if is_read_write mode then change_at file change t else t

abbrev pub flushed_by : Rows → Option (List Extent) → Option HandleOutline → Rows
flushed_by t extents None = t
flushed_by t extents (Some h) = changed_by t h.mode h.file (flushed_in extents)

abbrev pub ended_by : Rows → (FileRow → FileRow) → Option HandleOutline → Rows
ended_by t change None = t
ended_by t change (Some h) = change_at h.file unlocked (changed_by t h.mode h.file change)

-- The tree's rows after a call that is not refused, over a machine and the tree's rows.
unfoldable pub tree_by : Machine → Rows → ℕ → Op → Sizes → Option (List Extent) → Rows
tree_by m t k (op.RemoveEntry dir name recursive) z extents = without (child (place_of dir) name) t
tree_by m t k (op.CreateWritable at keep) z extents = change_at (place_of at) (locked want.Shared) t
tree_by m t k (op.CreateSyncAccessHandle at mode) z extents = change_at (place_of at) (locked (want_of mode)) t
tree_by m t k (op.Close n) z extents = closed_by t z.size (moment_of m k) extents (open_stream in_lengths m k n)
tree_by m t k (op.Abort n) z extents = aborted_by t (open_stream in_lengths m k n)
tree_by m t k (op.SyncWrite n bytes at) z extents =
    overwritten_by t (λ f. written (max f.present (start_of z at + length bytes)) (moment_of m k) f) (open_handle in_lengths m k n)
tree_by m t k (op.SyncTruncate n size) z extents = overwritten_by t (written size (moment_of m k)) (open_handle in_lengths m k n)
tree_by m t k (op.SyncFlush n) z extents = flushed_by t extents (open_handle in_lengths m k n)
tree_by m t k (op.SyncClose n) z extents = ended_by t (flushed_in extents) (open_handle in_lengths m k n)
tree_by m t k (op.Discard n) z extents = ended_by t undone_row (open_handle in_lengths m k n)
tree_by m t k o z extents = grown_by t (moment_of m k) (place_for m k o)

abbrev pub tree_after : Seen → ℕ → Op → Sizes → Option (List Extent) → Rows
tree_after s k o z extents = tree_by s.machine s.tree k o z extents

abbrev pub extents_in : Option FileRow → List Extent
extents_in None = []
extents_in (Some f) = f.extents

-- The extents that a file had, where it is stored in others.
abbrev pub replaced_at : Rows → Place → Option (List Extent) → List Extent
replaced_at t place None = []
replaced_at t place (Some extents) = extents_in (file_at place t)

abbrev pub stream_frees : Rows → Option (List Extent) → Option StreamOutline → List Extent
stream_frees t extents None = []
stream_frees t extents (Some w) = replaced_at t w.file extents

abbrev pub handle_frees : Rows → Option (List Extent) → Option HandleOutline → List Extent
handle_frees t extents None = []
handle_frees t extents (Some h) = if is_read_write h.mode then replaced_at t h.file extents else []

-- The extents that a call lets go.
unfoldable pub freed_in : Machine → Rows → ℕ → Op → Option (List Extent) → List Extent
freed_in m t k (op.RemoveEntry dir name recursive) extents = extents_within (child (place_of dir) name) t
freed_in m t k (op.Close n) extents = stream_frees t extents (open_stream in_lengths m k n)
freed_in m t k (op.SyncFlush n) extents = handle_frees t extents (open_handle in_lengths m k n)
freed_in m t k (op.SyncClose n) extents = handle_frees t extents (open_handle in_lengths m k n)
freed_in m t k o extents = []

abbrev pub freed_by : Seen → ℕ → Op → Option (List Extent) → List Extent
freed_by s k o extents = freed_in s.machine s.tree k o extents

-- The machine and the tree after a call.
pub record IsDone (s new : Seen) (z : Sizes) (k : ℕ) (o : Op) (extents : Option (List Extent)) : Type 0 where
  pub machine : new.machine ≡ counted (effect in_lengths s.machine z k o) k
  pub tree : new.tree ≡ tree_after s k o z extents
