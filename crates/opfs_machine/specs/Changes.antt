-- What a history does to what is stored for good. This project's own.
use Rattle.std.specs.Prelude.{ℕ, ◌+◌, Bool, true, false, not, ◌&&◌, if◌then◌else◌, List, [], ◌∷◌, ◌++◌, map, fold, filter, Option, Some, None}
use Rattle.std.specs.FinMap.Entries.{put}
use Rattle.std.specs.Ordering.{nat_cmp}
use Rattle.std.specs.Cmp.Lexicographic.{slice_cmp}
use Rattle.opfs_base.specs.Texts.{Text}
use Rattle.opfs_base.specs.Places.{Place, place_cmp, place_of, child, is_within}
use Rattle.opfs_base.specs.Units.{unit_of}
use Rattle.opfs_hist.specs.declared.entry.Entry.{Entry}
use Rattle.opfs_hist.specs.declared.op.Op.{Op}
use Rattle.opfs_hist.specs.declared.op.Op.TheVariants.{GetDirectory, GetDirectoryHandle, GetFileHandle, RemoveEntry, Close, SyncFlush, SyncClose, Persist, Evict}
use Rattle.opfs_machine.specs.declared.own.HandleOutline.{HandleOutline}
use Rattle.opfs_machine.specs.declared.own.Own.{Own}
use Rattle.opfs_machine.specs.declared.own.Own.TheVariants as own
use Rattle.opfs_machine.specs.declared.state.FileRow.{FileRow}
use Rattle.opfs_machine.specs.declared.state.Row.{Row}
use Rattle.opfs_machine.specs.declared.state.Row.TheVariants as row
use Rattle.opfs_machine.specs.declared.state.State.{State}
use Rattle.opfs_machine.specs.Agents.{agent_of, own_of, open_handle}
use Rattle.opfs_machine.specs.Contents.{in_bytes}
use Rattle.opfs_machine.specs.Effects.{moment_of}
use Rattle.opfs_machine.specs.Histories.{after_entry}
use Rattle.opfs_machine.specs.Openings.{Opening, Map, Stored, folder, document, begun}
use Rattle.opfs_machine.specs.Ordered.{insert_by}
use Rattle.opfs_machine.specs.Rows.{row_at, file_at}
use Rattle.opfs_machine.specs.Rulings.{is_read_write}
use Rattle.opfs_machine.specs.Steps.{is_refusal}
use Rattle.opfs_machine.specs.Sums.{is_persistent}

-- One change of what is stored for good. A content is told with its time stamp and its bytes.
pub data Change : Type 0 where
  make_root : Text → Change
  make_directory : Place → Change
  make_file : Place → ℕ → Change
  remove : Place → Change
  content : Place → ℕ → Text → Change
  persist : Text → Change
  evict : Text → Change

-- One change, where nothing stands yet.
abbrev pub where_missing : Option (Row Text) → Change → List Change
where_missing None change = change ∷ []
where_missing (Some r) change = []

abbrev pub root_made : State Text Own → Text → Option Text → List Change
root_made s bucket None = []
root_made s bucket (Some origin) = where_missing (row_at s (unit_of origin bucket, [])) (make_root (unit_of origin bucket))

-- What closing a stream stores.
abbrev pub stream_stored : ℕ → Option Own → List Change
stream_stored stamp (Some (own.Stream w)) = content w.file stamp w.buffer ∷ []
stream_stored stamp r = []

abbrev pub file_stored : Place → Option (FileRow Text) → List Change
file_stored file None = []
file_stored file (Some f) = content file f.stamp f.present ∷ []

-- What flushing or closing an access handle stores: nothing for a read-only or closed one.
abbrev pub handle_stored : State Text Own → Option HandleOutline → List Change
handle_stored s None = []
handle_stored s (Some h) = elim (is_read_write h.mode) [ true ↦ file_stored h.file (file_at s h.file) | false ↦ [] ]

abbrev pub mode_changed : State Text Own → Bool → Text → Option Text → List Change
mode_changed s grant bucket None = []
mode_changed s grant bucket (Some origin) =
    if grant && not (is_persistent s (unit_of origin bucket)) then persist (unit_of origin bucket) ∷ [] else []

-- What a call that is not refused stores.
unfoldable pub stored_by : State Text Own → ℕ → Op → List Change
stored_by s k (GetDirectory bucket) = root_made s bucket (agent_of s k).key
stored_by s k (GetDirectoryHandle dir name create) =
    where_missing (row_at s (child (place_of dir) name)) (make_directory (child (place_of dir) name))
stored_by s k (GetFileHandle dir name create) =
    where_missing (row_at s (child (place_of dir) name)) (make_file (child (place_of dir) name) (moment_of s k))
stored_by s k (RemoveEntry dir name recursive) = remove (child (place_of dir) name) ∷ []
stored_by s k (Close n) = stream_stored (moment_of s k) (own_of (agent_of s k) n)
stored_by s k (SyncFlush n) = handle_stored s (open_handle in_bytes s k n)
stored_by s k (SyncClose n) = handle_stored s (open_handle in_bytes s k n)
stored_by s k (Persist bucket) = mode_changed s (agent_of s k).grant bucket (agent_of s k).key
stored_by s k (Evict unit) = evict unit ∷ []
stored_by s k op = []

-- What an entry stores: a refused one nothing.
abbrev pub entry_changes : State Text Own → Entry → List Change
entry_changes s e = elim (is_refusal e.reply) [ true ↦ [] | false ↦ stored_by s e.agent e.op ]

abbrev pub changes_from : State Text Own → List Entry → List Change
changes_from s [] = []
changes_from s (e ∷ es) = entry_changes s e ++ changes_from (after_entry s e) es

-- What the entries of a history store, in order.
abbrev pub changes : Opening → List Entry → List Change
changes o es = changes_from (begun o) es

abbrev pub stored_at : Map → Place → Stored → Map
stored_at m place x = record m { rows = put place_cmp place x m.rows }

abbrev pub stored_without : Map → Place → Map
stored_without m place = record m { rows = filter (λ e. not (is_within place e.0)) m.rows }

-- What is stored after a change.
abbrev pub changed : Map → Change → Map
changed m (make_root unit) = stored_at m (unit, []) folder
changed m (make_directory place) = stored_at m place folder
changed m (make_file place stamp) = stored_at m place (document [] stamp)
changed m (remove place) = stored_without m place
changed m (content place stamp bytes) = stored_at m place (document bytes stamp)
changed m (persist unit) = record m { persistent = insert_by (slice_cmp nat_cmp) unit m.persistent }
changed m (evict unit) = stored_without m (unit, [])

-- What is stored after a list of changes.
abbrev pub durable : Opening → List Change → Map
durable o told = fold changed o.stored told

abbrev pub durable_row : Row Text → Stored
durable_row row.Directory = folder
durable_row (row.File f) = document f.durable f.durable_stamp

-- The part of a state that is stored for good.
abbrev pub durable_part : State Text Own → Map
durable_part s = record { rows = map (λ e. (e.0, durable_row e.1)) s.rows; persistent = s.persistent }

abbrev pub is_content : Change → Bool
is_content (content place stamp bytes) = true
is_content change = false

abbrev pub floor_from : ℕ → ℕ → List Change → ℕ
floor_from last at [] = last
floor_from last at (change ∷ told) = elim (is_content change) [ true ↦ floor_from (at + 1) (at + 1) told | false ↦ floor_from last (at + 1) told ]

-- How many changes there are up to and with the last content; 0 without one.
abbrev pub floor : List Change → ℕ
floor told = floor_from 0 0 told
