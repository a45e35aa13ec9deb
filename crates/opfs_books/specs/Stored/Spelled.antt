-- What a call spells, where it stores something. This project's own.
use Rattle.std.specs.Prelude.{◌≡◌, ℕ, Bool, true, not, ◌&&◌, if◌then◌else◌, List, [], ◌∷◌, Option, Some, None, unwrap_or}
use Rattle.opfs_base.specs.Places.{Place, place_of, child}
use Rattle.opfs_base.specs.Texts.{Text}
use Rattle.opfs_base.specs.Units.{unit_of}
use Rattle.opfs_base.specs.declared.extents.Extent.{Extent}
use Rattle.opfs_base.specs.declared.locator.Kind.{Kind}
use Rattle.opfs_base.specs.declared.locator.Kind.TheVariants as kind
use Rattle.opfs_state_rows.specs.Changes.Asking.{place_for}
use Rattle.opfs_codec.specs.declared.change.Change.{Change as Spelled}
use Rattle.opfs_codec.specs.declared.change.Change.TheVariants.{MakeRoot, MakeDir, MakeFile, Remove, Content, Persist}
use Rattle.opfs_commit.specs.Making.{told_as}
use Rattle.opfs_hist.specs.declared.op.Op.{Op}
use Rattle.opfs_hist.specs.declared.op.Op.TheVariants as op
use Rattle.opfs_machine.specs.declared.own.HandleOutline.{HandleOutline}
use Rattle.opfs_machine.specs.declared.own.Own.{Own}
use Rattle.opfs_machine.specs.declared.own.StreamOutline.{StreamOutline}
use Rattle.opfs_machine.specs.declared.state.FileRow.{FileRow as File}
use Rattle.opfs_machine.specs.declared.state.Sizes.{Sizes}
use Rattle.opfs_machine.specs.declared.state.State.{State}
use Rattle.opfs_machine.specs.Agents.{agent_of, own_of, open_stream, open_handle}
use Rattle.opfs_machine.specs.Changes.{Change}
use Rattle.opfs_machine.specs.Contents.{in_bytes, in_lengths, buffer_of}
use Rattle.opfs_machine.specs.Effects.{moment_of}
use Rattle.opfs_machine.specs.Rows.{file_at}
use Rattle.opfs_machine.specs.Rulings.{is_read_write}
use Rattle.opfs_machine.specs.Sums.{is_persistent}
use Rattle.opfs_codec.specs.declared.change.Format.TheVariants.{New}
use Rattle.opfs_records.specs.Replay.Applying.{can_hold, tried}
use Rattle.opfs_records.specs.Replay.Built.{Built, named_beside}
use Rattle.opfs_records.specs.Checkpoint.Written.{stored_rows}
use Rattle.opfs_state_rows.specs.Standing.Seen.{Machine}
use Rattle.opfs_tree.specs.Rows.{Rows}
use Rattle.opfs_tree.specs.Rows.{file_at as tree_file_at}
use Rattle.opfs_tree.specs.declared.row.FileRow.{FileRow}

-- The row that a call makes.
abbrev pub dir_spelled : Text → List Text → Spelled
dir_spelled unit [] = MakeRoot unit
dir_spelled unit (name ∷ names) = MakeDir unit (name ∷ names)

abbrev pub row_spelled : ℕ → Place → Kind → Spelled
row_spelled moment place kind.Directory = dir_spelled place.0 place.1
row_spelled moment place kind.File = MakeFile place.0 place.1 moment

abbrev pub made_spelled : ℕ → Option (Place × Kind) → Option Spelled
made_spelled moment None = None
made_spelled moment (Some e) = Some (row_spelled moment e.0 e.1)

-- The content that a call gives the file at a place: in these extents, or in those that the file has.
abbrev pub content_spelled : Place → ℕ → ℕ → Option (List Extent) → Option FileRow → Option Spelled
content_spelled file size stamp extents None = None
content_spelled file size stamp extents (Some f) = Some (Content file.0 file.1 stamp size (unwrap_or extents f.extents))

abbrev pub stream_spelled : Rows → ℕ → ℕ → Option (List Extent) → Option StreamOutline → Option Spelled
stream_spelled t size stamp extents None = None
stream_spelled t size stamp extents (Some w) = content_spelled w.file size stamp extents (tree_file_at w.file t)

abbrev pub flush_spelled : Place → Option (List Extent) → Option FileRow → Option Spelled
flush_spelled file extents None = None
flush_spelled file extents (Some f) = Some (Content file.0 file.1 f.present_stamp f.present (unwrap_or extents f.extents))

abbrev pub handle_spelled : Rows → Option (List Extent) → Option HandleOutline → Option Spelled
handle_spelled t extents None = None
handle_spelled t extents (Some h) = if is_read_write h.mode then flush_spelled h.file extents (tree_file_at h.file t) else None

-- The mode that a call with the grant gives a unit that has another.
abbrev pub mode_spelled : Machine → Bool → Text → Option Text → Option Spelled
mode_spelled m grant bucket None = None
mode_spelled m grant bucket (Some origin) = if grant && not (is_persistent m (unit_of origin bucket)) then Some (Persist (unit_of origin bucket)) else None

unfoldable pub spelled_by : Machine → Rows → ℕ → Op → Sizes → Option (List Extent) → Option Spelled
spelled_by m t k (op.RemoveEntry dir name recursive) z extents = Some (Remove dir.key (child (place_of dir) name).1)
spelled_by m t k (op.Close n) z extents = stream_spelled t z.size (moment_of m k) extents (open_stream in_lengths m k n)
spelled_by m t k (op.SyncFlush n) z extents = handle_spelled t extents (open_handle in_lengths m k n)
spelled_by m t k (op.SyncClose n) z extents = handle_spelled t extents (open_handle in_lengths m k n)
spelled_by m t k (op.Persist bucket) z extents = mode_spelled m (agent_of m k).grant bucket (agent_of m k).key
spelled_by m t k o z extents = made_spelled (moment_of m k) (place_for m k o)

-- The bytes of the content that a call stores.
abbrev pub bytes_in : Option (File Text) → Text
bytes_in None = []
bytes_in (Some f) = f.present

abbrev pub stream_bytes : Option Own → Text
stream_bytes None = []
stream_bytes (Some r) = buffer_of r

abbrev pub handle_bytes : State Text Own → Option HandleOutline → Text
handle_bytes s None = []
handle_bytes s (Some h) = bytes_in (file_at s h.file)

unfoldable pub bytes_stored : State Text Own → ℕ → Op → Text
bytes_stored s k (op.Close n) = stream_bytes (own_of (agent_of s k) n)
bytes_stored s k (op.SyncFlush n) = handle_bytes s (open_handle in_bytes s k n)
bytes_stored s k (op.SyncClose n) = handle_bytes s (open_handle in_bytes s k n)
bytes_stored s k o = []

-- What is told of what is spelled.
abbrev pub told_list : Text → Option Spelled → List Change
told_list bytes None = []
told_list bytes (Some c) = told_as bytes c ∷ []

-- What a tree's rows and these units are as they are stored.
abbrev pub stored_built : Rows → List Text → Built
stored_built t units = record { rows = stored_rows t; persistent = units }

-- A content's blocks are free of the other files of what is stored, and are as many as its bytes take.
abbrev pub CanHold : ℕ → Spelled → Built → Type 0
CanHold size (Content unit path stamp len extents) b = can_hold size (named_beside (unit, path) b.rows) len extents ≡ true
CanHold size c b = Unit {0}

-- What a call that spells so makes of what is stored: nothing, or what the change makes of it.
abbrev pub Makes : ℕ → Option Spelled → Built → Built → Type 0
Makes size None before after = after ≡ before
Makes size (Some c) before after = CanHold size c before → tried New size before c ≡ Some after
