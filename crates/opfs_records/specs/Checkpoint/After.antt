-- What a snapshot that is written with one change more has of the rows, and what it has behind them. This project's own.
use Rattle.std.specs.Prelude.{ℕ, Bool, true, false, not, if◌then◌else◌, List, [], Option, Some, None, map, filter}
use Rattle.std.specs.Ordering.{is_eq}
use Rattle.opfs_base.specs.Texts.{same_text}
use Rattle.opfs_base.specs.Places.{Place, place_cmp, is_within}
use Rattle.opfs_codec.specs.Spelling.{spelling}
use Rattle.opfs_codec.specs.declared.change.Format.TheVariants.{New}
use Rattle.opfs_codec.specs.declared.change.Change.{Change}
use Rattle.opfs_codec.specs.declared.change.Change.TheVariants.{Remove, Content, Persist, Evict}
use Rattle.opfs_locks.specs.Taking.{open_lock}
use Rattle.opfs_shed.specs.Buckets.{Buckets, bucket_at}
use Rattle.opfs_tree.specs.Rows.{Rows, changed_row, stored}
use Rattle.opfs_tree.specs.declared.row.FileRow.{FileRow}
use Rattle.opfs_tree.specs.declared.row.Row.{Row}

-- Whether a change takes out what stands at a place.
unfoldable pub leaves_out : Change → Place → Bool
leaves_out (Remove unit path) place = is_within (unit, path) place
leaves_out (Evict unit) place = same_text unit place.0
leaves_out change place = false

-- The content that a change gives a file at a place.
unfoldable pub given : Change → Place → Option FileRow
given (Content unit path stamp length extents) place =
    if is_eq (place_cmp (unit, path) place) then Some (record { length = length; stamp = stamp; present = length; present_stamp = stamp; extents = extents; lock = open_lock }) else None
given change place = None

-- A row with the content that its file is given.
abbrev pub row_with : Option FileRow → Row → Row
row_with None r = r
row_with (Some f) r = changed_row (stored f.length f.stamp f.extents) r

-- The rows that a change leaves, with the content that it gives.
abbrev pub rows_after : Change → Rows → Rows
rows_after change rows = map (λ e. (e.0, row_with (given change e.0) e.1)) (filter (λ e. not (leaves_out change e.0)) rows)

-- Whether these rows and the units that are persistent already tell the change.
unfoldable pub is_shown : Buckets → Change → Bool
is_shown buckets (Remove unit path) = true
is_shown buckets (Content unit path stamp length extents) = true
is_shown buckets (Persist unit) = (bucket_at buckets unit).persistent
is_shown buckets (Evict unit) = true
is_shown buckets change = false

-- What is written of the change itself.
abbrev pub made_bytes : Buckets → Change → List ℕ
made_bytes buckets change = if is_shown buckets change then [] else spelling New change
