-- The present bytes of a file, as getFile reads them: those of the pages of the access handle that may write it, else those of its
-- blocks. This project's own.
use Rattle.std.specs.Prelude.{◌≡◌, ℕ, ◌*◌, ◌^◌, ◌<◌, ◌≤◌, ◌&&◌, Bool, true, false, is_some, length, Option, Some, None, List}
use Rattle.std.specs.List.{list_any}
use Rattle.opfs_base.specs.Blocks.{blocks}
use Rattle.opfs_base.specs.Places.{Place}
use Rattle.opfs_base.specs.Texts.{same_text, same_texts}
use Rattle.opfs_data.specs.Pages.{page_of}
use Rattle.opfs_data.specs.Places.{AllLie, bytes_of, room_of}
use Rattle.opfs_data.specs.Rows.{Rows, page_at, pages_at, row_of}
use Rattle.opfs_hist.specs.declared.op.Mode.{Mode}
use Rattle.opfs_hist.specs.declared.op.Mode.TheVariants as mode
use Rattle.opfs_locks.specs.declared.LockValue.TheVariants as value
use Rattle.opfs_machine.specs.declared.own.HandleOutline.{HandleOutline}
use Rattle.opfs_machine.specs.Agents.{open_handle}
use Rattle.opfs_machine.specs.Contents.{in_lengths}
use Rattle.opfs_pages.specs.Copies.{IsBegun}
use Rattle.opfs_state_rows.specs.Standing.Seen.{Machine}
use Rattle.opfs_tree.specs.declared.row.FileRow.{FileRow}
use Rattle.opfs_state.specs.Verdicts.Callers.{IsAgent}

abbrev pub may_write : Mode → Bool
may_write mode.ReadWrite = true
may_write mode.ReadOnly = false

-- Whether an open access handle may write the file at a place.
abbrev pub writes_file : Place → Option HandleOutline → Bool
writes_file place None = false
writes_file place (Some h) = may_write h.mode && (same_text h.file.0 place.0 && same_texts h.file.1 place.1)

-- Whether the row of an agent is that of such a handle.
abbrev pub is_writer : Machine → Place → ℕ × ℕ → Bool
is_writer m place at = writes_file place (open_handle in_lengths m at.0 at.1)

-- Whether one of these rows is.
abbrev pub has_writer : Machine → Place → Rows → Bool
has_writer m place rows = list_any (λ e. is_writer m place e.0) rows

-- Each row that has pages is of an agent that is there.
abbrev pub AreOfAgents : Machine → Rows → Type 0
AreOfAgents m swap = (k n : ℕ) → is_some (row_of k n swap) ≡ true → IsAgent m k

-- The pages of each handle that may write the file begin as these bytes. Where none may, the blocks of the file have them.
pub record IsPresent (m : Machine) (place : Place) (x : FileRow) (swap : Rows) (c : List ℕ) (base : ℕ) (bytes : List ℕ) : Type 0 where
  pub size : length bytes ≡ x.present
  pub written : (k n : ℕ) → is_writer m place (k, n) ≡ true → (i : ℕ) → 4096 * i < length bytes → IsBegun bytes i (page_of c base (page_at k n i swap))
  pub stored : (x.lock.0 ≡ value.Exclusive → has_writer m place swap ≡ false) → bytes_of c base x.extents x.present ≡ bytes

-- The file has no more bytes than a memory can hold. The pages of each handle that may write it are there, or its blocks are
-- enough, and lie on the disk.
pub record MayReadFile (m : Machine) (place : Place) (x : FileRow) (swap : Rows) (base end : ℕ) : Type 0 where
  pub small : x.present < 2 ^ 63
  pub there : (k n : ℕ) → is_writer m place (k, n) ≡ true → blocks x.present ≤ length (pages_at k n swap)
  pub fits : (x.lock.0 ≡ value.Exclusive → has_writer m place swap ≡ false) → x.present ≤ room_of x.extents
  pub lies : AllLie base end x.extents

-- The file's row says how many bytes were read, its size and its time stamp. Where the disk tells, the bytes are the present ones,
-- wherever these are.
pub record IsReadOfFile (tells : Type 0) (m : Machine) (place : Place) (x : FileRow) (swap : Rows) (c : List ℕ) (base : ℕ) (bytes : List ℕ) (size stamp : ℕ) : Type 0 where
  pub long : length bytes ≡ x.present
  pub size_is : size ≡ x.present
  pub stamp_is : stamp ≡ x.present_stamp
  pub read : tells → (present : List ℕ) → IsPresent m place x swap c base present → bytes ≡ present
