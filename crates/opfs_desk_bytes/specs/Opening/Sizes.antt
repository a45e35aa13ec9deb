-- With how many bytes, and how many blocks kept, a row is opened. This project's own.
use Rattle.std.specs.Prelude.{◌≡◌, ℕ, ◌<◌, true, Option, Some, None, if◌then◌else◌}
use Rattle.opfs_base.specs.Blocks.{blocks}
use Rattle.opfs_base.specs.Places.{place_of}
use Rattle.opfs_store.specs.Copies.Copies.{IsPaged}
use Rattle.opfs_hist.specs.declared.op.Op.{Op}
use Rattle.opfs_hist.specs.declared.op.Op.TheVariants as op
use Rattle.opfs_tree.specs.declared.row.FileRow.{FileRow}
use Rattle.opfs_tree.specs.Rows.{Rows as Tree, file_at}
use Rattle.opfs_work.specs.Pages.{page_at, is_far}
use Rattle.opfs_work.specs.Works.{WorkingCopy}

abbrev pub present_in : Option FileRow → ℕ
present_in None = 0
present_in (Some r) = r.present

-- As many bytes as its file has, or none.
abbrev pub opened_size : Tree → Op → ℕ
opened_size t (op.CreateWritable at keep) = if keep then present_in (file_at (place_of at) t) else 0
opened_size t (op.CreateSyncAccessHandle at mode) = present_in (file_at (place_of at) t)
opened_size t o = 0

-- A stream keeps blocks for its bytes.
abbrev pub kept_blocks : Tree → Op → ℕ
kept_blocks t (op.CreateWritable at keep) = blocks (opened_size t (op.CreateWritable at keep))
kept_blocks t o = 0

-- A working copy of so many bytes, with so many blocks kept, all of whose pages are elsewhere.
pub record IsFar (size kept : ℕ) (work : WorkingCopy) : Type 0 where
  pub size_is : work.length ≡ size
  pub position : work.position ≡ 0
  pub reserve : work.reserve ≡ kept
  pub far : (k : ℕ) → k < blocks work.length → is_far (page_at work.pages k) ≡ true
  pub paged : IsPaged work
