-- Whether a commit has room. This project's own.
use Rattle.std.specs.Prelude.{ℕ, ◌+◌, ◌≤◌}
use Rattle.opfs_codec.specs.declared.change.Change.{Change}
use Rattle.opfs_commit.specs.Calls.{HasRoomAfter, HasRoomFor}
use Rattle.opfs_shed.specs.Buckets.{Storage}
use Rattle.opfs_tree.specs.Rows.{Rows}

-- A snapshot after a change has room in what is kept for it, and in an area of so many bytes.
pub record MayCommit (rows : Rows) (shed : Storage) (own : Change) (room bytes : ℕ) : Type 0 where
  pub size : ℕ
  pub most : ℕ
  pub after : HasRoomAfter size most rows shed own
  pub kept : most ≤ room
  pub area : most + 7 ≤ bytes

-- So has one of these rows alone.
pub record MayCommitAlone (rows : Rows) (shed : Storage) (room bytes : ℕ) : Type 0 where
  pub size : ℕ
  pub most : ℕ
  pub now : HasRoomFor size most rows shed
  pub kept : most ≤ room
  pub area : most + 7 ≤ bytes
