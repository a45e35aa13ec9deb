-- What the tests know of a swap of one row, the first of agent 1, and of its journal. This project's own.
use Rattle.std.specs.Prelude.{◌≡◌, ℕ, Some, None, false, true, is_some, length, []}
use Rattle.opfs_journal.specs.Seen.{Seen}
use Rattle.opfs_memory.specs.Drives.{Drive}
use Rattle.opfs_data.specs.Rows.{Rows, IsOther, row_of, pages_at, page_at}

-- the row is there, and no other
pub record IsAlone (rows : Rows) : Type 0 where
  pub there : is_some (row_of 1 1 rows) ≡ true
  pub alone : (a r : ℕ) → IsOther 1 1 a r → row_of a r rows ≡ None

-- it has no page, or one page in block 0
pub record HasNone (rows : Rows) : Type 0 where
  pub alone : IsAlone rows
  pub pages : pages_at 1 1 rows ≡ []

pub record HasOne (rows : Rows) : Type 0 where
  pub alone : IsAlone rows
  pub size : length (pages_at 1 1 rows) ≡ 1
  pub block : (page_at 1 1 0 rows).block ≡ Some 0

-- the journal has no doubt, and its disk has five blocks, the first one with both areas
pub record IsReady (journal : Seen Drive) : Type 0 where
  pub sure : journal.in_doubt ≡ false
  pub areas : journal.areas ≡ record { first = 0; bytes = 32 }
  pub size : length journal.disk.first ≡ 20480
