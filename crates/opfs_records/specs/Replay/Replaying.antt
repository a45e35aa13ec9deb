-- What a replay is seen as.
use Rattle.std.specs.Prelude.{ℕ}
use Rattle.opfs_records.specs.Replay.Built.{Built}

-- what is built so far, the number of data blocks, and the quota
pub record Replayed : Type 0 where
  pub built : Built
  pub size : ℕ
  pub quota : ℕ
