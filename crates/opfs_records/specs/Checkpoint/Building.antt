-- What bytes build in the midst of others. This project's own.
use Rattle.std.specs.Prelude.{◌≡◌, ℕ, ◌+◌, ◌≤◌, List, ◌++◌, length, Some}
use Rattle.opfs_codec.specs.declared.change.Format.TheVariants.{New}
use Rattle.opfs_records.specs.Replay.Applying.{built_within}
use Rattle.opfs_records.specs.Replay.Built.{Built}

-- The bytes build one thing from another, whatever follows them.
pub record Builds (size : ℕ) (bytes : List ℕ) (before after : Built) : Type 0 where
  pub goes_on : (most more : ℕ) (rest : List ℕ) (out : Built) → length bytes + most ≤ more → built_within most New size rest after ≡ Some out → built_within more New size (bytes ++ rest) before ≡ Some out
