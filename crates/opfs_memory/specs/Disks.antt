-- What a write does to the bytes of a disk. This project's own.
use Rattle.std.specs.Prelude.{◌≡◌, ℕ, List, length}
use Rattle.opfs_outside.specs.Bytes.{Same, window, Beside}

-- new is old with these bytes at this place
pub record Overwritten (at : ℕ) (bytes old new : List ℕ) : Type 0 where
  pub size : length new ≡ length old
  pub written : window new at (length bytes) ≡ bytes
  pub elsewhere : Same (Beside at (length bytes)) new old
