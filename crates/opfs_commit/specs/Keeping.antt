-- The changes that are kept back. This project's own.
use Rattle.std.specs.Prelude.{◌≡◌, ℕ, Bool, false, List, fold}
use Rattle.std.specs.List.{AllByRecursion}
use Rattle.opfs_image.specs.Filling.{filled}
use Rattle.opfs_machine.specs.Changes.{Change, changed, is_content}
use Rattle.opfs_records.specs.Replay.Built.{Built}
use Rattle.opfs_records.specs.Checkpoint.Building.{Builds}

-- These bytes, unless they are too long, spell changes that make the present rows of those that the records build. In any
-- image the present rows hold what these changes make of what the others hold. None of them is a content.
pub record AreKeptBack (size : ℕ) (bytes : List ℕ) (long : Bool) (later : List Change) (recorded rows : Built) : Type 0 where
  pub builds : long ≡ false → Builds size bytes recorded rows
  pub makes : (base : ℕ) (c : List ℕ) → filled base c rows ≡ fold changed (filled base c recorded) later
  pub quiet : AllByRecursion (λ change. is_content change ≡ false) later
