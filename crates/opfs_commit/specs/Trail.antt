-- The images that a run leaves on its way. This project's own.
use Rattle.std.specs.Prelude.{◌≡◌, ℕ, ◌+◌, ◌<◌, ◌≤◌, true, List, [], length, take, slice_index_or}
use Rattle.opfs_commit.specs.Shown.{ShowsSince}
use Rattle.opfs_image.specs.Filling.{Stands}
use Rattle.opfs_machine.specs.Changes.{Change, durable, is_content, evict}
use Rattle.opfs_machine.specs.Openings.{Opening}
use Rattle.opfs_outside.specs.declared.disk.Disk.{Ghosts as DiskWords}

-- The change at a place of the list is a content.
abbrev pub IsContentAt : List Change → ℕ → Type 0
IsContentAt told n = (n < length told) × (is_content (slice_index_or told n (evict [])) ≡ true)

-- An image that a crash may have left since the run began stands for what is stored after the changes up to and with the
-- one at a place.
pub record IsLeftAt {D : Type 0} (w : DiskWords D) (o : Opening) (told : List Change) (n : ℕ) (begun now : D) : Type 0 where
  pub image : List ℕ
  pub left : w.since now (w.moment begun) image
  pub stands : Stands image (durable o (take (n + 1) told))

-- Each image that a crash may have left since the run began shows a front of what was told. Where a crash may come at all,
-- there is one for each content: it stands for what is stored after the changes up to and with that one.
pub record IsTrail {D : Type 0} (w : DiskWords D) (o : Opening) (told : List Change) (begun now : D) : Type 0 where
  pub later : w.moment begun ≤ w.moment now
  pub fronts : ShowsSince w o 0 told begun now
  pub each : w.crashes → (n : ℕ) → IsContentAt told n → IsLeftAt w o told n begun now
