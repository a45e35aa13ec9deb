-- What is made ready. This project's own.
use Rattle.std.specs.Prelude.{◌≡◌, ℕ, true, Option, Some}
use Rattle.opfs_base.specs.Places.{Place}
use Rattle.opfs_base.specs.declared.locator.Kind.{Kind}
use Rattle.opfs_state_rows.specs.Changes.Asking.{row_growth, place_in, mode_growth}
use Rattle.opfs_state_rows.specs.Standing.Seen.{Machine, Seen, is_known}

-- The machine and the tree stay, and all else that stands ready but for units.
pub record HasStayed (s new : Seen) : Type 0 where
  pub machine : new.machine ≡ s.machine
  pub tree : new.tree ≡ s.tree

-- A row's place stands ready, or none where no row is made.
pub record IsRowReady (s : Seen) (own : Option Place) (more : ℕ) (e : Option (Place × Kind)) : Type 0 where
  pub place : s.prepared.place ≡ e
  pub target : own ≡ place_in e
  pub growth : more ≡ row_growth e
  pub known : (place : Place) → place_in e ≡ Some place → is_known place.0 s.prepared ≡ true

-- What becomes persistent is known, if anything does.
pub record IsModeReady (m : Machine) (s : Seen) (own : Option Place) (more : ℕ) (e : Option Place) : Type 0 where
  pub target : own ≡ e
  pub growth : more ≡ mode_growth m e
  pub known : (place : Place) → e ≡ Some place → is_known place.0 s.prepared ≡ true
