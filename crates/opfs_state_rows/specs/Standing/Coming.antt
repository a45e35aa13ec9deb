-- A row that comes where a place stands ready. This project's own.
use Rattle.std.specs.Prelude.{◌≡◌, ℕ, Some}
use Rattle.opfs_base.specs.Measures.{place_charge}
use Rattle.opfs_base.specs.Places.{Place}
use Rattle.opfs_base.specs.declared.locator.Kind.{Kind}
use Rattle.opfs_state_rows.specs.Standing.Seen.{Prepared}

-- A place stands ready for a row of a kind, and that adds so much to the charge.
pub record IsReadyFor (prepared : Prepared) (place : Place) (more : ℕ) : Type 0 where
  pub kind : Kind
  pub is : prepared.place ≡ Some (place, kind)
  pub charge : more ≡ place_charge kind place
