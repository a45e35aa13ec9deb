-- The posted tags, and the one that stands ready. This project's own.
use Rattle.std.specs.Prelude.{◌≡◌, ℕ, ◌<◌, List, length, Option, Some, true}
use Rattle.opfs_base.specs.Texts.{Text}
use Rattle.opfs_machine.specs.declared.state.Party.{Party}
use Rattle.opfs_machine.specs.declared.state.Posted.{Posted}
use Rattle.opfs_register.specs.Told.{Circled, has, told, posted_in}

pub record Posting : Type 0 where
  pub posted : List Posted
  pub ready : Option Posted

-- The tags of each party are those that were posted, and for the one that is ready there is room.
pub record IsPosting (posted : List Posted) (room : ℕ) (circles : Circled) (ready : Option Posted) : Type 0 where
  pub tells : (party : Party) (tag : Text) → told circles party tag ≡ posted_in posted party tag
  pub there : (r : Posted) → ready ≡ Some r → has circles r.party r.tag ≡ true
  pub space : (r : Posted) → ready ≡ Some r → length posted < room
