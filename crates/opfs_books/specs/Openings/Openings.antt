-- The opening of a run over a recovered image: the machine's over what the image stands for, whatever its disk tells. This
-- project's own.
use Rattle.std.specs.Prelude.{ℕ, List, map}
use Rattle.opfs_books.specs.Laws.Books.{Fixed}
use Rattle.opfs_image.specs.Agreeing.{built_in}
use Rattle.opfs_image.specs.Filling.{filled}
use Rattle.opfs_image.specs.Superblock.{data_base}
pub use Rattle.opfs_image.specs.Superblock.{limits_by}
use Rattle.opfs_image.specs.declared.geometry.Geometry.{Geometry}
use Rattle.opfs_image.specs.declared.recovered.Recovered.{Recovered}
use Rattle.opfs_machine.specs.Openings.{Opening}
use Rattle.opfs_machine.specs.Openings.{Who as Caller}
use Rattle.opfs_outside.specs.declared.disk.Disk.{Ghosts as DiskWords}
use Rattle.opfs_records.specs.Replay.Built.{Built}
use Rattle.opfs_register.specs.declared.seat.Who.{Who}

-- An agent as the machine has it.
abbrev pub caller_by : Who → Caller
caller_by w = record { key = w.key; grant = w.grant }

-- The opening over what was built, with the bytes that a content has in its blocks.
abbrev pub opening_by : Geometry → List ℕ → Built → List Who → Opening
opening_by g c b agents = record { stored = filled (data_base g) c b; agents = map caller_by agents; limits = limits_by g }

-- What never changes in a run over a recovered image.
abbrev pub fixed_by : {D : Type 0} (w : DiskWords D) → Recovered D w → List Who → Fixed D
fixed_by w from agents = record {
  opening = opening_by from.geometry (w.content from.journal.disk) (built_in from.tree from.shed) agents;
  geometry = from.geometry;
  begun = from.journal.disk;
}
