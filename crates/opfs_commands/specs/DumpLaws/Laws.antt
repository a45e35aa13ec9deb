-- What is dumped is read back. This project's own.
use Rattle.std.specs.Prelude.{◌≡◌, ℕ, ◌≤◌, List, length, Ok}
use Rattle.hex.specs.Hex.{IsBytes}
use Rattle.opfs_dump.specs.Text.Reading.{most_bytes, reads_dump}
use Rattle.opfs_dump.specs.Text.Texts.{dump_text}
use Rattle.opfs_image.specs.Filling.{Stands}
use Rattle.opfs_image.specs.Superblock.{geometry_of}
use Rattle.opfs_image.specs.declared.geometry.Geometry.{Geometry}
use Rattle.opfs_machine.specs.Openings.{Map}

-- The text of an image's sizes and of what it stands for is read back, if it has at most 67,108,864 bytes.
abbrev pub DumpsAreReadBack : Type 0
DumpsAreReadBack =
    (c : List ℕ) (g : Geometry) (m : Map) → IsBytes c → geometry_of c ≡ Ok g → Stands c m → length (dump_text g m) ≤ most_bytes
    → reads_dump (dump_text g m) ≡ Ok (record { geometry = g; map = m })
