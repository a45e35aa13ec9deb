-- The superblock of an image, and where its parts lie. This project's own.
--
-- Bytes 0 to 7 are `OPFSIMG1`. Then come, in 4 bytes each, the lowest first: the version, the number A of blocks of an
-- area, the number B of data blocks, and the quota in blocks. Area 0 begins at byte 4,096, area 1 behind it, and the data
-- part behind that.
use Rattle.std.specs.Prelude.{ℕ, ◌+◌, ◌*◌, ◌==◌, Bool, not, ◌&&◌, ◌||◌, List, length, codes, nat_lt, nat_le, if◌then◌else◌, Result, Ok, Err}
use Rattle.opfs_base.specs.Texts.{same_text}
use Rattle.opfs_outside.specs.Bytes.{window}
use Rattle.opfs_journal.specs.Format.{number_at}
use Rattle.opfs_journal.specs.declared.areas.Areas.{Areas}
use Rattle.opfs_machine.specs.declared.state.Limits.{Limits}
use Rattle.opfs_image.specs.declared.geometry.Geometry.{Geometry}
use Rattle.opfs_image.specs.declared.refusal.ImageRefusal.{ImageRefusal}
use Rattle.opfs_image.specs.declared.refusal.ImageRefusal.TheVariants as refusal

abbrev pub has_magic : List ℕ → Bool
has_magic c = same_text (window c 0 8) (codes "OPFSIMG1")

abbrev pub has_version : List ℕ → Bool
has_version c = number_at c 8 == 1 || number_at c 8 == 2

abbrev pub geometry_in : List ℕ → Geometry
geometry_in c = record { areas = number_at c 12; blocks = number_at c 16; quota = number_at c 20 }

-- 1 to 4,096 blocks an area; 1 to 65,536 data blocks, and as many for the quota
abbrev pub is_between : ℕ → ℕ → ℕ → Bool
is_between least most n = nat_le least n && nat_le n most

abbrev pub is_in_range : Geometry → Bool
is_in_range g = is_between 1 4096 g.areas && is_between 1 65536 g.blocks && is_between 1 65536 g.quota

-- the bytes of an area, where the areas and the data part begin, and the least length of an image
abbrev pub area_bytes : Geometry → ℕ
area_bytes g = 4096 * g.areas

-- how much a store over an image of these sizes may hold
abbrev pub limits_by : Geometry → Limits
limits_by g = record { area = area_bytes g; blocks = g.blocks; quota = g.quota }

abbrev pub areas_of : Geometry → Areas
areas_of g = record { first = 4096; bytes = area_bytes g }

abbrev pub data_base : Geometry → ℕ
data_base g = 4096 * (1 + 2 * g.areas)

abbrev pub image_size : Geometry → ℕ
image_size g = 4096 * (1 + 2 * g.areas + g.blocks)

-- The geometry that a superblock gives an image of a length, or the first of its refusals that holds.
abbrev pub geometry_by : List ℕ → ℕ → Result Geometry ImageRefusal
geometry_by head len =
    if not (has_magic head) then Err refusal.Magic
    else (if not (has_version head && is_in_range (geometry_in head)) then Err refusal.Geometry
    else (if nat_lt len (image_size (geometry_in head)) then Err refusal.Short
    else Ok (geometry_in head)))

-- The geometry of an image, or why its superblock is refused.
abbrev pub geometry_of : List ℕ → Result Geometry ImageRefusal
geometry_of c = if nat_lt (length c) 4096 then Err refusal.Short else geometry_by c (length c)
