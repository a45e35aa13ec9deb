-- Refusals as they are answered. This project's own.
use Rattle.opfs_codec.specs.declared.change.Format.{Format}
use Rattle.opfs_codec.specs.declared.change.Format.TheVariants.{Old, New}
use Rattle.opfs_journal.specs.declared.refusal.OpenRefusal.{OpenRefusal}
use Rattle.opfs_journal.specs.declared.refusal.OpenRefusal.TheVariants as opening
use Rattle.opfs_image.specs.declared.refusal.ImageRefusal.{ImageRefusal}
use Rattle.opfs_image.specs.declared.refusal.ImageRefusal.TheVariants as refusal

-- a refusal by the first gates
abbrev pub refused_first : OpenRefusal → ImageRefusal
refused_first opening.NoArea = refusal.NoArea
refused_first (opening.BadRecord place) = refusal.BadRecord place
refused_first opening.DiskFault = refusal.DiskFault
refused_first opening.NoMemory = refusal.NoMemory

-- the refusal of an image whose ruling area is not of the format that was asked for
abbrev pub not_of : Format → ImageRefusal
not_of Old = refusal.NotOld
not_of New = refusal.Old
