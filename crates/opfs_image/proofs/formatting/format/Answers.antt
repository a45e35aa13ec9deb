use Rattle.std.proofs.Common.{subst, arith}
use Rattle.opfs_image.specs.Empty.{IsEmptyJournal}
use Rattle.opfs_image.specs.Superblock.{areas_of}
use Rattle.opfs_image.proofs.Formatted.{still_empty, formatted_image, formatted_stands}
use Rattle.opfs_image.proofs.formatting.format.Goals as goal

pub returns-clause-image : goal.returns-clause-image
returns-clause-image g c = λ told.
    let laws = g.met.D.Disk in
    let c0 = g.D.Disk.content c.write_areas.new.disk in
    let c1 = g.D.Disk.content c.write_superblock.new.disk in
    let empty = still_empty c0 c1 (areas_of c.args.geometry) (omega arith) (c.in_ok-write_superblock.ensures.behind told) (subst (λ a. IsEmptyJournal a c0) c.journal_areas.ensures (c.in_ok-write_areas.ensures.empty told)) in
    formatted_image c1 c.args.geometry c.requires.range (c.in_ok-write_superblock.ensures.head told) empty
    (omega (arith, c.requires.fits, laws.full told c.write_superblock.new.disk, c.in_ok-write_superblock.ensures.size, c.in_ok-write_areas.ensures.size))

pub returns-clause-stands : goal.returns-clause-stands
returns-clause-stands g c = λ told.
    let laws = g.met.D.Disk in
    let c0 = g.D.Disk.content c.write_areas.new.disk in
    let c1 = g.D.Disk.content c.write_superblock.new.disk in
    let empty = still_empty c0 c1 (areas_of c.args.geometry) (omega arith) (c.in_ok-write_superblock.ensures.behind told) (subst (λ a. IsEmptyJournal a c0) c.journal_areas.ensures (c.in_ok-write_areas.ensures.empty told)) in
    formatted_stands c1 c.args.geometry c.requires.range (c.in_ok-write_superblock.ensures.head told) empty
    (omega (arith, c.requires.fits, laws.full told c.write_superblock.new.disk, c.in_ok-write_superblock.ensures.size, c.in_ok-write_areas.ensures.size))
