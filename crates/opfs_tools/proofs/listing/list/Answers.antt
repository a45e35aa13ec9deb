use Rattle.std.proofs.Common.{ap, sym, ◌∙◌, List, ℕ}
use Rattle.opfs_image.specs.Superblock.{data_base}
use Rattle.opfs_records.specs.Replay.Sums.{persistent_in}
use Rattle.opfs_tools.specs.Listing.{list_of}
use Rattle.opfs_tools.specs.Sights.{Sights}
use Rattle.opfs_tools.proofs.Filled.{same_sights, appended, used_fits, charge_small}
use Rattle.opfs_tools.proofs.listing.list.Goals as goal

pub returns-clause-listed : goal.returns-clause-listed
returns-clause-listed g c =
    let from = c.args.from.now in
    let content : List ℕ = g.D.Disk.content from.journal.disk in
    let sound = from.agrees.parts.sound in
    appended g.D.Disk.tells c.extend_from_slice.result c.args.into.now.items c.extend_from_slice.new.self.items c.as_slice.result.now _ c.extend_from_slice.ensures.items
    (λ told. c.as_slice.ensures.value ∙ (c.in_ok-text.ensures ∙ ap (λ (rows : Sights). list_of rows (persistent_in from.shed.buckets)) (sym (same_sights from.geometry.blocks content (data_base from.geometry) from.tree sound.files))))

pub list_text-requires : goal.list_text-requires
list_text-requires g c =
    let from = c.args.from.now in
    used_fits from.tree from.shed from.charge from.agrees.parts.charge_is (charge_small from.geometry from.charge from.agrees.range from.agrees.fits)
