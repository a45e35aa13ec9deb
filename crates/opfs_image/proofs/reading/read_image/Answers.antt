use Rattle.std.proofs.Common.{◌*◌, inr, sym, ◌∙◌, arith}
use Rattle.std.specs.Prelude.{Err}
use Rattle.opfs_codec.specs.declared.change.Format.TheVariants.{New}
use Rattle.opfs_journal.proofs.Walks.{only_more}
use Rattle.opfs_image.specs.Agreeing.{built_in}
use Rattle.opfs_image.specs.declared.refusal.ImageRefusal.TheVariants as refusal
use Rattle.opfs_image.proofs.Images.{built_same, image_read, image_overfull}
use Rattle.opfs_image.proofs.reading.read_image.Goals as goal

pub returns-in_err-parts-clause-only : goal.returns-in_err-parts-clause-only
returns-in_err-parts-clause-only g c =
    let laws = g.met.D.Disk in
    only_more g.D.Disk laws.falls c.args.disk.now c.find_area.new.disk c.rebuild.new.disk c.find_area.ensures.only c.rebuild.ensures.only

pub returns-then-area-saturating_add-clause-only : goal.returns-then-area-saturating_add-clause-only
returns-then-area-saturating_add-clause-only g c =
    let laws = g.met.D.Disk in
    only_more g.D.Disk laws.falls c.args.disk.now c.find_area.new.disk c.rebuild.new.disk c.find_area.ensures.only c.rebuild.ensures.only

pub returns-then-area-saturating_add-clause-refused : goal.returns-then-area-saturating_add-clause-refused
returns-then-area-saturating_add-clause-refused g c = inr (inr (λ told.
    let b = built_in c.in_ok-parts.parts.tree c.in_ok-parts.parts.shed in
    let size = c.from-area.ensures in
    let charge_is = c.in_ok-parts.ensures.agrees.charge_is in
    let same = (c.find_area.ensures.only.told told).same in
    let built = built_same c.args.wanted c.in_ok-geometry.geometry c.in_ok-geometry.second _ _ b same (c.in_ok-parts.ensures.built told) in
    image_overfull c.args.wanted New (g.D.Disk.content c.args.disk.now) c.in_ok-geometry.geometry c.in_ok-geometry.second (c.in_ok-geometry.ensures.found told) b built (omega (arith, c.if-area-saturating_add.true, c.saturating_add.ensures, size, charge_is))
    ∙ (λ i. Err (refusal.Overfull ((sym charge_is) i) (4096 * (sym size) i)))))

pub returns-clause-only : goal.returns-clause-only
returns-clause-only g c =
    let laws = g.met.D.Disk in
    only_more g.D.Disk laws.falls c.args.disk.now c.find_area.new.disk c.rebuild.new.disk c.find_area.ensures.only c.rebuild.ensures.only

pub returns-clause-image : goal.returns-clause-image
returns-clause-image g c = λ told.
    let b = built_in c.in_ok-parts.parts.tree c.in_ok-parts.parts.shed in
    let size = c.from-area.ensures in
    let charge_is = c.in_ok-parts.ensures.agrees.charge_is in
    let same = (c.find_area.ensures.only.told told).same in
    let built = built_same c.args.wanted c.in_ok-geometry.geometry c.in_ok-geometry.second _ _ b same (c.in_ok-parts.ensures.built told) in
    image_read c.args.wanted New (g.D.Disk.content c.args.disk.now) c.in_ok-geometry.geometry c.in_ok-geometry.second (c.in_ok-geometry.ensures.found told) b built (omega (arith, c.if-area-saturating_add.false, c.saturating_add.ensures, size, charge_is))
