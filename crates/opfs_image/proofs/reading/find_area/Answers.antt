use Rattle.std.proofs.Common.{◌+◌, inl, inr, sym, ◌∙◌, ap}
use Rattle.std.specs.Prelude.{◌==◌, slice_index, Err}
use Rattle.std.proofs.lemmas.Result.{err_from_is_err_and}
use Rattle.opfs_codec.specs.declared.change.Format.TheVariants.{New}
use Rattle.opfs_journal.specs.Format.{chosen_in, begin_of, format_of}
use Rattle.opfs_journal.proofs.Walks.{only_more}
use Rattle.opfs_image.specs.Reading.{format_number}
use Rattle.opfs_image.specs.Answers.{refused_first}
use Rattle.opfs_image.proofs.Images.{ruling_bad, format_other, same_number}
use Rattle.opfs_image.proofs.reading.find_area.Goals as goal

pub returns-in_err-ruling-clause-only : goal.returns-in_err-ruling-clause-only
returns-in_err-ruling-clause-only g c =
    let laws = g.met.D.Disk in
    only_more g.D.Disk laws.falls c.args.disk.now c.read_geometry.new.disk c.find_ruling.new.disk c.read_geometry.ensures.only c.find_ruling.ensures.only

pub returns-in_err-ruling-clause-refused : goal.returns-in_err-ruling-clause-refused
returns-in_err-ruling-clause-refused g c =
    let p = err_from_is_err_and c.from_residual-in_err-ruling.result c.from_residual-in_err-ruling.ensures.1 in
    rw (p.1, p.2) (elim c.in_err-ruling.ensures.refused [
      | inl fault ↦ inl (ap refused_first fault)
      | inr bad ↦ inr (inr (λ told.
          let same = (c.read_geometry.ensures.only.told told).same in
          ruling_bad c.args.wanted New (g.D.Disk.content c.args.disk.now) c.in_ok-geometry.geometry (c.in_ok-geometry.ensures.geometry told) c.in_err-ruling.field-0.0
          (sym (λ i. chosen_in (c.journal_areas.ensures i) (same i)) ∙ bad told)))
    ])

pub returns-then-not-is_of_format-clause-only : goal.returns-then-not-is_of_format-clause-only
returns-then-not-is_of_format-clause-only g c =
    let laws = g.met.D.Disk in
    only_more g.D.Disk laws.falls c.args.disk.now c.read_geometry.new.disk c.find_ruling.new.disk c.read_geometry.ensures.only c.find_ruling.ensures.only

pub returns-then-not-is_of_format-clause-refused : goal.returns-then-not-is_of_format-clause-refused
returns-then-not-is_of_format-clause-refused g c = inr (inr (λ told.
    let same = (c.read_geometry.ensures.only.told told).same in
    let areas = c.journal_areas.ensures in
    let byte = c.in_ok-ruling.ensures.generation told ∙ (λ i. slice_index (same i) (begin_of (areas i) c.in_ok-ruling.ruling.second + 5)) in
    format_other c.args.wanted New (g.D.Disk.content c.args.disk.now) c.in_ok-geometry.geometry (c.in_ok-geometry.ensures.geometry told) c.in_ok-ruling.ruling.second
    (sym (λ i. chosen_in (areas i) (same i)) ∙ c.in_ok-ruling.ensures.rules told)
    (sym (ap (λ b. format_of b == format_number c.args.wanted) byte) ∙ sym c.is_of_format.ensures ∙ c.if-not-is_of_format.true)
    ∙ ap (λ e. Err e) (sym c.not_of.ensures)))

pub returns-clause-only : goal.returns-clause-only
returns-clause-only g c =
    let laws = g.met.D.Disk in
    only_more g.D.Disk laws.falls c.args.disk.now c.read_geometry.new.disk c.find_ruling.new.disk c.read_geometry.ensures.only c.find_ruling.ensures.only

pub returns-clause-found : goal.returns-clause-found
returns-clause-found g c = λ told.
    let same = (c.read_geometry.ensures.only.told told).same in
    let areas = c.journal_areas.ensures in
    let byte = c.in_ok-ruling.ensures.generation told ∙ (λ i. slice_index (same i) (begin_of (areas i) c.in_ok-ruling.ruling.second + 5)) in
    record {
      geometry = c.in_ok-geometry.ensures.geometry told;
      chosen = sym (λ i. chosen_in (areas i) (same i)) ∙ c.in_ok-ruling.ensures.rules told;
      format = sym (ap format_of byte) ∙ same_number _ _ (sym c.is_of_format.ensures ∙ c.if-not-is_of_format.false);
    }
