use Rattle.std.proofs.Common.{◌≡◌, ℕ, List, ap, sym, subst, ◌∙◌}
use Rattle.std.specs.Prelude.{map, Some}
use Rattle.opfs_image.specs.Superblock.{areas_of}
use Rattle.opfs_journal.specs.Format.{Stored, records_of}
use Rattle.opfs_journal.specs.Seen.{kept, one_record}
use Rattle.opfs_journal.specs.declared.areas.Areas.{Areas}
use Rattle.opfs_dump.specs.Text.Seen.{row_of}
use Rattle.opfs_dump.specs.Text.Whole.{dump_of}
use Rattle.opfs_dump.specs.declared.text.dumped.DumpedRow.{DumpedRow}
use Rattle.opfs_dump.specs.Loading.Laid.{IsEmptyOver, IsWritten}
use Rattle.opfs_dump.proofs.loading.StandsFor.{lay_stands}
use Rattle.opfs_dump.proofs.loading.laying.lay_over.Goals as goal

pub returns-in-Ok-write_all-clause-stands : goal.returns-in-Ok-write_all-clause-stands
returns-in-Ok-write_all-clause-stands g c = λ told.
    let laws = g.met.D.Disk in
    let w = c.write_all.ensures in
    let is = c.in-Ok-write_all.ensures in
    let gm = c.args.dumped.now.geometry in
    let m = (dump_of c.args.dumped.now).map in
    let old = c.reserve.new.self in
    let was = c.requires.empty in
    let more : IsEmptyOver g.D.Disk gm (record c.args.journal { spare = old.spare }) = record { areas = was.areas; length = was.length; settled = was.settled; reads = was.reads; records = was.records } in
    let empty : IsEmptyOver g.D.Disk gm old = subst (λ j. IsEmptyOver g.D.Disk gm j) (sym c.reserve.ensures.same) more in
    let new = c.write_all.new.journal in
    let back = c.give_back-in-Ok-write_all.result in
    let c0 : List ℕ = g.D.Disk.content old.disk in
    let c1 : List ℕ = g.D.Disk.content back in
    let areas : new.areas ≡ areas_of gm = w.areas ∙ empty.areas in
    let now : records_of (areas_of gm) c1 ≡ Some (one_record old.format c.args.body.now) =
    ap (λ (a : Areas). records_of a c1) (sym areas) ∙ (c.give_back-in-Ok-write_all.ensures.records told is.sure ∙ ap (λ (x : Stored). Some x) (is.kept told)) in
    let size = laws.full told back ∙ (ap g.D.Disk.size c.give_back-in-Ok-write_all.ensures.disk ∙ (w.length ∙ sym (laws.full told old.disk))) in
    let put : IsWritten c.data_base-base.result c0 c1 old.areas (map row_of c.deref.result.now) =
    subst (λ d. IsWritten c.data_base-base.result c0 (g.D.Disk.content d) old.areas (map row_of c.deref.result.now)) (sym c.give_back-in-Ok-write_all.ensures.disk) (is.written told) in
    lay_stands gm m c.args.body.now c0 c1 (kept old) (empty.reads told) (empty.records told) now c.requires.builds c.requires.fits size
    (subst (λ (n : ℕ). IsWritten n c0 c1 (areas_of gm) m.rows) c.data_base-base.ensures.same
    (subst (λ (a : Areas). IsWritten c.data_base-base.result c0 c1 a m.rows) empty.areas
    (subst (λ (x : List DumpedRow). IsWritten c.data_base-base.result c0 c1 old.areas (map row_of x)) c.deref.ensures.value put)))
