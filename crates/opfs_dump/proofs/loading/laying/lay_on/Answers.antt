use Rattle.std.proofs.Common.{ap, sym, subst, ◌∙◌, ◌≤◌, ℕ}
use Rattle.opfs_codec.specs.declared.change.Format.TheVariants.{New}
use Rattle.opfs_image.specs.Reading.{read_as}
use Rattle.opfs_image.specs.Superblock.{image_size}
use Rattle.opfs_journal.specs.Format.{records_of}
use Rattle.opfs_dump.proofs.loading.laying.lay_on.Goals as goal

pub lay_over-requires-clause-empty : goal.lay_over-requires-clause-empty
lay_over-requires-clause-empty g c =
    let e = c.in-Ok.ensures in
    let gm = c.args.dumped.now.geometry in
    let areas = c.journal_areas.ensures in
    record {
      areas = e.areas ∙ areas;
      length = subst (λ (n : ℕ). image_size gm ≤ n) (sym e.only_read.length) c.requires.length;
      settled = e.sure;
      reads = λ told. ap (read_as New New) ((e.only_read.told told).same) ∙ c.requires.empty told;
      records = λ told. (λ i. records_of (sym areas i) ((e.only_read.told told).same i)) ∙ e.records told;
    }
