use Rattle.std.proofs.Common.{sym, ◌∙◌, ap, arith}
use Rattle.opfs_codec.specs.declared.change.Format.TheVariants.{New}
use Rattle.opfs_journal.specs.Format.{records_of}
use Rattle.opfs_image.specs.Agreeing.{built_in}
use Rattle.opfs_image.specs.Answers.{refused_first}
use Rattle.opfs_image.specs.Reading.{read_as}
use Rattle.opfs_image.proofs.Layering.{no_refusal}
use Rattle.opfs_image.proofs.recovering.begin.Goals as goal

pub invariant_of-result : goal.invariant_of-result
invariant_of-result g c =
    let areas = c.journal_areas-areas.ensures in
    record {
      agrees = c.requires.agrees;
      journal_of = record {
        areas = c.in-Ok.ensures.areas ∙ areas;
        length = omega (arith, c.requires.length, c.in-Ok.ensures.only_read.length);
        settled = c.in-Ok.ensures.sure;
      };
      image_of = λ told.
          let same = (c.in-Ok.ensures.only_read.told told).same in
          record {
            one_image = c.in-Ok.ensures.durable told;
            reads = ap (λ d. read_as New New d) same ∙ c.requires.image told;
            records = sym (λ i. records_of (areas i) ((sym same) i)) ∙ c.in-Ok.ensures.records told;
          };
    }

pub returns-in-Err-clause-refused : goal.returns-in-Err-clause-refused
returns-in-Err-clause-refused g c = λ no_fault no_want told.
    absurd (no_refusal New New (g.D.Disk.content c.args.disk) (record { geometry = c.args.image.geometry; built = built_in c.args.image.parts.tree c.args.image.parts.shed }) c.journal_areas-areas.result c.in-Err.refusal (c.requires.image told) c.journal_areas-areas.ensures
    (c.in-Err.ensures.refused (λ e. no_fault (c.from.ensures ∙ ap refused_first e)) (λ e. no_want (c.from.ensures ∙ ap refused_first e)) told))
