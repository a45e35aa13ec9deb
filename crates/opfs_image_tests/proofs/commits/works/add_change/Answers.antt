use Rattle.std.proofs.Common.{sym, subst}
use Rattle.opfs_codec.specs.Fields.{plain}
use Rattle.opfs_codec.specs.Spelling.{IsChange}
use Rattle.opfs_codec.specs.declared.change.Change.{Change}
use Rattle.opfs_codec.specs.declared.change.Format.TheVariants.{New}
use Rattle.opfs_codec.proofs.WritingLemmas.{change_fits}
use Rattle.opfs_image_tests.proofs.commits.works.add_change.Goals as goal

pub add-requires-clause-fits : goal.add-requires-clause-fits
add-requires-clause-fits c = change_fits (plain c.borrowed-own.result) (subst (λ (x : Change). IsChange New x) (sym c.borrowed-own.ensures) c.requires.spelled)
