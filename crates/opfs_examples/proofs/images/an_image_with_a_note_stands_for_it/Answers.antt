use Rattle.opfs_codec.specs.declared.change.Format.TheVariants.{Old, New}
use Rattle.opfs_examples.proofs.images.Notes.{stands}
use Rattle.opfs_examples.proofs.images.an_image_with_a_note_stands_for_it.Goals as goal

pub returns : goal.returns
returns g = record { old = stands Old; new = stands New }
