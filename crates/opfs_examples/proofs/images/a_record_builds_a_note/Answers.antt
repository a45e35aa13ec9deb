use Rattle.opfs_examples.proofs.images.Notes.{builds, old_charge, charge}
use Rattle.opfs_examples.proofs.images.a_record_builds_a_note.Goals as goal

pub returns : goal.returns
returns g = record { built = builds; old_charge = old_charge; charge = charge }
