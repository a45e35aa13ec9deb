use Rattle.opfs_examples.proofs.images.Refused.{short, magic, old, no_area, bad, cut}
use Rattle.opfs_examples.proofs.images.damaged_images_are_refused.Goals as goal

pub returns : goal.returns
returns g = record { short = short; magic = magic; old = old; no_area = no_area; bad = bad; cut = cut }
