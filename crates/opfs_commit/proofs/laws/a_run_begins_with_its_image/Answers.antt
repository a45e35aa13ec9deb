use Rattle.std.proofs.Common.{ap}
use Rattle.opfs_commit.specs.Seen.{KeptBack}
use Rattle.opfs_commit.proofs.Keeping.{begun_images}
use Rattle.opfs_commit.proofs.laws.a_run_begins_with_its_image.Goals as goal

pub returns : goal.returns
returns g s told o geometry built recovered k is =
    begun_images g.D.Disk o geometry built recovered is.journal is.image is.limits is.stored k is.same (ap (λ (b : KeptBack). b.bytes) is.none) (ap (λ (b : KeptBack). b.count) is.none) (ap (λ (b : KeptBack). b.long) is.none)
