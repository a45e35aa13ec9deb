use Rattle.std.proofs.Common.{refl, ◌∙◌}
use Rattle.opfs_commit.specs.Seen.{committing}
use Rattle.opfs_commit.proofs.Touching.{read_images, read_moments, put_images, put_moments}
use Rattle.opfs_commit.proofs.laws.other_calls_leave_the_images.Goals as goal

pub returns-clause-reads : goal.returns-clause-reads
returns-clause-reads g s told a back old new images is =
    let laws = g.met.D.Disk in
    let only = is.told told in
    read_images g.D.Disk (laws.falls told) a (committing old back) (committing new back) images is.stays.areas (λ i. record { format = is.format i; records = only.records i }) refl only.time is.in_doubt only.doubt only.same only.moments

pub returns-clause-shown : goal.returns-clause-shown
returns-clause-shown g s told a back old new images is =
    let laws = g.met.D.Disk in
    let only = is.told told in
    read_moments g.D.Disk (laws.falls told) a (committing old back) (committing new back) images is.stays.areas (λ i. record { format = is.format i; records = only.records i }) refl only.time is.in_doubt only.doubt only.same only.moments

pub returns-clause-pages : goal.returns-clause-pages
returns-clause-pages g s told a back extents old new images is =
    let laws = g.met.D.Disk in
    let written = is.writes.told told in
    put_images g.D.Disk (laws.falls told) a (committing old back) (committing new back) images is.writes.stays.areas (λ i. record { format = is.writes.format i; records = written.records i }) refl written.time (laws.full told) (laws.whole told) is.writes.stays.length (is.writes.in_doubt ∙ is.settled) extents is.aside written.elsewhere written.moments

pub returns-clause-shown_beside : goal.returns-clause-shown_beside
returns-clause-shown_beside g s told a back extents old new images is =
    let laws = g.met.D.Disk in
    let written = is.writes.told told in
    put_moments g.D.Disk (laws.falls told) a (committing old back) (committing new back) images is.writes.stays.areas (λ i. record { format = is.writes.format i; records = written.records i }) refl written.time (laws.full told) (laws.whole told) is.writes.stays.length (is.writes.in_doubt ∙ is.settled) extents is.aside written.elsewhere written.moments
