use Rattle.std.proofs.Common.{refl, sym, ◌∙◌}
use Rattle.std.proofs.lemmas.Bool.{true≢false}
use Rattle.opfs_commit.specs.Seen.{committing}
use Rattle.opfs_commit.proofs.Settling.{none_doubted, settle_done, shut_stopped, settle_moments}
use Rattle.opfs_commit.proofs.laws.a_doubt_ends.Goals as goal

pub returns-clause-ends : goal.returns-clause-ends
returns-clause-ends g s told a back old new images is =
    let laws = g.met.D.Disk in
    settle_done g.D.Disk (laws.full told) (laws.whole told) (laws.falls told) a (committing old back) (committing new back) images is.stays.length is.stays.areas refl is.none (is.told told) is.sure (is.durable told)

pub returns-clause-stays : goal.returns-clause-stays
returns-clause-stays g s told a back old new images is =
    let laws = g.met.D.Disk in
    shut_stopped g.D.Disk (laws.full told) (laws.whole told) (laws.falls told) a (committing old back) (committing new back) images is.stays.length is.stays.areas refl is.was (is.told told) is.unsure (is.doubt told) (is.behind told)

pub returns-clause-shown : goal.returns-clause-shown
returns-clause-shown g s told a back old new images is =
    let laws = g.met.D.Disk in
    settle_moments g.D.Disk (laws.full told) (laws.whole told) (laws.falls told) a (committing old back) (committing new back) images is.stays.length is.stays.areas refl is.none (is.told told)

pub returns-clause-shown_still : goal.returns-clause-shown_still
returns-clause-shown_still g s told a back old new images is =
    let laws = g.met.D.Disk in
    settle_moments g.D.Disk (laws.full told) (laws.whole told) (laws.falls told) a (committing old back) (committing new back) images is.stays.length is.stays.areas refl (λ settled. absurd (true≢false (sym is.was ∙ settled))) (λ _. is.told told)

pub returns-clause-none : goal.returns-clause-none
returns-clause-none g s told a own k images settled = none_doubted g.D.Disk a own k images settled
