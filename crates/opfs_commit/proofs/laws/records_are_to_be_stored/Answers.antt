use Rattle.opfs_commit.proofs.Keeping.{own_to_store, kept_to_store, alone_to_store, next_to_store, next_alone_to_store}
use Rattle.opfs_commit.proofs.laws.records_are_to_be_stored.Goals as goal

pub returns-clause-with_own : goal.returns-clause-with_own
returns-clause-with_own g s told a k spelled change built images settled short is =
    own_to_store g.D.Disk a k images settled short spelled change built is.again is.found is.fits is.makes

pub returns-clause-kept_back : goal.returns-clause-kept_back
returns-clause-kept_back g s told a k images settled short fits =
    kept_to_store g.D.Disk a k images settled short fits

pub returns-clause-from_nothing : goal.returns-clause-from_nothing
returns-clause-from_nothing g s told a k own body built images settled is =
    alone_to_store g.D.Disk a k images settled own body built is.builds is.fits is.makes

pub returns-clause-next : goal.returns-clause-next
returns-clause-next g s told a k spelled change built next images settled sound is kind = next_to_store g.D.Disk a k images settled spelled change built next sound is kind

pub returns-clause-next_alone : goal.returns-clause-next_alone
returns-clause-next_alone g s told a k next images settled sound fits kind = next_alone_to_store g.D.Disk a k images settled next sound fits kind
