use Rattle.opfs_books.proofs.stored.Covering.{covered, evict-makes}
use Rattle.opfs_books.proofs.stored.Making.{calls-make}
use Rattle.opfs_books.proofs.stored.Telling.{spelled-told}
use Rattle.opfs_books.proofs.stored.Tied.{stores-tied}
use Rattle.opfs_books.proofs.stored.laws.calls_are_spelled.Goals as goal

pub returns : goal.returns
returns g = record {
  told = spelled-told;
  makes = calls-make;
  tied = stores-tied;
  evicts = evict-makes;
  covered = covered;
}
