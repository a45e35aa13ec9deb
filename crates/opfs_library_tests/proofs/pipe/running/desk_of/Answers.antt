use Rattle.opfs_books.specs.Openings.Openings.{caller_by}
use Rattle.opfs_notebook.specs.Ready.{asks}
use Rattle.opfs_notebook.proofs.Beginning.{few-two, two-keys}
use Rattle.opfs_library_tests.proofs.pipe.running.desk_of.Goals as goal

pub make-requires-clause-few : goal.make-requires-clause-few
make-requires-clause-few g c = few-two caller_by c.in-Ok.agents.items (asks c.args.first.now) (asks c.args.second.now) c.in-Ok.ensures

pub make-requires-clause-keys : goal.make-requires-clause-keys
make-requires-clause-keys g c = two-keys c.args.first.now c.args.second.now _ c.in-Ok.ensures c.requires.first c.requires.second
