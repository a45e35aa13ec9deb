use Rattle.opfs_pages.proofs.Rest.{written_is, resized_is, stored_is}
use Rattle.opfs_pages.proofs.laws.a_call_changes_as_it_says.Goals as goal

pub returns-clause-written : goal.returns-clause-written
returns-clause-written c = written_is

pub returns-clause-resized : goal.returns-clause-resized
returns-clause-resized c = resized_is

pub returns-clause-stored : goal.returns-clause-stored
returns-clause-stored c = stored_is
