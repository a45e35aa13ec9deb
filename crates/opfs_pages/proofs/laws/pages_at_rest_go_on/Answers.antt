use Rattle.opfs_pages.proofs.Rest.{rest_begins}
use Rattle.opfs_pages.proofs.laws.pages_at_rest_go_on.Goals as goal

pub returns : goal.returns
returns c = rest_begins
