use Rattle.opfs_pages.proofs.history_laws.Puts.{put-told}
use Rattle.opfs_pages.proofs.history_laws.steady.pages_that_were_put_tell_the_row.Goals as goal

pub returns : goal.returns
returns c = λ s w extents before after base old now mid new agent row pages i is within.
    put-told (Unit {0}) tt s w extents before after base old now mid new agent row pages is.from is.base_is is.agent_is is.row_is is.same is.alike is.count is.put is.many i within
