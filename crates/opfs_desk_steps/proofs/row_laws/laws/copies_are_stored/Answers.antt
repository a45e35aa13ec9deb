use Rattle.opfs_desk_steps.proofs.row_laws.Copied.{telling-after, copies-stored}
use Rattle.opfs_desk_steps.proofs.row_laws.laws.copies_are_stored.Goals as goal

pub returns-clause-pages : goal.returns-clause-pages
returns-clause-pages g c = telling-after c.pages_are_left.ensures g.D.Disk

pub returns-clause-copies : goal.returns-clause-copies
returns-clause-copies g c =
    copies-stored c.state_laws.ensures c.pages_are_left.ensures c.lengths_follow_each_call.ensures c.local_calls_are_known_by_their_word.ensures g.D.Disk
