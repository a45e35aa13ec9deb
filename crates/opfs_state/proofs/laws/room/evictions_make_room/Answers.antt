use Rattle.std.proofs.Common.{[]}
use Rattle.opfs_laws.proofs.OwnFiles.{OwnFiles, own_files-kept, own_files-begun}
use Rattle.opfs_laws.proofs.Reached.{whole}
use Rattle.opfs_laws.proofs.Reaching.{kept-all}
use Rattle.opfs_machine.specs.Histories.{state_after}
use Rattle.opfs_machine.specs.Openings.{begun}
use Rattle.opfs_state.proofs.laws.Making.{has-room}
use Rattle.opfs_state.proofs.laws.room.evictions_make_room.Goals as goal

pub returns : goal.returns
returns c = λ o h k op units opening legal may plain judged.
    has-room (state_after o h) k op units (whole o h opening legal) (kept-all OwnFiles own_files-kept (begun o) [] h legal (own_files-begun o)) may plain judged
