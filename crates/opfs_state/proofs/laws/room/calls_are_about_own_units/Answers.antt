use Rattle.std.proofs.Common.{[]}
use Rattle.opfs_laws.proofs.OwnFiles.{OwnFiles, own_files-kept, own_files-begun}
use Rattle.opfs_laws.proofs.Reaching.{kept-all}
use Rattle.opfs_machine.specs.Histories.{state_after}
use Rattle.opfs_machine.specs.Openings.{begun}
use Rattle.opfs_state.proofs.laws.Owning.{own-units}
use Rattle.opfs_state.proofs.laws.room.calls_are_about_own_units.Goals as goal

pub returns : goal.returns
returns c = λ o h k op legal may plain. own-units (state_after o h) k op (kept-all OwnFiles own_files-kept (begun o) [] h legal (own_files-begun o)) may plain
