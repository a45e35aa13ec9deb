-- A `Front` owns nothing, so any thread may share it.
use denote.Param.Send.{IsSync, part_keyless}
use Rattle.opfs_hist.specs.contracts.front.Front.{the_row}
use Rattle.opfs_hist.proofs.front.Front.TheSendSync.Send.{send}

pub sync : IsSync the_row
sync = record { shared = λ front block offset κ q. part_keyless the_row send q front block offset }
