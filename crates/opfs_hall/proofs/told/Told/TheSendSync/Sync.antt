-- A `Told` owns nothing, so any thread may share it.
use denote.RattleType.{RattleType}
use denote.Param.Send.{IsSync, part_keyless}
use Rattle.opfs_hall.specs.contracts.told.Told.{the_row}
use Rattle.opfs_hall.proofs.told.Told.TheSendSync.Send.{send}

pub sync : (T : RattleType) → IsSync (the_row T)
sync T = record { shared = λ told block offset κ q. part_keyless (the_row T) (send T) q told block offset }
