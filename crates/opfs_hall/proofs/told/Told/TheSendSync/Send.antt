-- A `Told` owns nothing, so it may go to any thread.
use denote.RattleType.{RattleType}
use denote.Param.Send.{IsSend}
use Rattle.opfs_hall.specs.contracts.told.Told.{the_row}

pub send : (T : RattleType) → IsSend (the_row T)
send T = record { owned = λ told bytes. ((λ outer. (tt, ((λ inner. (tt, tt)), tt))), tt); leaving = λ k f bytes. tt }
