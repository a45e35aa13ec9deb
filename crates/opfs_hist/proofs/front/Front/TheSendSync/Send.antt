-- A `Front` owns nothing, so it may go to any thread.
use denote.Param.Send.{IsSend}
use Rattle.opfs_hist.specs.contracts.front.Front.{the_row}

pub send : IsSend the_row
send = record { owned = λ front bytes. ((λ outer. (tt, ((λ inner. (tt, tt)), tt))), tt); leaving = λ k f bytes. tt }
