use Rattle.opfs_laws.proofs.Going.{called, answered, go-on, front-legal}
use Rattle.opfs_laws.proofs.Local.{none_victims, pending-legal}
use Rattle.opfs_machine.specs.Histories.{state_after}
use Rattle.opfs_laws.proofs.going_on.legal_histories_go_on.Goals as goal

pub returns : goal.returns
returns c = record {
  call = called;
  answered = answered;
  more = go-on;
  front = front-legal;
  local = λ s k e h. none_victims s e.agent e.op h.local;
  pending = λ o h more k legal next. (go-on o h more legal (pending-legal (state_after o h) k more next)).0;
  call_after = λ o h more k d legal next may. called o _ d (go-on o h more legal (pending-legal (state_after o h) k more next)).0 may;
}
