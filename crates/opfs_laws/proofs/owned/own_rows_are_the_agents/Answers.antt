use Rattle.opfs_laws.proofs.Alike.{local-alike, step-alike}
use Rattle.opfs_laws.proofs.Others.{others-same}
use Rattle.opfs_laws.proofs.owned.own_rows_are_the_agents.Goals as goal

pub returns : goal.returns
returns c = record {
  local = step-alike;
  told = λ s t k o same. local-alike s t k same o;
  others = others-same;
}
