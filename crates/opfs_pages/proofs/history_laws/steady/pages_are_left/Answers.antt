use Rattle.opfs_pages.proofs.history_laws.Alike.{there-stays, told-stays}
use Rattle.opfs_pages.proofs.history_laws.steady.pages_are_left.Goals as goal

pub returns : goal.returns
returns c = record {
  there = λ o h more old new go was. there-stays o h more old new go.none go.stay was;
  told = λ o h more old new base c d go alike was told. told-stays o h more old new go.none go.stay base c d alike was told;
}
